-- `perform` meets its contract: each arm's call does to the first words what is asked.
use mathlib.Core.Path.{refl}
use Rattle.calls.specs.declared.Call.TheVariants.{Record, Records}
use Rattle.calls.proofs.Within.{rest-kept, performed}
use Rattle.calls.proofs.perform.Goals as goal

pub returns-in-Record : goal.returns-in-Record
returns-in-Record c =
    let a = c.args in (
      rest-kept a.n c.min-k.result a.row.now c.apply_one.new.row c.min-k.ensures c.apply_one.auto.row,
      performed a.n c.min-k.result a.row.now c.apply_one.new.row c.min-k.ensures c.apply_one.auto.row
          a.what Record c.in-Record.is (record { done = (c.apply_one.ensures, refl, refl) }),
    )

pub returns-in-Records : goal.returns-in-Records
returns-in-Records c =
    let a = c.args in (
      rest-kept a.n c.min-k.result a.row.now c.apply_all.new.row c.min-k.ensures c.apply_all.auto.row,
      performed a.n c.min-k.result a.row.now c.apply_all.new.row c.min-k.ensures c.apply_all.auto.row
          a.what Records c.in-Records.is (record { done = c.apply_all.ensures }),
    )
