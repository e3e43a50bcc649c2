-- `call` meets its contract: the slots go into words and come back, and the call on the words does what is asked.
use mathlib.Core.List.{List}
use borrow.Author.Rules.{rules}
use Rattle.model.specs.Rules.{of_totals}
use Rattle.slots.specs.declared.Slot.{Slot}
use Rattle.simulation.specs.Lent.{lent_memory}
use Rattle.calls.specs.Calls.{Performed}
use Rattle.hub.proofs.Rows.{through}
use Rattle.hub.proofs.Whole.{on_row}
use Rattle.hub.proofs.call.Goals as goal

pub returns : goal.returns
returns c =
    let a = c.args in
    let d = c.perform-done in
    let t = through a.slots.now 2048 c.min-n.result (search rules)
    (λ (l l' : List Slot). Performed a.what (lent_memory a.hub l a.lent.now) (of_totals a.given.now)
    a.bytes.now a.kinds.now a.numbers.now d.result
    (lent_memory d.result.hub l' d.new.lent) d.new.kinds d.new.numbers)
    c.zeros-row.result c.load_row.new.row d.new.row c.store_row.new.slots (search rules) c.load_row.ensures (search rules) c.store_row.ensures d.ensures.1 in
    on_row _ _ t.0 _ _ _ _ _ _ _ a.what t.1
