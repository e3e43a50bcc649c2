-- `give` meets its contract: the memory counts as set up, or the table is taken or not.
use mathlib.Core.Path.{refl}
use mathlib.Core.Bool.{true, false}
use Rattle.versions.specs.Versions.{row_of}
use Rattle.simulation.specs.Lent.{lent_memory}
use Rattle.tables.proofs.Given.{tested, late, taken, of_table}
use Rattle.tables.proofs.give.Goals as goal

-- what the test says of the memory that is lent, and what is left of it
pub returns-then-ready : goal.returns-then-ready
returns-then-ready c =
    let a = c.args in
    let up = tested a.hub a.row.now a.lent.now true _
    c.all_linked-linked.ensures c.if-ready.ensures in
    record {
      gives = of_table a.table _ _ _ _
          (late (lent_memory a.hub (row_of a.row.now) a.lent.now) a.bytes.now true _ up refl c.number.ensures);
      count = refl;
    }

pub returns : goal.returns
returns c =
    let a = c.args in
    let r = c.give_rights in
    let up = tested a.hub a.row.now a.lent.now false _
    c.all_linked-linked.ensures c.if-ready.ensures in
    record {
      gives = of_table a.table _ _ _ _
          (taken (lent_memory a.hub (row_of a.row.now) a.lent.now) a.bytes.now false r.result up refl
          r.ensures);
      count = r.ensures.count;
    }
