-- Each arm is one arm of `stamped_in`, by the test of the loaded slot's low.
use borrow.Author.Tests.{eq-eqb, ne_eqb}
use Rattle.versions.specs.Versions.{row_of}
use Rattle.stamping.proofs.Laws.{stamped_both, stamped_none}
use Rattle.stamping.proofs.stamp.Goals as goal

pub returns-then-a-eq4294967296 : goal.returns-then-a-eq4294967296
returns-then-a-eq4294967296 c =
    let a = c.args in
    stamped_both (row_of a.row.now) a.i a.clock _ c.load-a.ensures _ _ (eq-eqb _ _ c.if-a-eq4294967296.true) c.set_low.ensures
    c.set_high.ensures

pub returns-else-a-eq4294967296 : goal.returns-else-a-eq4294967296
returns-else-a-eq4294967296 c =
    let a = c.args in
    stamped_none (row_of a.row.now) a.i a.clock _ c.load-a.ensures (ne_eqb _ _ c.if-a-eq4294967296.false)
