-- Each arm makes the changes of `unlinked_in`, by the test of the loaded slot's older neighbour.
use borrow.Author.Tests.{eq-eqb, ne_eqb}
use Rattle.versions.specs.Versions.{row_of}
use Rattle.linking.proofs.Laws.{unlinked-oldest, unlinked-between}
use Rattle.linking.proofs.unlink.Goals as goal

pub returns-then-o-eq4294967296 : goal.returns-then-o-eq4294967296
returns-then-o-eq4294967296 c =
    let a = c.args in
    unlinked-oldest (row_of a.row.now) a.i _ c.load-a.ensures _ _ (eq-eqb _ _ c.if-o-eq4294967296.true) c.set_older.ensures
    c.set_alone.ensures

pub returns-else-o-eq4294967296 : goal.returns-else-o-eq4294967296
returns-else-o-eq4294967296 c =
    let a = c.args in
    unlinked-between (row_of a.row.now) a.i _ c.load-a.ensures _ _ _ (ne_eqb _ _ c.if-o-eq4294967296.false) c.set_newer.ensures
    c.set_older-else-o-eq4294967296.ensures
    c.set_alone-else-o-eq4294967296.ensures
