-- Words stored at an index are the slot stored in the row that they mean.
use Rattle.versions.proofs.Laws.{row_stored}
use Rattle.versions.proofs.store.Goals as goal

pub returns : goal.returns
returns c =
    let a = c.args in
    row_stored a.row.now a.i a.s _ _ c.count-x.ensures c.held.ensures
