-- It is the conjunction of what its callees ensure of the place and the pool.
use borrow.Author.Tests.{le-leb}
use Rattle.ready_worker.specs.Worker.{worker_fits}
use Rattle.ready_worker.proofs.worker_fits.Goals as goal

pub returns : goal.returns
unfolding worker_fits
returns c =
    rw (
      le-leb _ _ c.if-local-gt64.false,
      le-leb _ _ c.if-list-gt256.false,
      ← c.about-y.ensures,
      c.place_fits.ensures,
      c.pool_fits.ensures,
      c.hand_fits.ensures,
      c.from.ensures,
    )
