-- The tests are the definition's.
use Rattle.ready_sizes.specs.Sizes.{sizes_fit}
use Rattle.ready_sizes.proofs.sizes_fit.Goals as goal

pub returns : goal.returns
unfolding sizes_fit
returns c = rw (c.window_fits.ensures, c.saturating_sub-most.ensures)
