-- The tests are the definition's.
use Rattle.std.proofs.Common.{refl}
use Rattle.ready_sizes.specs.Sizes.{window_fits}
use Rattle.ready_sizes.proofs.window_fits.Goals as goal

pub returns : goal.returns
unfolding window_fits
returns c = refl
