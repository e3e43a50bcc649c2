-- It is the conjunction of its tests.
use Rattle.ready_place.specs.Place.{place_fits}
use Rattle.ready_place.proofs.place_fits.Goals as goal

pub returns : goal.returns
unfolding place_fits
returns c = rw (c.below.ensures, c.below-2.ensures, c.read_fits.ensures, c.purpose_fits.ensures, c.below-3.ensures)
