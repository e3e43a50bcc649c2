-- Where there is a list the test is `list_fits`, elsewhere there is nothing to test.
use borrow.Author.Tests.{le-leb, lt-leb}
use Rattle.ready_worker.specs.Worker.{hand_fits}
use Rattle.ready_worker.proofs.hand_fits.Goals as goal

pub returns-then-w-ge16 : goal.returns-then-w-ge16
unfolding hand_fits
returns-then-w-ge16 c = rw (le-leb _ _ c.if-w-ge16.true)

pub returns-in-None : goal.returns-in-None
unfolding hand_fits
returns-in-None c = rw (lt-leb _ _ c.if-w-ge16.false, c.in-None.is)

pub returns-in-Some : goal.returns-in-Some
unfolding hand_fits
returns-in-Some c = rw (lt-leb _ _ c.if-w-ge16.false, c.in-Some.is, c.list_fits.ensures)
