-- The two tests that it makes are those of the definition.
use Rattle.ready.specs.Ready.{ready_of}
use Rattle.ready.proofs.ready.Goals as goal

pub returns : goal.returns
unfolding ready_of
returns c = rw (c.scans_fit-fit.ensures, c.stands.ensures)
