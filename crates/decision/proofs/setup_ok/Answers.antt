-- `setup_ok` meets its contract: the same two tests.
use Rattle.decision.proofs.setup_ok.Goals as goal

pub returns : goal.returns
returns c = rw (c.sizes_ok.ensures, c.list_ok.ensures)
