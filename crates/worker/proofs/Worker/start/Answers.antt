-- Both sides compute to one value.
use Rattle.std.proofs.Common.{refl}
use Rattle.lists.specs.Over.{over}
use Rattle.worker.specs.Rep.{padded}
use Rattle.worker.proofs.Worker.start.Goals as goal

pub returns : goal.returns
unfolding padded over
returns c = refl
