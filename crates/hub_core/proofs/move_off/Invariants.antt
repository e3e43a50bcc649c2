-- The reads of the workers before the index are moved.
use Rattle.std.specs.Prelude.{◌≡◌}
use Rattle.lists.proofs.Mapped.{mapped}
use Rattle.simulation.specs.Shell.{off_worker}
use Rattle.hub_core.proofs.move_off.Given as goal

abbrev pub invariant-loop-y : goal.invariant-loop-y
invariant-loop-y l = l.workers ≡ mapped (off_worker l.slot l.older) l.y-index l.initial.workers
