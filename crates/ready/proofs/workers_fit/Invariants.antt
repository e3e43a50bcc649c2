-- `ok` is the answer for the first w workers.
use Rattle.std.proofs.Common.{◌≡◌}
use Rattle.ready.specs.Ready.{workers_fit}
use Rattle.ready.proofs.workers_fit.Given as goal

abbrev pub invariant-loop-w : goal.invariant-loop-w
invariant-loop-w l = l.ok ≡ workers_fit l.fn.hub l.merged l.local l.list l.w
