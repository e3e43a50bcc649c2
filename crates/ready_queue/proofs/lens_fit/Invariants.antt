-- The loop's invariant: `ok` is the answer for the first j pools, of which the definition takes the next as the turn does.
use mathlib.Core.Path.{◌≡◌}
use Rattle.ready_queue.specs.Queue.{lens_fit}
use Rattle.ready_queue.proofs.lens_fit.Given as goal

abbrev pub invariant-loop-x : goal.invariant-loop-x
invariant-loop-x l = l.ok ≡ lens_fit l.lens l.i l.most l.x-index
