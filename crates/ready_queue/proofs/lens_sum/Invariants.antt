-- The loop's invariant: the sum is that of the first j lengths, each of which is below 2 ^ 32, so that 4,096 of them do not wrap.
use mathlib.Core.Path.{◌≡◌}
use Prim.Native.Nat.{◌*◌, ◌≤◌}
use Rattle.ready_queue.specs.Queue.{lens_sum}
use Rattle.ready_queue.proofs.lens_sum.Given as goal

abbrev pub invariant-loop-x : goal.invariant-loop-x
invariant-loop-x l = (l.sum ≡ lens_sum l.lens l.i l.x-index) × (l.sum ≤ 4294967296 * l.x-index)
