-- The loop's invariant is `Splitting`, with a finger that knows the times beside it.
use Rattle.range_split.specs.Split.{Beside}
use Rattle.range_split.proofs.Splitting.{Splitting}
use Rattle.range_split.proofs.pass_in_place.Given as goal

abbrev pub invariant-loop-i : goal.invariant-loop-i
invariant-loop-i l = Beside l.times l.finger × Splitting l.times l.initial.m l.initial.out l.m l.out l.i l.j
