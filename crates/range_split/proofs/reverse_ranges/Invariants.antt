-- The loop's invariant is `Reversing`; the measure is how many exchanges are left.
use Rattle.range_split.proofs.Reversing.{Reversing}
use Rattle.range_split.proofs.reverse_ranges.Given as goal

abbrev pub invariant-loop-i : goal.invariant-loop-i
invariant-loop-i l = Reversing l.initial.m l.n l.m l.i
