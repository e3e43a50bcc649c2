-- `count_up` meets its contract: the loop keeps `Raising`, and its measure is the number of places left.
use Rattle.lines.proofs.Raising.{Raising}
use Rattle.lines.proofs.count_up.Given as goal

abbrev pub invariant-loop-i : goal.invariant-loop-i
invariant-loop-i l = Raising l.initial.places l.places l.i

abbrev pub decreases-loop-i : goal.decreases-loop-i
decreases-loop-i l = l.i
