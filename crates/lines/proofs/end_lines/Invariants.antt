-- `end_lines` meets its contract: the loop keeps `Ending`, and its measure is the number of answers left.
use Prim.Native.Nat.{◌-◌}
use Rattle.lines.proofs.Ending.{Ending}
use Rattle.lines.proofs.end_lines.Given as goal

abbrev pub invariant-loop-k : goal.invariant-loop-k
invariant-loop-k l =
    Ending l.first l.kinds l.numbers l.most l.initial.out l.begun l.from l.out l.places l.start l.at l.k

abbrev pub decreases-loop-k : goal.decreases-loop-k
decreases-loop-k l = l.most - l.k
