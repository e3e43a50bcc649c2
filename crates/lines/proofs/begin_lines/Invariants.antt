-- `begin_lines` meets its contract: the loop keeps `Beginning`, and its measure is the number of answers left.
use Prim.Native.Nat.{◌-◌}
use Rattle.lines.proofs.Beginning.{Beginning}
use Rattle.lines.proofs.begin_lines.Given as goal

abbrev pub invariant-loop-k : goal.invariant-loop-k
invariant-loop-k l =
    Beginning l.initial.out l.first l.kinds l.numbers l.most l.stop l.limit l.out l.places l.start l.head l.n l.last l.at l.k

abbrev pub decreases-loop-k : goal.decreases-loop-k
decreases-loop-k l =
    l.most - l.k
