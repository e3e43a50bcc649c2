-- `spill_lines` meets its contract: the loop keeps `Tenth`, and its measure is the number of lines left.
use Prim.Native.Nat.{◌-◌}
use lib.ListN.{take}
use Rattle.lines.proofs.Tens.{Tenth}
use Rattle.lines.proofs.spill_lines.Given as goal

abbrev pub invariant-loop-k : goal.invariant-loop-k
invariant-loop-k l =
    Tenth l.kinds l.numbers (take l.n l.head) l.digit l.begun l.from l.end l.initial.out l.out l.last l.at l.k

abbrev pub decreases-loop-k : goal.decreases-loop-k
decreases-loop-k l = l.end - l.k
