-- `put_short` meets its contract: the loop keeps `Leading`, and its measure is the unit.
use Rattle.lines.proofs.Leading.{Leading}
use Rattle.lines.proofs.put_short.Given as goal

abbrev pub invariant-loop-unit : goal.invariant-loop-unit
invariant-loop-unit l = Leading l.x l.at l.initial.out l.out l.end l.unit

abbrev pub decreases-loop-unit : goal.decreases-loop-unit
decreases-loop-unit l = l.unit
