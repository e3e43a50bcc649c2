-- `spell` meets its contract: the loop keeps `Spelling`, and its measure is the number of places left.
use Rattle.lines.proofs.Spelling.{Spelling}
use Rattle.lines.proofs.spell.Given as goal

abbrev pub invariant-loop-i : goal.invariant-loop-i
invariant-loop-i l = Spelling l.places l.x l.i l.rest

abbrev pub decreases-loop-i : goal.decreases-loop-i
decreases-loop-i l = l.i
