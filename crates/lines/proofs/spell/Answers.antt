-- `spell` meets its contract: the loop keeps `Spelling`, and its measure is the number of places left.
use Rattle.lines.proofs.Spelling.{spelling_turn, spelling_last, spelling_end}
use native.Mathlib.Omega.{arith}
use Rattle.lines.proofs.spell.Goals as goal

pub returns-then-rest-lt10 : goal.returns-then-rest-lt10
returns-then-rest-lt10 c = spelling_last _ _ _ _ c.loop-i.invariant c.loop-i-test.true c.if-rest-lt10.true

pub loop-i-preserved : goal.loop-i-preserved
loop-i-preserved c = spelling_turn _ _ _ _ c.loop-i.invariant c.loop-i-test.true c.if-rest-lt10.false

pub returns : goal.returns
returns c = spelling_end _ _ _ _ c.loop-i.invariant (omega arith)
