-- `count_up` meets its contract: the loop keeps `Raising`, and its measure is the number of places left.
use native.Mathlib.Omega.{arith}
use Rattle.lines.proofs.Raising.{raising_turn, raising_last, raising_end}
use Rattle.lines.proofs.count_up.Goals as goal

pub returns-then-i-start : goal.returns-then-i-start
returns-then-i-start c =
    raising_last _ _ _ _ c.loop-i.invariant c.loop-i-test.true c.if-places-i-lt57.true (omega arith)

pub returns-then-places-i-lt57 : goal.returns-then-places-i-lt57
returns-then-places-i-lt57 c =
    raising_last _ _ _ _ c.loop-i.invariant c.loop-i-test.true c.if-places-i-lt57.true (omega arith)

pub loop-i-preserved : goal.loop-i-preserved
loop-i-preserved c = raising_turn _ _ _ c.loop-i.invariant c.loop-i-test.true c.if-places-i-lt57.false

pub returns : goal.returns
returns c = raising_end _ _ _ _ c.loop-i.invariant (omega arith)
