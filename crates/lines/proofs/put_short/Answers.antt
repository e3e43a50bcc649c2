-- `put_short` meets its contract: the loop keeps `Leading`, and its measure is the unit.
use borrow.Author.Rules.{rules}
use Rattle.lines.proofs.Leading.{leading_start, leading_turn, leading_end}
use Rattle.lines.proofs.put_short.Goals as goal

pub loop-unit-init : goal.loop-unit-init
loop-unit-init c = leading_start _ _ _ c.requires.0 c.requires.1

pub loop-unit-preserved : goal.loop-unit-preserved
loop-unit-preserved c =
    leading_turn c.loop-unit.invariant c.loop-unit-test.true (search rules)
    c.put_lead-end.ensures.spills c.put_lead-end.ensures.upper_bound

pub returns : goal.returns
returns c =
    leading_end c.loop-unit.invariant c.loop-unit-test.false
    c.put_byte.ensures
