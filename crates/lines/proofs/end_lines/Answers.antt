-- `end_lines` meets its contract: the loop keeps `Ending`, and its measure is the number of answers left.
use borrow.Author.Rules.{rules}
use Rattle.lines.proofs.Decimal.{spelled_start}
use Rattle.lines.proofs.Ending.{ending_turn}
use Rattle.lines.proofs.end_lines.Goals as goal

pub write_line-at-requires : goal.write_line-at-requires
write_line-at-requires c = spelled_start c.loop-k.invariant.number

pub loop-k-preserved : goal.loop-k-preserved
loop-k-preserved c =
    ending_turn _ _ _ _ _ _ _ c.loop-k.invariant
    c.loop-k-test.true
    (search rules) c.write_line-at.ensures c.count_up-start.ensures
