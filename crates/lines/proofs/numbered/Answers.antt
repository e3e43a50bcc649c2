-- `numbered` meets its contract: the byte of the kind's row behind the rows says it.
use Rattle.lines.proofs.Rows.{row_mark}
use Rattle.lines.proofs.numbered.Goals as goal

pub returns : goal.returns
returns c =
    row_mark c.args.table.now c.args.kind c.least.result c.requires c.least.ensures
