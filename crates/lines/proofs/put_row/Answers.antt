-- `put_row` meets its contract: the row of the kind is copied, and its byte behind the rows says how much of it is text.
use Rattle.lines.proofs.Rows.{spills_row}
use Rattle.lines.proofs.put_row.Goals as goal

pub returns : goal.returns
returns c =
    spills_row c.args.table.now c.args.kind c.least-k.result c.requires.0 c.least-k.ensures c.put_text.ensures
