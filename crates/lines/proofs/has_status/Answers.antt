-- `has_status` meets its contract: the byte of the kind's row behind the rows says it.
use Rattle.lines.proofs.Rows.{row_status}
use Rattle.lines.proofs.has_status.Goals as goal

pub returns : goal.returns
returns c =
    row_status c.args.table.now c.args.kind c.least.result c.requires c.least.ensures
