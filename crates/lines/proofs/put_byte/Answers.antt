-- `put_byte` meets its contract.
use Rattle.lines.proofs.Appending.{append-byte}
use Rattle.lines.proofs.put_byte.Goals as goal

pub returns : goal.returns
returns c = append-byte c.args.b c.args.out.now c.args.at c.requires
