-- `spill_decimal` meets its contract.
use Rattle.lines.proofs.Appending.{one_digit}
use Rattle.lines.proofs.Spilling.{spills_none}
use Rattle.lines.proofs.spill_decimal.Goals as goal

pub returns-then-x-lt10 : goal.returns-then-x-lt10
returns-then-x-lt10 c =
    spills_none (one_digit c.args.x c.if-x-lt10.true
    c.put_byte.ensures)
