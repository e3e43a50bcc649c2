-- `spill_line` meets its contract: what follows the number covers what spilled after it.
use native.Mathlib.Omega.{arith}
use Rattle.lines.proofs.Spilling.{spills_then}
use Rattle.lines.proofs.spill_line.Goals as goal

pub returns : goal.returns
returns c =
    spills_then (omega arith) c.put_number-space.ensures.spills c.spill_tail.ensures
