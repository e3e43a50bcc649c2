-- `write_line` meets its contract: without room nothing is written; else the number and what follows it are appended one after the other.
use native.Mathlib.Omega.{arith}
use Rattle.lines.proofs.Appending.{append-then, append-spelled}
use Rattle.lines.proofs.Room.{no_room, line-appended}
use Rattle.lines.proofs.Rows.{append-line}
use Rattle.lines.proofs.write_line.Goals as goal

pub returns-then-out-at : goal.returns-then-out-at
returns-then-out-at c n s = no_room _ _ _ _ _ (omega arith)

pub returns-then-out-at-lt70 : goal.returns-then-out-at-lt70
returns-then-out-at-lt70 c n s = no_room _ _ _ _ _ (omega arith)

pub returns : goal.returns
returns c n s =
    let A = c.args in
    line-appended (omega arith) (append-line n A.kind A.number
    (append-then (omega arith) (append-spelled s c.put_digits-space.ensures.appended)
    c.put_tail.ensures))
