-- `put_number` meets its contract: the last digit covers the first byte that spilled after the others.
use Prim.Native.Nat.{◌≤◌}
use lib.ListN.{length}
use native.Mathlib.Omega.{arith}
use Rattle.lines.proofs.Spilling.{spills_none, spills_eight, spills_then}
use Rattle.lines.proofs.put_number.Goals as goal

pub returns : goal.returns
returns c =
    let h : c.args.at ≤ length c.args.out.now = omega arith in
    let digits = spills_eight c.args.head.now c.args.n c.requires.0 (omega arith)
    c.put_text.ensures in
    record { spills = spills_then h digits (spills_none c.put_byte.ensures); value = omega (arith, c.put_byte.ensures.next) }
