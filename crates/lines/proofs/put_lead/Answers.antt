-- `put_lead` meets its contract.
use native.Mathlib.Omega.{arith}
use Rattle.lines.proofs.Leading.{lead_none, lead_some}
use Rattle.lines.proofs.put_lead.Goals as goal

pub returns-then-x-unit : goal.returns-then-x-unit
returns-then-x-unit c =
    let A = c.args in
    record { spills = lead_none A.x A.unit c.if-x-unit.true c.put_byte-next.ensures; upper_bound = omega arith }

pub returns : goal.returns
returns c =
    let A = c.args in
    let w = c.put_byte-next.ensures in
    record { spills = lead_some A.x A.unit c.if-x-unit.false w; upper_bound = omega (arith, w.next) }
