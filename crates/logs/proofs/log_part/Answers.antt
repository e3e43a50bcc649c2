-- `log_part` meets its contract: the bytes that it hands on are those of the records for whose lines there is room.
use native.Mathlib.Omega.{arith}
use Rattle.model.specs.Rules.{of_totals}
use Rattle.logs.proofs.Part.{handed-on, part_logged}
use Rattle.logs.proofs.log_part.Goals as goal

pub returns : goal.returns
returns c =
    let x = c.args in
    let e = c.write_lines-used.ensures in
    let b = c.min-n.result in
    record { logs = part_logged _ _ _ (handed-on (of_totals x.given.now) x.bytes.now x.text.now b (omega (arith, c.min-n.ensures)) c.apply_all-done.ensures.applies) e; used_in_bounds = e.inside }
