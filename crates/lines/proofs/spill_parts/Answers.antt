-- `spill_parts` meets its contract: the row and the rest of the line are written one after the other.
use mathlib.Core.Path.{sym, ◌∙◌}
use native.Mathlib.Omega.{arith}
use Rattle.model.specs.Log.{text}
use Rattle.lines.proofs.Longest.{after-decimal}
use Rattle.lines.proofs.Rows.{after-row, after-status, with_number, without_number}
use Rattle.lines.proofs.spill_parts.Goals as goal

pub spill_decimal-end-requires : goal.spill_decimal-end-requires
spill_decimal-end-requires c = omega (arith, after-row)

pub spill_status-last-requires : goal.spill_status-last-requires
spill_status-last-requires c =
    (c.requires.0, omega (arith, after-row, after-decimal))

pub put_byte-requires : goal.put_byte-requires
put_byte-requires c = omega (arith, after-row, after-decimal, after-status)

pub returns-then-numbered : goal.returns-then-numbered
unfolding text
returns-then-numbered c =
    with_number c.args.kind c.args.status c.args.number
    (sym c.numbered.ensures ∙ c.if-numbered.true)
    (omega (arith, c.requires.1)) (omega (arith, after-row)) (omega (arith, after-row, after-decimal)) c.put_row-next.ensures
    c.spill_decimal-end.ensures
    c.spill_status-last.ensures
    c.put_byte.ensures

pub returns : goal.returns
returns c =
    let A = c.args in
    without_number A.kind A.status A.number (sym c.numbered.ensures ∙ c.if-numbered.false) c.put_row-next.ensures
