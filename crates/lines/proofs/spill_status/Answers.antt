-- `spill_status` meets its contract: a space and the status are written one after the other, or nothing.
use mathlib.Core.Path.{sym, ◌∙◌}
use native.Mathlib.Omega.{arith}
use Rattle.model.specs.Log.{text}
use Rattle.lines.proofs.Rows.{with-status, without_status}
use Rattle.lines.proofs.spill_status.Goals as goal

pub returns-then-has_status : goal.returns-then-has_status
unfolding text
returns-then-has_status c =
    with-status c.args.kind c.args.status (sym c.has_status.ensures ∙ c.if-has_status.true) (omega (arith, c.requires.1))
    c.put_byte-next.ensures c.spill_decimal.ensures

pub returns : goal.returns
returns c =
    without_status c.args.kind c.args.status (sym c.has_status.ensures ∙ c.if-has_status.false) (omega (arith, c.requires.1))
