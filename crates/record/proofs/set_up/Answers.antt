-- `set_up` meets its contract: each return rewrites with the test of the unused bytes, and with the numbers read.
use Rattle.model.specs.Record.{command_of, unused_zero}
use Rattle.le.proofs.Numbers.{number-zero}
use Rattle.record.proofs.set_up.Goals as goal

pub returns-then-two-four : goal.returns-then-two-four
unfolding command_of unused_zero
returns-then-two-four c =
    let b = c.args.rec.now in
    rw (
      ← number-zero b 6 2,
      ← number-zero b 12 4,
      ← c.two.ensures,
      ← c.four.ensures,
      c.if-two-four.true,
      ← c.one.ensures,
      ← c.two-then-two-four.ensures,
      ← c.two-then-two-four-2.ensures,
      ← c.four-then-two-four.ensures,
    )

pub returns : goal.returns
unfolding command_of unused_zero
returns c =
    let b = c.args.rec.now in
    rw (← number-zero b 6 2, ← number-zero b 12 4, ← c.two.ensures, ← c.four.ensures, c.if-two-four.false)
