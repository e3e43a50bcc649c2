-- `put_tens` meets its contract: below 10 there are no tens, and else their digits are those of the places.
use Prim.Native.Nat.{◌/◌}
use native.Mathlib.Omega.{arith}
use Rattle.lines.proofs.Counting.{tens_none, tens_some}
use Rattle.lines.proofs.Decimal.{spelled_start}
use Rattle.lines.proofs.put_tens.Goals as goal

pub returns-then-first-lt10 : goal.returns-then-first-lt10
returns-then-first-lt10 c = tens_none c.args.first c.args.head.now c.if-first-lt10.true

pub put_front-requires : goal.put_front-requires
put_front-requires c = spelled_start c.requires

pub returns : goal.returns
returns c =
    tens_some (c.args.first / 10) (omega (arith, c.if-first-lt10.false)) (omega arith) c.requires c.put_front.ensures
