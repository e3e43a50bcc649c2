-- `put_decimal` meets its contract: one digit is the number itself, and the digits shown are the number in decimal.
use Prim.Native.Nat.{◌+◌, ◌%◌}
use native.Mathlib.Omega.{arith}
use Rattle.lines.proofs.Appending.{append-byte, one_digit, append-spelled}
use Rattle.lines.proofs.Decimal.{spelled_start}
use borrow.Author.Rules.{rules}
use Rattle.lines.proofs.put_decimal.Goals as goal

pub returns-then-x-lt10 : goal.returns-then-x-lt10
returns-then-x-lt10 c =
    let a = c.args in
    one_digit a.x c.if-x-lt10.true (append-byte (48 + a.x % 10) a.out.now a.at (omega (arith, c.requires)))

pub put_digits-requires : goal.put_digits-requires
put_digits-requires c = (spelled_start c.spell-start.ensures, search rules)

pub returns : goal.returns
returns c = append-spelled c.spell-start.ensures c.put_digits.ensures.appended
