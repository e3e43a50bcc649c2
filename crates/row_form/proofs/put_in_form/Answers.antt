-- `put_in_form`: each arm writes the bytes of its form behind the first eight.
use Rattle.std.proofs.Common.{◌∙◌, ◌++◌, ap, take, arith}
use borrow.Author.Tests.{eq-eqb}
use Rattle.model.specs.Digits.{in_form}
use Rattle.le.proofs.Numbers.{number-there}
use Rattle.le.proofs.Bytes.{le_bytes}
use Rattle.row_form.proofs.Row.{over_last, put-new}
use Rattle.row_form.proofs.put_in_form.Goals as goal

pub returns-in-New : goal.returns-in-New
unfolding in_form
returns-in-New c =
    let h = c.if-row-ne16.false in
    let b = c.args.row.now in
    rw (eq-eqb _ _ h, c.in-New.is, c.copy_from_slice.ensures.after, c.bcd_of.ensures, c.eight-x.ensures, number-there b 8 8 (omega (arith, h))) (put-new b _ h)

pub returns-in-Old : goal.returns-in-Old
unfolding in_form
returns-in-Old c =
    let h = c.if-row-ne16.false in
    let b = c.args.row.now in
    rw (eq-eqb _ _ h, c.in-Old.is, c.copy_from_slice-in-Old.ensures.after, c.to_le_bytes.ensures, c.bcd_number-x.ensures)
    (over_last 8 b _ (omega (arith, h)) ∙ ap (λ l. take 8 b ++ l) (le_bytes _ 8))
