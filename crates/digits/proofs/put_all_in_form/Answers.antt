-- `put_all_in_form` meets its contract: the loop keeps `Putting`, by which the rows that are left lead to what is to be left behind.
use Rattle.digits.proofs.Rows.{lent-long, putting_turn, putting_end}
use Rattle.std.proofs.Common.{◌/◌, length, arith}
use borrow.Author.Tests.{eq-eqb}
use Rattle.digits.proofs.put_all_in_form.Goals as goal

pub loop-i-preserved : goal.loop-i-preserved
loop-i-preserved c =
    let k = c.loop-i.invariant.kept in
    let l = lent-long c.loop-i.rows c.loop-i.i (length c.args.rows.now / 16) (omega (arith, k)) c.loop-i-test.true in
    let e = rw (eq-eqb _ _ l) at c.put_in_form.ensures in
    putting_turn _ _ _ (omega arith) _ _ _ c.loop-i.invariant c.loop-i-test.true e

pub returns : goal.returns
returns c = putting_end _ _ _ (omega arith) _ _ c.loop-i.invariant c.loop-i-test.false
