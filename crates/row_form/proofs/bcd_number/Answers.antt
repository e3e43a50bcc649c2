-- `bcd_number`: a byte more is read, and there are at most six.
use Rattle.std.proofs.Common.{◌≡◌, ◌-◌, ◌^◌, ◌≤◌, suc, arith, ◌∙◌}
use Rattle.std.proofs.Math.Nat.{pow-le-pow_right}
use Rattle.row_form.proofs.Row.{grown, read_on}
use Rattle.row_form.proofs.bcd_number.Goals as goal

pub overflow_mul-x : goal.overflow_mul-x
overflow_mul-x c =
    let k : 100 ^ (16 - c.loop-i.i) ≤ 100 ^ 5 = pow-le-pow_right (omega arith) {j = 5} (omega (arith, c.loop-i-test.true)) in
    omega (arith, k, c.loop-i.invariant.bound)

pub overflow_add-x : goal.overflow_add-x
overflow_add-x c =
    let k : 100 ^ (16 - c.loop-i.i) ≤ 100 ^ 5 = pow-le-pow_right (omega arith) {j = 5} (omega (arith, c.loop-i-test.true)) in
    omega (arith, k, c.loop-i.invariant.bound, c.from.ensures, c.of_bcd_byte.ensures.1)

pub loop-i-preserved : goal.loop-i-preserved
loop-i-preserved c =
    let i = c.loop-i.i in
    let h = c.loop-i-test.true in
    let e : 16 - (i - 1) ≡ suc (16 - i) = omega (arith, h, c.loop-i.auto.i) in
    record {
      within = omega (arith, h);
      read = read_on _ _ _ _ h c.loop-i.auto.i c.loop-i.invariant.read (c.from.ensures ∙ c.of_bcd_byte.ensures.0);
      bound = rw e (grown _ _ _ c.loop-i.invariant.bound (omega (arith, c.from.ensures, c.of_bcd_byte.ensures.1)));
    }
