-- `list_ok` meets its contract. The invariant: the rows before i pass, and so many rows of the group stand last among them.
use mathlib.Core.Path.{◌≡◌, sym, ◌∙◌}
use mathlib.Core.Bool.{and-false}
use Prim.Native.Nat.{◌*◌, ◌/◌, ◌%◌, ◌<◌}
use native.Mathlib.Omega.{arith}
use lib.ListN.{length}
use borrow.Author.Tests.{eq-eqb, ne_eqb}
use Rattle.model.specs.Record.{rows_of, list_fits}
use Rattle.le.proofs.Numbers.{number-there}
use Rattle.total_list.proofs.Listed.{length-rows, row_in}
use Rattle.total_list.proofs.Follow.{Turn, passed-more, failed, passed-all, long_fails}
use Rattle.total_list.proofs.list_ok.Goals as goal

pub returns-then-list-gt4096 : goal.returns-then-list-gt4096
returns-then-list-gt4096 c =
    let s = c.args in
    sym (long_fails s.v s.list.now (omega arith))

pub returns-then-list-ne0 : goal.returns-then-list-ne0
unfolding list_fits
returns-then-list-ne0 c =
    let s = c.args in
    rw (ne_eqb (length s.list.now % 4) 0 (λ e. absurd (omega (arith, e))))

pub returns-then-not-may_follow : goal.returns-then-not-may_follow
unfolding list_fits
returns-then-not-may_follow c =
    let s = c.args in
    let l = c.loop-i in
    let inside : l.i < length s.list.now / 4 = omega arith in
    let t : Turn s.v (rows_of s.list.now) l.group l.last l.i c.four-row.result c.rows_before-stand.result c.may_follow.result = record {
      passed = l.invariant.2;
      inside = omega (arith, length-rows s.list.now);
      row = c.four-row.ensures ∙ number-there s.list.now (4 * l.i) 4 (omega arith) ∙ sym (row_in s.list.now l.i inside);
      stand = c.rows_before-stand.ensures.0;
      test = c.may_follow.ensures;
    } in
    rw (failed _ _ t c.if-not-may_follow.true, and-false)

pub loop-i-preserved : goal.loop-i-preserved
loop-i-preserved c =
    let s = c.args in
    let l = c.loop-i in
    let inside : l.i < length s.list.now / 4 = omega arith in
    let t : Turn s.v (rows_of s.list.now) l.group l.last l.i c.four-row.result c.rows_before-stand.result c.may_follow.result = record {
      passed = l.invariant.2;
      inside = omega (arith, length-rows s.list.now);
      row = c.four-row.ensures ∙ number-there s.list.now (4 * l.i) 4 (omega arith) ∙ sym (row_in s.list.now l.i inside);
      stand = c.rows_before-stand.ensures.0;
      test = c.may_follow.ensures;
    } in
    (omega arith, omega arith, passed-more _ _ t _ c.group_of-group.ensures c.if-not-may_follow.false)

pub returns : goal.returns
unfolding list_fits
returns c =
    let s = c.args in
    let e : length s.list.now % 4 ≡ 0 = omega arith in
    let all = passed-all s.v (rows_of s.list.now) _ _ c.loop-i.i (omega (arith, length-rows s.list.now)) c.loop-i.invariant.2 in
    sym (rw (eq-eqb _ _ e) all)
