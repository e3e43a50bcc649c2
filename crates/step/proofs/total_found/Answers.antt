-- `total_found` meets its contract: the test of the value and the one of the row behind decide, and what the calls ensure is what a total leaves, by
-- the laws of proofs/Totals.antt.
-- what was found has at most twelve digits
use mathlib.Core.Path.{◌≡◌}
use mathlib.Core.Bool.{true}
use lib.Dec.{leb}
use borrow.Author.Tests.{le-leb, lt-leb}
use Rattle.model.specs.Rules.{twelve_digits}
use Rattle.model.specs.Totals.{row_at}
use Rattle.model.specs.Store.{count_of}
use Rattle.values.specs.Meaning.{content_of}
use Rattle.total_sums.specs.Sums.{sum_with}
use Rattle.step.proofs.Totals.{total_refused, total_next, total_answered}
use mathlib.Core.List.{List}
use Prim.Native.Nat.{ℕ, ◌≤◌}
use Rattle.values.specs.Meaning.{Content}
use Rattle.worker.specs.declared.Sum.{Sum}
use Rattle.step.proofs.total_found.Goals as goal

fits : (x : Content) (k : ℕ) → k ≡ count_of (content_of x) → k ≤ 999999999999 → leb (count_of (content_of x)) twelve_digits ≡ true
fits x k e h = rw (← e) (le-leb _ _ h)

-- the sums with it
sums : (sum : Sum) (rows : List ℕ) (i w : ℕ) (x : Content) (y : ℕ) (more : Sum) → more ≡ sum_with sum y x → y ≡ row_at rows w → w ≡ i
    → more ≡ sum_with sum (row_at rows i) x
sums sum rows i w x y more e f g = rw (e, f, g)

pub returns-then-goes_on : goal.returns-then-goes_on
returns-then-goes_on c =
    total_next _ _ _ _ (fits c.args.x _ c.count_of.ensures c.if-count_of-le999999999999.true)
    (sums c.args.sum c.args.rows.now c.args.i _ c.args.x _ _ c.sum_with-more.ensures c.row_at.ensures c.from.ensures) c.goes_on.ensures c.if-goes_on.true c.from-then-goes_on.ensures
    c.goal_at-goal.ensures c.outcome_of.ensures

pub returns-then-count_of-le999999999999 : goal.returns-then-count_of-le999999999999
returns-then-count_of-le999999999999 c =
    total_answered _ _ _ _ _ (fits c.args.x _ c.count_of.ensures c.if-count_of-le999999999999.true)
    (sums c.args.sum c.args.rows.now c.args.i _ c.args.x _ _ c.sum_with-more.ensures c.row_at.ensures c.from.ensures) c.goes_on.ensures c.if-goes_on.false c.signed-answer.ensures
    c.outcome_of-then-count_of-le999999999999.ensures

pub returns : goal.returns
returns c = total_refused _ _ _ _ _ (rw (← c.count_of.ensures) (lt-leb _ _ c.if-count_of-le999999999999.false)) c.stopped.ensures
