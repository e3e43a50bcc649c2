-- What a total leaves that found something, put together from what the calls in its code ensure, by rewriting with those equations. In each law w is
-- the row's number as an index, more are the sums with what was found, and o is the outcome.
use mathlib.Core.Path.{◌≡◌}
use mathlib.Core.Bool.{Bool, true, false}
use mathlib.Core.List.{List}
use Prim.Native.Nat.{ℕ, ◌+◌}
use lib.Dec.{leb}
use Rattle.model.specs.Rules.{twelve_digits}
use Rattle.model.specs.Totals.{row_at, goes_on}
use Rattle.model.specs.Store.{count_of}
use Rattle.values.specs.Meaning.{Content}
use Rattle.values.specs.Meaning.{content_of}
use Rattle.values.specs.declared.Answer.{Answer}
use Rattle.values.specs.declared.Answer.TheVariants.{Going, No}
use Rattle.worker.specs.Rep.{Announced}
use Rattle.worker.specs.declared.Sum.{Sum}
use Rattle.worker.specs.declared.Goal.{Goal}
use Rattle.worker.specs.declared.Doing.TheVariants.{Idle, ReadEnter}
use Rattle.total_rows.specs.Rows.{goal_in}
use Rattle.total_sums.specs.Sums.{sum_with}
use Rattle.announcing.specs.declared.Outcome.{Outcome}
use Rattle.announcing.specs.Announcing.{outcome_of}
use Rattle.showing.specs.Shown.{signed_of}
use Rattle.step.specs.Step.{total_found_of}

-- refusal 18
pub total_refused : (g i : ℕ) (sum : Sum) (x : Content) (rows : List ℕ) {t : Announced} {k n : ℕ} {o : Outcome}
    → leb (count_of (content_of x)) twelve_digits ≡ false → o ≡ outcome_of Idle t k n (No 18) → o ≡ total_found_of g i sum x t k n rows
unfolding total_found_of
total_refused g i sum x rows many eo = rw (many, eo)

-- the next row of the group
pub total_next : (i : ℕ) (sum : Sum) (x : Content) (rows : List ℕ) {g w : ℕ} {more : Sum} {on : Bool} {goal : Goal} {t : Announced} {k n : ℕ} {o : Outcome}
    → leb (count_of (content_of x)) twelve_digits ≡ true → more ≡ sum_with sum (row_at rows i) x → on ≡ goes_on rows g i → on ≡ true → w ≡ i
    → goal ≡ goal_in rows g (w + 1) more → o ≡ outcome_of (ReadEnter goal) t k n Going → o ≡ total_found_of g i sum x t k n rows
unfolding total_found_of
total_next i sum x rows few es em on ew eg eo = rw (eo, eg, ew, es, few, ← em, on)

-- behind the last row the answer
pub total_answered : (g i : ℕ) (sum : Sum) (x : Content) (rows : List ℕ) {more : Sum} {on : Bool} {y : Answer} {t : Announced} {k n : ℕ} {o : Outcome}
    → leb (count_of (content_of x)) twelve_digits ≡ true → more ≡ sum_with sum (row_at rows i) x → on ≡ goes_on rows g i → on ≡ false
    → y ≡ signed_of more → o ≡ outcome_of Idle t k n y → o ≡ total_found_of g i sum x t k n rows
unfolding total_found_of
total_answered g i sum x rows few es em off ey eo = rw (eo, ey, es, few, ← em, off)
