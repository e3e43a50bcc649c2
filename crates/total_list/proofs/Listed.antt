-- The rows of a list of totals, four bytes each: how many there are, which number each is, and an array of which they replace the first
-- entries. By induction on their count.
use mathlib.Core.Path.{◌≡◌, refl, ap, ◌∙◌}
use mathlib.Core.List.{List, map}
use Prim.Native.Nat.{ℕ, zero, suc, ◌+◌, ◌*◌, ◌/◌, ◌<◌}
use native.Mathlib.Nat.{le_of_suc-le-suc, not-suc-le-zero, zero-add}
use native.Mathlib.Numerals.{add-one}
use native.Mathlib.Omega.{arith}
use lib.ListN.{length, get_or, set, take}
use lib.Seq.{take-suc, length-take-le}
use Rattle.lists.specs.Over.{over}
use Rattle.lists.proofs.Over.{over-push}
use Rattle.model.specs.Store.{up_from}
use Rattle.model.specs.Record.{number, rows_of}

module _ (f : ℕ → ℕ) where
  length_up : (a n : ℕ) → length (map f (up_from a n)) ≡ n
  unfolding up_from
  length_up a zero = refl
  length_up a (suc n) = ap suc (length_up (a + 1) n)

  get_d_up : (a n i : ℕ) → i < n → get_or (map f (up_from a n)) i 0 ≡ f (a + i)
  unfolding up_from
  get_d_up a zero i h = absurd (not-suc-le-zero h)
  get_d_up a (suc n) zero h = ap f (omega arith)
  get_d_up a (suc n) (suc i) h = get_d_up (a + 1) n i (le_of_suc-le-suc h) ∙ ap f (omega arith)

module _ (list : List ℕ) where
  pub length-rows : length (rows_of list) ≡ length list / 4
  unfolding rows_of
  length-rows = length_up _ 0 (length list / 4)

  pub row_in : (i : ℕ) → i < length list / 4 → get_or (rows_of list) i 0 ≡ number list (4 * i) 4
  unfolding rows_of
  row_in i h = get_d_up _ 0 (length list / 4) i h ∙ ap (λ (k : ℕ). number list (4 * k) 4) (zero-add i)

  -- a turn of the loop that fills an array with them
  pub filled_more : (d s : List ℕ) (i x : ℕ) → i < length list / 4 → i < length d → x ≡ number list (4 * i) 4 → s ≡ over (take i (rows_of list)) d
      → set s i x ≡ over (take (i + 1) (rows_of list)) d
  filled_more d s i x h room e f =
      let l : i < length (rows_of list) = omega (arith, length-rows) in
      rw (f, add-one i, take-suc (rows_of list) i 0 l, row_in i h, ← e)
      (over-push (take i (rows_of list)) d i x (length-take-le i (rows_of list) (omega arith)) room)
