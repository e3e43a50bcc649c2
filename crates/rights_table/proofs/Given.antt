-- Numbers in a row, and the rows of a table that is given, eight bytes each: how many there are, which number each is, and an array of which they
-- replace the first entries.
use mathlib.Core.Path.{◌≡◌, refl, ap, ◌∙◌}
use mathlib.Core.Logic.{◌≢◌}
use mathlib.Core.Bool.{Bool, true, false, ◌&&◌}
use mathlib.Core.List.{List, [], ◌∷◌}
use Rattle.std.specs.List.{list_all}
use Prim.Native.Nat.{ℕ, zero, suc, ◌+◌, ◌*◌, ◌/◌, ◌%◌, ◌≤◌, ◌<◌}
use native.Mathlib.Nat.{le_of_suc-le-suc, not-suc-le-zero, zero-add}
use native.Mathlib.Numerals.{add-one}
use native.Mathlib.Omega.{arith}
use lib.Dec.{leb, eqb}
use lib.ListN.{length, get_or, set, take, length-map}
use lib.Seq.{take-suc, take_all, length-take-le}
use borrow.Author.Tests.{eq-eqb, ne_eqb, eqb-true, lt-leb}
use Rattle.lists.specs.Over.{over}
use Rattle.lists.proofs.Over.{over-push, take-over}
use Rattle.model.specs.Store.{up_from}
use Rattle.model.specs.Record.{number}
use Rattle.model.specs.Rights.{each_of, right_fits, table_stands, table_of, table_fits}
use Rattle.model.proofs.Basic.{get_d_map}

-- each entry passes a test
pub each-all : (f : ℕ → Bool) (l : List ℕ) → each_of f l ≡ list_all f l
unfolding each_of
each-all f [] = refl
each-all f (x ∷ l) = ap (λ (t : Bool). f x && t) (each-all f l)

pub length_up : (a n : ℕ) → length (up_from a n) ≡ n
unfolding up_from
length_up a zero = refl
length_up a (suc n) = ap suc (length_up (a + 1) n)

pub get_d_up : (a n i : ℕ) → i < n → get_or (up_from a n) i 0 ≡ a + i
unfolding up_from
get_d_up a zero i h = absurd (not-suc-le-zero h)
get_d_up a (suc n) zero h = omega arith
get_d_up a (suc n) (suc i) h = get_d_up (a + 1) n i (le_of_suc-le-suc h) ∙ omega arith

module _ (table : List ℕ) where
  pub length-table : length (table_of table) ≡ length table / 8
  unfolding table_of
  length-table = length-map (up_from 0 (length table / 8)) _ ∙ length_up 0 (length table / 8)

  pub right_in : (i : ℕ) → i < length table / 8 → get_or (table_of table) i 0 ≡ number table (8 * i) 8
  unfolding table_of
  right_in i h =
      get_d_map _ (up_from 0 (length table / 8)) i 0 0 (omega (arith, length_up 0 (length table / 8)))
      ∙ ap (λ (k : ℕ). number table (8 * k) 8) (get_d_up 0 (length table / 8) i h ∙ zero-add i)

  -- a turn of the loop that fills an array with them
  pub filled_more : (d s : List ℕ) (i x : ℕ) → i < length table / 8 → i < length d → x ≡ number table (8 * i) 8 → s ≡ over (take i (table_of table)) d
      → set s i x ≡ over (take (i + 1) (table_of table)) d
  filled_more d s i x h room e f =
      let l : i < length (table_of table) = omega (arith, length-table) in
      rw (f, add-one i, take-suc (table_of table) i 0 l, right_in i h, ← e)
      (over-push (take i (table_of table)) d i x (length-take-le i (table_of table) (omega arith)) room)

  -- a table of at most 512 bytes is at most 64 rows, and an array of 64 has room for them
  pub all_rows : length table ≤ 512 → take 64 (table_of table) ≡ table_of table
  all_rows h = take_all 64 (table_of table) (omega (arith, length-table))

  -- the test of an array that they were filled into is the table's
  pub tested : length table ≤ 512 → length table % 8 ≡ 0 → (d s : List ℕ) → s ≡ over (take 64 (table_of table)) d
      → leb (length table / 8) 64 && each_of right_fits (take (length table / 8) s) ≡ table_fits table
  unfolding table_fits table_stands
  tested h e d s f =
      rw (f, all_rows h, take-over (table_of table) d (length table / 8) length-table, eq-eqb (length table % 8) 0 e, length-table)

  pub ragged_fails : length table % 8 ≢ 0 → table_fits table ≡ false
  unfolding table_fits
  ragged_fails h = rw (ne_eqb (length table % 8) 0 h)

  pub long_fails : 512 < length table → table_fits table ≡ false
  unfolding table_fits table_stands
  long_fails h = go (eqb (length table % 8) 0) refl
    where
      go : (s : Bool) → eqb (length table % 8) 0 ≡ s → s && (leb (length (table_of table)) 64 && each_of right_fits (table_of table)) ≡ false
      go false e = refl
      go true e =
          let whole : length table % 8 ≡ 0 = eqb-true _ _ e in
          rw (lt-leb (length (table_of table)) 64 (omega (arith, length-table)))
