-- The walk along the rows of a list that comes with a setup: what the rows that were passed leave to be tested. A turn tests one row.
use mathlib.Core.Path.{◌≡◌, refl, ◌∙◌}
use mathlib.Core.Bool.{Bool, true, false, ◌&&◌}
use mathlib.Core.List.{List}
use Prim.Native.Nat.{ℕ, ◌+◌, ◌%◌, ◌≤◌, ◌<◌}
use native.Mathlib.Numerals.{add-one}
use native.Mathlib.Omega.{arith}
use lib.Dec.{ltb, leb, eqb}
use lib.ListN.{length, get_or, drop, drop_of_length-le}
use lib.Seq.{drop-cons}
use borrow.Author.Tests.{eqb-true}
use Rattle.model.specs.Totals.{group_of, row_fits, before, follow}
use Rattle.model.specs.Record.{rows_of, list_fits}
use Rattle.model.proofs.Totals.{few_rows}
use Rattle.total_list.proofs.Listed.{length-rows}

module _ (v : ℕ) (rows : List ℕ) where
  -- the rows before i pass, and n rows of group g stand last among them
  abbrev pub Passed : ℕ → ℕ → ℕ → Type 0
  Passed g n i = follow v 0 0 rows ≡ follow v g n (drop i rows)

  -- a turn, which reads row i: the row, how many rows of its group stand before it, and whether it may stand there
  pub record Turn (g n i x b : ℕ) (fits : Bool) : Type 0 where
    pub passed : Passed g n i
    pub inside : i < length rows
    pub row : x ≡ get_or rows i 0
    pub stand : b ≡ before g n x
    pub test : fits ≡ row_fits v x && leb g (group_of x) && ltb b 32

  module _ {g n i x b : ℕ} {fits : Bool} (t : Turn g n i x b fits) where
    followed : follow v 0 0 rows ≡ fits && follow v (group_of x) (b + 1) (drop (i + 1) rows)
    unfolding follow
    followed = t.passed ∙ rw (drop-cons rows i 0 t.inside, ← t.row, ← t.stand, ← t.test, add-one i)

    pub passed-more : (own : ℕ) → own ≡ group_of x → fits ≡ true → Passed own (b + 1) (i + 1)
    passed-more own f e = followed ∙ rw (e, f)

    pub failed : fits ≡ false → follow v 0 0 rows ≡ false
    failed e = followed ∙ rw e

  pub passed-all : (g n i : ℕ) → length rows ≤ i → Passed g n i → follow v 0 0 rows ≡ true
  unfolding follow
  passed-all g n i h p = p ∙ rw (drop_of_length-le rows h)

-- Rows that pass are at most 1,024, so a list of more than 4,096 bytes is none that a setup accepts.
pub long_fails : (v : ℕ) (list : List ℕ) → 4096 < length list → list_fits v list ≡ false
unfolding list_fits
long_fails v list h = go (eqb (length list % 4) 0) refl (follow v 0 0 (rows_of list)) refl
  where
    go : (s : Bool) → eqb (length list % 4) 0 ≡ s → (t : Bool) → follow v 0 0 (rows_of list) ≡ t → s && t ≡ false
    go false e t f = refl
    go true e false f = refl
    go true e true f =
        let whole : length list % 4 ≡ 0 = eqb-true _ _ e in
        absurd (omega (arith, few_rows v 0 0 (rows_of list) f (omega arith) (omega arith), length-rows list))
