-- Laws of a local pool: one more range is appended at the end of its ranges, and a list of at most 64 ranges is a pool's ranges.
-- By induction on the count of ranges, from what one store changes.
use mathlib.Core.Path.{◌≡◌, refl, sym, ap, ◌∙◌}
use mathlib.Core.List.{List, [], ◌∷◌, ◌++◌, map, map-append}
use Prim.Native.Nat.{ℕ, zero, suc, ◌+◌, ◌≤◌, ◌<◌}
use native.Mathlib.Nat.{add-zero, zero-add, suc-add, le_of_suc-le-suc, not-suc-le-zero}
use native.Mathlib.Omega.{arith}
use lib.ListN.{length, get_or, set, length-append, length-map}
use lib.Seq.{get_or-set_same, get_or-set_other}
use borrow.Author.Tests.{lt-ltb}
use Rattle.model.specs.Store.{Range}
use Rattle.worker.specs.declared.Pool.{Pool}
use Rattle.worker.specs.Rep.{padded, pool_rep}
use Rattle.worker.specs.Pool.{appended, range_in, ranges_from, ranges_in}
use Rattle.worker.proofs.Rep.{padded-at, padded-push}

------------------------------------------------------------------------
-- The ranges of a pool

-- one range more at the end
ranges_more : (q : Pool) (i n : ℕ) → ranges_from q i (n + 1) ≡ ranges_from q i n ++ (range_in q (i + n) ∷ [])
unfolding ranges_from
ranges_more q i zero = rw (add-zero i)
ranges_more q i (suc n) =
    let s : i + suc n ≡ suc i + n = omega arith in
    rw (suc-add n 1, s, ranges_more q (suc i) n)

-- two pools that agree at each place below i + n
ranges_same : (q p : Pool) (i n : ℕ) → ((j : ℕ) → j < i + n → range_in q j ≡ range_in p j) → ranges_from q i n ≡ ranges_from p i n
unfolding ranges_from
ranges_same q p i zero h = refl
ranges_same q p i (suc n) h = rw (h i (omega arith), ranges_same q p (suc i) n (λ j k. h j (omega arith)))

-- a list that agrees with the pool from the i-th range on
ranges_are : (q : Pool) (l : List Range) (z : Range) (i : ℕ) → ((j : ℕ) → j < length l → range_in q (i + j) ≡ get_or l j z)
    → ranges_from q i (length l) ≡ l
unfolding ranges_from
ranges_are q [] z i h = refl
ranges_are q (ρ ∷ l) z i h =
    let e : range_in q i ≡ ρ = rw (add-zero i) at (h 0 (omega arith)) in
    let k : (j : ℕ) → j < length l → range_in q (suc i + j) ≡ get_or l j z =
    λ j b.
    let s : i + suc j ≡ suc i + j = omega arith in
    rw s at (h (suc j) (omega arith)) in
    rw (e, ranges_are q l z (suc i) k)

------------------------------------------------------------------------
-- One range appended

-- a pool that is not full has the range after its own
pub ranges_appended : (q : Pool) (ρ : Range) → q.len < 64 → length q.slots ≡ 64 → length q.lows ≡ 64 → length q.highs ≡ 64
    → ranges_in (appended q ρ.slot ρ.low ρ.high) ≡ ranges_in q ++ (ρ ∷ [])
ranges_appended q ρ h a b c =
    let n = q.len in
    let g : Pool =
    record { slots = set q.slots n ρ.slot; lows = set q.lows n ρ.low; highs = set q.highs n ρ.high; len = n + 1 } in
    let same : (j : ℕ) → j < 0 + n → range_in g j ≡ range_in q j =
    λ j k.
    let o : j ≡ n → ⊥ = λ e. omega arith in
    rw (get_or-set_other q.slots n j ρ.slot 0 o, get_or-set_other q.lows n j ρ.low 0 o, get_or-set_other q.highs n j ρ.high 0 o) in
    let last : range_in g (0 + n) ≡ ρ =
    rw (
      zero-add n,
      get_or-set_same q.slots n ρ.slot 0 (omega arith),
      get_or-set_same q.lows n ρ.low 0 (omega arith),
      get_or-set_same q.highs n ρ.high 0 (omega arith),
    ) in
    rw (lt-ltb n 64 h, ranges_more g 0 n, ranges_same g q 0 n same, last)

------------------------------------------------------------------------
-- A list of ranges as a pool

-- a field of the i-th range
mapped_at : (f : Range → ℕ) (l : List Range) (z : Range) (i : ℕ) → i < length l → get_or (map f l) i 0 ≡ f (get_or l i z)
mapped_at f [] z i h = absurd (not-suc-le-zero h)
mapped_at f (ρ ∷ l) z zero h = refl
mapped_at f (ρ ∷ l) z (suc i) h = mapped_at f l z i (le_of_suc-le-suc h)

-- a field of the ranges in an array, with one range more
column_push : (f : Range → ℕ) (l : List Range) (ρ : Range) → length l < 64
    → set (padded 64 (map f l)) (length l) (f ρ) ≡ padded 64 (map f (l ++ (ρ ∷ [])))
column_push f l ρ h = padded-push 64 (map f l) (length l) (f ρ) (length-map l f) h ∙ ap (padded 64) (sym (map-append f l (ρ ∷ [])))

-- and its entries
column_at : (f : Range → ℕ) (l : List Range) (z : Range) (i : ℕ) → i < length l → get_or (padded 64 (map f l)) i 0 ≡ f (get_or l i z)
column_at f l z i h = padded-at 64 (map f l) i (rw (length-map l f) h) ∙ mapped_at f l z i h

-- appended by value as on the list
pub append-rep : (l : List Range) (ρ : Range) → length l < 64 → appended (pool_rep l) ρ.slot ρ.low ρ.high ≡ pool_rep (l ++ (ρ ∷ []))
append-rep l ρ h =
    rw (
      lt-ltb (length l) 64 h,
      column_push (λ ρ. ρ.slot) l ρ h,
      column_push (λ ρ. ρ.low) l ρ h,
      column_push (λ ρ. ρ.high) l ρ h,
      length-append l
          (ρ ∷ []),
    )

-- the i-th range, and all of them
pub range-rep : (l : List Range) (z : Range) (i : ℕ) → i < length l → range_in (pool_rep l) i ≡ get_or l i z
range-rep l z i h =
    rw (column_at (λ ρ. ρ.slot) l z i h, column_at (λ ρ. ρ.low) l z i h, column_at (λ ρ. ρ.high) l z i h)

pub ranges_rep : (l : List Range) → length l ≤ 64 → ranges_in (pool_rep l) ≡ l
ranges_rep l h =
    let z : Range = record { slot = 0; low = 0; high = 0 } in
    ranges_are (pool_rep l) l z 0 (λ j k. rw (zero-add j) (range-rep l z j k))
