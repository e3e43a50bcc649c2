-- Laws of ranges in lent memory: what is read of memory whose front was replaced by ranges, and what a range put there makes of it.
use mathlib.Core.Path.{◌≡◌, refl, ap, ◌∙◌}
use mathlib.Core.List.{List, [], ◌∷◌, ◌++◌, append_assoc}
use Prim.Native.Nat.{ℕ, zero, suc, ◌+◌, ◌-◌, ◌*◌, ◌≤◌, ◌<◌}
use native.Mathlib.Numerals.{add-one}
use native.Mathlib.Omega.{arith}
use lib.ListN.{length, take, drop, get_or, length-append, length-set, take-append-drop}
use lib.Seq.{drop-cons, get_or-drop, length-take-le}
use Rattle.lists.specs.Over.{over}
use Rattle.lists.proofs.Over.{over-push, get_d_over_past}
use Rattle.model.specs.Store.{Range}
use Rattle.ranges.specs.Words.{range_at, ranges_at, flat, put_at}

------------------------------------------------------------------------
-- Ranges read

pub length-ranges_at : (s : List ℕ) (i n : ℕ) → length (ranges_at s i n) ≡ n
length-ranges_at s i zero = refl
length-ranges_at s i (suc n) = ap suc (length-ranges_at s (suc i) n)

pub ranges_at-cons : (s : List ℕ) (i n : ℕ) → i < n → ranges_at s i (n - i) ≡ range_at s i ∷ ranges_at s (i + 1) (n - (i + 1))
ranges_at-cons s i n h =
    let e : n - i ≡ suc (n - (i + 1)) = omega arith in
    rw (e, add-one i)

ranges_at-suc : (s : List ℕ) (i n : ℕ) → ranges_at s i (suc n) ≡ ranges_at s i n ++ (range_at s (i + n) ∷ [])
ranges_at-suc s i zero = let e : i + 0 ≡ i = omega arith in rw e
ranges_at-suc s i (suc n) =
    let e : suc i + n ≡ i + suc n = omega arith in
    ap (λ (l : List Range). range_at s i ∷ l) (ranges_at-suc s (suc i) n ∙ rw e)

-- one range more from the front
pub ranges_at-snoc : (s : List ℕ) (n : ℕ) → ranges_at s 0 (n + 1) ≡ ranges_at s 0 n ++ (range_at s n ∷ [])
ranges_at-snoc s n = let e : 0 + n ≡ n = omega arith in rw add-one (ranges_at-suc s 0 n ∙ rw e)

-- ranges depend on their own words alone
pub ranges_at-same : (s s' : List ℕ) (i j n : ℕ) → ((t : ℕ) → t < 3 * n → get_or s (3 * i + t) 0 ≡ get_or s' (3 * j + t) 0)
    → ranges_at s i n ≡ ranges_at s' j n
ranges_at-same s s' i j zero h = refl
ranges_at-same s s' i j (suc n) h =
    let e : 3 * i + 0 ≡ 3 * i = omega arith in
    let f : 3 * j + 0 ≡ 3 * j = omega arith in
    let g : get_or s (3 * i) 0 ≡ get_or s' (3 * j) 0 = rw (e, f) at (h 0 (omega arith)) in
    rw (
      g,
      h 1 (omega arith),
      h 2 (omega arith),
      ranges_at-same s s' (suc i) (suc j) n (λ t l.
          let a : 3 * suc i + t ≡ 3 * i + (3 + t) = omega arith in
          let b : 3 * suc j + t ≡ 3 * j + (3 + t) = omega arith in
          rw (a, b) (h (3 + t) (omega arith))),
    )

pub ranges_at-drop : (s : List ℕ) (i n : ℕ) → ranges_at (drop (3 * i) s) 0 n ≡ ranges_at s i n
ranges_at-drop s i n = ranges_at-same (drop (3 * i) s) s 0 i n (λ t l. let e : 3 * 0 + t ≡ t = omega arith in rw e (get_or-drop (3 * i) s t 0))

------------------------------------------------------------------------
-- Ranges written

pub length-flat : (l : List Range) → length (flat l) ≡ 3 * length l
length-flat [] = refl
length-flat (ρ ∷ l) = let h = length-flat l in omega arith

pub flat_append : (l w : List Range) → flat (l ++ w) ≡ flat l ++ flat w
flat_append [] w = refl
flat_append (x ∷ l) w = rw (flat_append l w)

pub flat-snoc : (l : List Range) (ρ : Range) → flat (l ++ (ρ ∷ [])) ≡ flat l ++ (ρ.slot ∷ ρ.low ∷ ρ.high ∷ [])
flat-snoc l ρ = flat_append l (ρ ∷ [])

pub length-put_at : (d : List ℕ) (k : ℕ) (ρ : Range) → length (put_at d k ρ) ≡ length d
length-put_at d k ρ = simp length-set

-- one range more, after those of l
pub over-put : (l : List Range) (d : List ℕ) (k : ℕ) (ρ : Range) → length l ≡ k → 3 * k + 2 < length d
    → put_at (over (flat l) d) k ρ ≡ over (flat (l ++ (ρ ∷ []))) d
over-put l d k ρ e h =
    let p : List ℕ = flat l in
    let p1 : List ℕ = p ++ (ρ.slot ∷ []) in
    let p2 : List ℕ = p1 ++ (ρ.low ∷ []) in
    let l0 : length p ≡ 3 * k = rw (length-flat l, e) in
    let l1 : length p1 ≡ 3 * k + 1 = length-append p (ρ.slot ∷ []) ∙ omega arith in
    let l2 : length p2 ≡ 3 * k + 2 = length-append p1 (ρ.low ∷ []) ∙ omega arith in
    rw (
      over-push p d (3 * k) ρ.slot l0 (omega arith),
      over-push p1 d (3 * k + 1) ρ.low l1 (omega arith),
      over-push p2 d (3 * k + 2) ρ.high l2 (omega arith),
      flat-snoc,
      append_assoc,
      append_assoc,
    )

-- a range past those of l is as it was
pub range-past : (l : List Range) (d : List ℕ) (i : ℕ) → length l ≤ i → range_at (over (flat l) d) i ≡ range_at d i
range-past l d i h =
    let n : length (flat l) ≤ 3 * i = rw (length-flat l) (omega arith) in
    rw (
      get_d_over_past (flat l) d (3 * i) 0 n,
      get_d_over_past (flat l) d (3 * i + 1) 0 (omega arith),
      get_d_over_past (flat l) d (3 * i + 2) 0 (omega arith),
    )

-- the range at a place among those written is l's
pub range-in : (l : List Range) (d : List ℕ) (x : Range) (r : List Range) (k : ℕ) → length l ≡ k → range_at (flat (l ++ x ∷ r) ++ d) k ≡ x
range-in [] d x r zero e = refl
range-in [] d x r (suc k) e = absurd (omega arith)
range-in (y ∷ l) d x r zero e = absurd (omega arith)
range-in (y ∷ l) d x r (suc k) e =
    let a : 3 * suc k ≡ suc (suc (suc (3 * k))) = omega arith in
    let b : 3 * suc k + 1 ≡ suc (suc (suc (3 * k + 1))) = omega arith in
    let c : 3 * suc k + 2 ≡ suc (suc (suc (3 * k + 2))) = omega arith in
    rw (b, c, a) (range-in l d x r k (omega arith))

-- and put there, it takes the place of l's
pub put_in : (l : List Range) (d : List ℕ) (x ρ : Range) (r : List Range) (k : ℕ) → length l ≡ k
    → put_at (flat (l ++ x ∷ r) ++ d) k ρ ≡ flat (l ++ ρ ∷ r) ++ d
put_in [] d x ρ r zero e = refl
put_in [] d x ρ r (suc k) e = absurd (omega arith)
put_in (y ∷ l) d x ρ r zero e = absurd (omega arith)
put_in (y ∷ l) d x ρ r (suc k) e =
    let a : 3 * suc k ≡ suc (suc (suc (3 * k))) = omega arith in
    let b : 3 * suc k + 1 ≡ suc (suc (suc (3 * k + 1))) = omega arith in
    let c : 3 * suc k + 2 ≡ suc (suc (suc (3 * k + 2))) = omega arith in
    rw (b, c, a) (ap (λ (w : List ℕ). y.slot ∷ y.low ∷ y.high ∷ w) (put_in l d x ρ r k (omega arith)))

-- the ranges written are read back
pub ranges_at-flat : (l : List Range) (d : List ℕ) → ranges_at (flat l ++ d) 0 (length l) ≡ l
ranges_at-flat [] d = refl
ranges_at-flat (x ∷ l) d =
    ap (λ (r : List Range). x ∷ r)
    (ranges_at-same (flat (x ∷ l) ++ d) (flat l ++ d) 1 0 (length l) (λ t h. let e : 3 * 1 + t ≡ suc (suc (suc (3 * 0 + t))) = omega arith in rw e)
    ∙ ranges_at-flat l d)

-- the ranges read, written back
pub flat-ranges_at : (s : List ℕ) (i n : ℕ) → 3 * (i + n) ≤ length s → flat (ranges_at s i n) ≡ take (3 * n) (drop (3 * i) s)
flat-ranges_at s i zero h = refl
flat-ranges_at s i (suc n) h =
    let a : 3 * suc n ≡ suc (suc (suc (3 * n))) = omega arith in
    let b : suc (suc (suc (3 * i))) ≡ 3 * suc i = omega arith in
    let c : 3 * i + 1 ≡ suc (3 * i) = omega arith in
    let d : 3 * i + 2 ≡ suc (suc (3 * i)) = omega arith in
    rw (
      a,
      drop-cons s (3 * i) 0 (omega arith),
      drop-cons s (suc (3 * i)) 0 (omega arith),
      drop-cons s (suc (suc (3 * i))) 0 (omega arith),
      c,
      d,
      b,
      flat-ranges_at s (suc i) n (omega arith),
    )

-- memory is as it was where its first ranges are written back
pub over-ranges_at : (s : List ℕ) (n : ℕ) → 3 * n ≤ length s → over (flat (ranges_at s 0 n)) s ≡ s
unfolding over
over-ranges_at s n h =
    let e : flat (ranges_at s 0 n) ≡ take (3 * n) s = flat-ranges_at s 0 n (omega arith) in
    rw (e, length-take-le (3 * n) s h) (take-append-drop (3 * n) s)
