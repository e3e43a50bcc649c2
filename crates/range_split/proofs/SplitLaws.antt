-- Laws of a split: what one range more at the end makes of it, how few ranges are needless, and that sorted times split alike.
use mathlib.Core.Path.{◌≡◌, refl, sym, ap, ◌∙◌, subst}
use mathlib.Core.Bool.{Bool, true, false, cond, not}
use mathlib.Core.List.{List, [], ◌∷◌, ◌++◌}
use Prim.Native.Nat.{ℕ, suc, ◌≤◌}
use native.Mathlib.Omega.{arith}
use lib.ListN.{length, take}
use Rattle.lists.specs.Over.{over}
use Rattle.lists.proofs.Over.{take-over}
use Rattle.model.specs.Store.{Range}
use Rattle.model.specs.Ranges.{needed, filter, needed_of, needless_of}
use Rattle.model.specs.Figure.{announced_of, sort_announcements, Rising}
use Rattle.model.proofs.Figure.{sort-rising, needed-sorted, filter_alike}
use Rattle.ranges.specs.Words.{ranges_at}
use Rattle.ranges.proofs.WordLaws.{length-ranges_at}

-- a range at the end of either side of a choice
cond-snoc : (b : Bool) (k : List Range) (x ρ : Range) → cond b (x ∷ (k ++ (ρ ∷ []))) (k ++ (ρ ∷ [])) ≡ cond b (x ∷ k) k ++ (ρ ∷ [])
cond-snoc true k x ρ = refl
cond-snoc false k x ρ = refl

pub filter-yes : (p : Range → Bool) (l : List Range) (ρ : Range) → p ρ ≡ true → filter p (l ++ (ρ ∷ [])) ≡ filter p l ++ (ρ ∷ [])
unfolding filter
filter-yes p [] ρ e = rw e
filter-yes p (x ∷ l) ρ e = rw (filter-yes p l ρ e) (cond-snoc (p x) (filter p l) x ρ)

pub filter-no : (p : Range → Bool) (l : List Range) (ρ : Range) → p ρ ≡ false → filter p (l ++ (ρ ∷ [])) ≡ filter p l
unfolding filter
filter-no p [] ρ e = rw e
filter-no p (x ∷ l) ρ e = rw (filter-no p l ρ e)

pub length-filter : (p : Range → Bool) (l : List Range) → length (filter p l) ≤ length l
unfolding filter
length-filter p [] = omega arith
length-filter p (x ∷ l) =
    let h = length-filter p l in
    elim (p x) as (λ b. length (cond b (x ∷ filter p l) (filter p l)) ≤ suc (length l)) [ true ↦ omega arith | false ↦ omega arith ]

pub needless_few : (ts s : List ℕ) (n : ℕ) → length (needless_of ts (ranges_at s 0 n)) ≤ n
needless_few ts s n = rw (length-ranges_at s 0 n) at (length-filter (λ ρ. not (needed ts ρ)) (ranges_at s 0 n))

pub needless_most : (ts s : List ℕ) (n : ℕ) {r : ℕ} → r ≡ length (needless_of ts (ranges_at s 0 n)) → r ≤ n
needless_most ts s n e = omega (arith, e, needless_few ts s n)

-- without a time nothing is needed
pub needed-none : (l : List Range) → needed_of [] l ≡ []
unfolding filter needed
needed-none [] = refl
needed-none (ρ ∷ l) = needed-none l

pub needless_all : (l : List Range) → needless_of [] l ≡ l
unfolding filter needed
needless_all [] = refl
needless_all (ρ ∷ l) = ap (λ (q : List Range). ρ ∷ q) (needless_all l)

-- out holds those of the first t times that are announced, k of them, sorted
module _ (ts : List ℕ) (t k : ℕ) (out₀ out : List ℕ) (n : k ≡ length (sort_announcements (take t ts)))
    (e : out ≡ over (sort_announcements (take t ts)) out₀) where
  sorted_front : take k out ≡ sort_announcements (take t ts)
  sorted_front = ap (take k) e ∙ take-over (sort_announcements (take t ts)) out₀ k (sym n)

  pub sorted_rising : Rising (take k out)
  sorted_rising = subst Rising (sym sorted_front) (sort-rising (announced_of (take t ts)))

  -- the same ranges are needed
  sorted_needed : (ρ : Range) → needed (take k out) ρ ≡ needed (take t ts) ρ
  sorted_needed ρ = ap (λ (l : List ℕ). needed l ρ) sorted_front ∙ needed-sorted ρ (take t ts)

  pub needed_of-sorted : (l : List Range) → needed_of (take k out) l ≡ needed_of (take t ts) l
  needed_of-sorted l = filter_alike (needed (take k out)) (needed (take t ts)) sorted_needed l

  pub needless_of-sorted : (l : List Range) → needless_of (take k out) l ≡ needless_of (take t ts) l
  needless_of-sorted l = filter_alike (λ ρ. not (needed (take k out) ρ)) (λ ρ. not (needed (take t ts) ρ)) (λ ρ. ap not (sorted_needed ρ)) l
