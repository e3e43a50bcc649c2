-- Counting: how often a slot stands in pools, and sums over a list of which one entry is changed. Merging, splitting and halving keep the counts,
-- and keep what holds of every range.
use mathlib.Core.Path.{◌≡◌, refl, ap}
use mathlib.Core.Bool.{Bool, true, false, true≢false, not, ◌&&◌, ◌||◌, cond}
use mathlib.Core.Logic.{◌≢◌, ⊎_elim}
use mathlib.Core.List.{List, [], ◌∷◌, ◌++◌, map}
use Prim.Native.Nat.{ℕ, zero, suc, ◌+◌, ◌*◌, ◌≤◌, ◌<◌, ◌/◌}
use native.Mathlib.Nat.{not-suc-le-zero, le_of_suc-le-suc}
use native.Mathlib.Omega.{arith}
use lib.Dec.{ltb, leb, eqb}
use lib.ListN.{length, get_or, set, take, drop, take-append-drop}
use borrow.Author.Tests as Tests
use Rattle.model.specs.Store.{absent, Range}
use Rattle.model.specs.Ranges.{needs, needed, filter, merge_into, merge, first_two, needed_pools, joining, queued_pool}
use Rattle.model.specs.Demand.{occurrences, All}
use Rattle.model.specs.Reached.{sum_by}
use Rattle.model.proofs.Basic.{hit, hit_other, eq_cases, cond_both}

------------------------------------------------------------------------
-- Sums

module _ {ℓ} {A : Type ℓ} (f : A → ℕ) where
  pub sum_by-append : (a b : List A) → sum_by f (a ++ b) ≡ sum_by f a + sum_by f b
  unfolding sum_by
  sum_by-append [] b = omega arith
  sum_by-append (x ∷ a) b = omega (arith, sum_by-append a b)

  pub sum_by-set : (l : List A) (i : ℕ) (x d : A) → i < length l → sum_by f (set l i x) + f (get_or l i d) ≡ sum_by f l + f x
  unfolding sum_by
  sum_by-set [] i x d h = absurd (not-suc-le-zero h)
  sum_by-set (y ∷ l) zero x d h = omega arith
  sum_by-set (y ∷ l) (suc i) x d h = omega (arith, sum_by-set l i x d (le_of_suc-le-suc h))

  pub sum_by-one : (l : List A) (i : ℕ) (d : A) → i < length l → f (get_or l i d) ≤ sum_by f l
  unfolding sum_by
  sum_by-one [] i d h = absurd (not-suc-le-zero h)
  sum_by-one (y ∷ l) zero d h = omega arith
  sum_by-one (y ∷ l) (suc i) d h = omega (arith, sum_by-one l i d (le_of_suc-le-suc h))

  pub sum_by-two : (l : List A) (i j : ℕ) (d : A) → i < length l → j < length l → i ≢ j → f (get_or l i d) + f (get_or l j d) ≤ sum_by f l
  unfolding sum_by
  sum_by-two [] i j d h k n = absurd (not-suc-le-zero h)
  sum_by-two (y ∷ l) zero zero d h k n = absurd (n refl)
  sum_by-two (y ∷ l) zero (suc j) d h k n = omega (arith, sum_by-one l j d (le_of_suc-le-suc k))
  sum_by-two (y ∷ l) (suc i) zero d h k n = omega (arith, sum_by-one l i d (le_of_suc-le-suc h))
  sum_by-two (y ∷ l) (suc i) (suc j) d h k n = omega (arith, sum_by-two l i j d (le_of_suc-le-suc h) (le_of_suc-le-suc k) (λ e. n (ap suc e)))

  -- some entry has it
  pub sum_by-some : (l : List A) (d : A) → 0 < sum_by f l → (i : ℕ) × (i < length l) × (0 < f (get_or l i d))
  unfolding sum_by
  sum_by-some [] d h = absurd (omega arith)
  sum_by-some (y ∷ l) d h = go (f y) refl (λ z. sum_by-some l d z)
    where
      go : (n : ℕ) → f y ≡ n → (0 < sum_by f l → (i : ℕ) × (i < length l) × (0 < f (get_or l i d)))
          → (i : ℕ) × (i < suc (length l)) × (0 < f (get_or (y ∷ l) i d))
      go zero e r = let q = r (omega arith) in (suc q.0, omega (arith, q.1), q.2)
      go (suc n) e r = (0, omega arith, omega arith)

pub sum_by-map {ℓ} : {A : Type ℓ} (f : A → ℕ) (g : A → A) → ((x : A) → f (g x) ≡ f x) → (l : List A) → sum_by f (map g l) ≡ sum_by f l
unfolding sum_by
sum_by-map f g e [] = refl
sum_by-map f g e (x ∷ l) = omega (arith, e x, sum_by-map f g e l)

------------------------------------------------------------------------
-- Ranges

unfoldable pub cnt : ℕ → List Range → ℕ
cnt c [] = 0
cnt c (ρ ∷ l) = hit ρ.slot c + cnt c l

module _ (c : ℕ) where
  pub cnt-append : (a b : List Range) → cnt c (a ++ b) ≡ cnt c a + cnt c b
  unfolding cnt
  cnt-append [] b = omega arith
  cnt-append (x ∷ a) b = omega (arith, cnt-append a b)

  cnt-weave : (a : Range) (rest : List Range → List Range) (n : ℕ) → ((b : List Range) → cnt c (rest b) ≡ n + cnt c b) → (b : List Range)
      → cnt c (merge_into a rest b) ≡ hit a.slot c + n + cnt c b
  unfolding cnt merge_into
  cnt-weave a rest n e [] = omega (arith, e [])
  cnt-weave a rest n e (b ∷ bs) =
      cond_both (λ l. cnt c l ≡ hit a.slot c + n + (hit b.slot c + cnt c bs)) (leb a.high b.high) (a ∷ rest (b ∷ bs))
      (b ∷ merge_into a rest bs)
      (λ u. omega (arith, e (b ∷ bs))) (λ u. omega (arith, cnt-weave a rest n e bs))

  pub cnt-merge : (a b : List Range) → cnt c (merge a b) ≡ cnt c a + cnt c b
  unfolding cnt merge
  cnt-merge [] b = omega arith
  cnt-merge (x ∷ a) b = omega (arith, cnt-weave x (merge a) (cnt c a) (cnt-merge a) b)

  pub cnt-split : (p : Range → Bool) (l : List Range) → cnt c (filter p l) + cnt c (filter (λ ρ. not (p ρ)) l) ≡ cnt c l
  unfolding cnt filter
  cnt-split p [] = omega arith
  cnt-split p (x ∷ l) = go (p x) (cnt-split p l)
    where
      go : (t : Bool) → cnt c (filter p l) + cnt c (filter (λ ρ. not (p ρ)) l) ≡ cnt c l
          → cnt c (cond t (x ∷ filter p l) (filter p l)) + cnt c (cond (not t) (x ∷ filter (λ ρ. not (p ρ)) l) (filter (λ ρ. not (p ρ)) l))
          ≡ hit x.slot c + cnt c l
      go true e = omega arith
      go false e = omega arith

  pub cnt-half : (n : ℕ) (l : List Range) → cnt c (take n l) + cnt c (drop n l) ≡ cnt c l
  cnt-half n l = omega (arith, cnt-append (take n l) (drop n l), ap (cnt c) (take-append-drop n l))

  pub cnt-queued : (l : List Range) → sum_by (cnt c) (queued_pool l) ≡ cnt c l
  unfolding cnt queued_pool sum_by
  cnt-queued [] = refl
  cnt-queued (x ∷ l) = omega arith

  pub cnt-first_two : (q : List (List Range)) → cnt c (first_two q) + sum_by (cnt c) (drop 2 q) ≡ sum_by (cnt c) q
  unfolding cnt first_two sum_by
  cnt-first_two [] = omega arith
  cnt-first_two (p ∷ []) = omega arith
  cnt-first_two (p ∷ q ∷ l) = omega (arith, cnt-merge p q)

  -- what the split sends to the queue and to the local pool is what is needed
  pub cnt-sent : (b : ℕ) (l : List Range) → sum_by (cnt c) (needed_pools b l) + cnt c (joining b l) ≡ cnt c l
  unfolding cnt needed_pools joining sum_by
  cnt-sent b l = go (ltb (2 * b) (length l)) (ltb b (length l)) refl refl
    where
      h : ℕ
      h = (length l + 1) / 2

      go : (t u : Bool) → ltb (2 * b) (length l) ≡ t → ltb b (length l) ≡ u
          → sum_by (cnt c) (cond t (take h l ∷ drop h l ∷ []) (cond u (l ∷ []) [])) + cnt c (cond u [] l) ≡ cnt c l
      go true true e f = omega (arith, cnt-half h l)
      go true false e f = absurd (omega (arith, Tests.ltb-true (2 * b) (length l) e, Tests.ltb-false b (length l) f))
      go false true e f = omega arith
      go false false e f = omega arith

------------------------------------------------------------------------
-- What holds of every range

module _ (Q : Range → Type 0) where
  All-weave : (a : Range) (rest : List Range → List Range) → Q a → ((b : List Range) → All Q b → All Q (rest b)) → (b : List Range) → All Q b
      → All Q (merge_into a rest b)
  unfolding merge_into
  All-weave a rest x e [] t = (x, e [] tt)
  All-weave a rest x e (b ∷ bs) t =
      cond_both (All Q) (leb a.high b.high) (a ∷ rest (b ∷ bs)) (b ∷ merge_into a rest bs) (λ u. (x, e (b ∷ bs) t))
      (λ u. (t.0, All-weave a rest x e bs t.1))

  pub All-merge : (a b : List Range) → All Q a → All Q b → All Q (merge a b)
  unfolding merge
  All-merge [] b s t = t
  All-merge (x ∷ a) b s t = All-weave x (merge a) s.0 (λ q u. All-merge a q s.1 u) b t

  pub All-keep : (p : Range → Bool) (l : List Range) → All Q l → All Q (filter p l)
  unfolding filter
  All-keep p [] t = tt
  All-keep p (x ∷ l) t = cond_both (All Q) (p x) (x ∷ filter p l) (filter p l) (λ u. (t.0, All-keep p l t.1)) (λ u. All-keep p l t.1)

------------------------------------------------------------------------
-- What holds of every pool, as a flush takes two, queues the needed ones and joins the local pool

module _ (Q : List Range → Type 0) where
  pub first_two-has : Q [] → ((a b : List Range) → Q a → Q b → Q (merge a b)) → (q : List (List Range)) → All Q q → Q (first_two q)
  unfolding first_two
  first_two-has z m [] t = z
  first_two-has z m (p ∷ []) t = t.0
  first_two-has z m (p ∷ q ∷ l) t = m p q t.0 t.1.0

  pub pools_have : (b : ℕ) (l : List Range) → ((n : ℕ) → Q (take n l)) → ((n : ℕ) → Q (drop n l)) → Q l → All Q (needed_pools b l)
  unfolding needed_pools
  pools_have b l f g t =
      cond_both (All Q) (ltb (2 * b) (length l)) (take h l ∷ drop h l ∷ []) (cond (ltb b (length l)) (l ∷ []) [])
      (λ u. (f h, (g h, tt)))
      (λ u. cond_both (All Q) (ltb b (length l)) (l ∷ []) [] (λ v. (t, tt)) (λ v. tt))
    where
      h : ℕ
      h = (length l + 1) / 2

  pub joining-has : (b : ℕ) (l : List Range) → Q [] → Q l → Q (joining b l)
  unfolding joining
  joining-has b l z t = cond_both Q (ltb b (length l)) [] l (λ u. z) (λ u. t)

  pub queued_has : (l : List Range) → Q l → All Q (queued_pool l)
  unfolding queued_pool
  queued_has [] t = tt
  queued_has (x ∷ l) t = (t, tt)

------------------------------------------------------------------------
-- What a filter keeps

-- what a filter keeps passes its test
pub All-kept : (p : Range → Bool) (l : List Range) → All (λ ρ. p ρ ≡ true) (filter p l)
unfolding filter
All-kept p [] = tt
All-kept p (x ∷ l) = cond_both (All (λ ρ. p ρ ≡ true)) (p x) (x ∷ filter p l) (filter p l) (λ u. (u, All-kept p l)) (λ u. All-kept p l)

-- a range that no time of the list needs
pub not_needed : (ts : List ℕ) (ρ : Range) → needed ts ρ ≡ false → (a : ℕ) → 0 < occurrences a ts → a < absent → ρ.low ≤ a → a < ρ.high → ⊥
unfolding needed needs occurrences
not_needed [] ρ e a h t x y = omega (arith, h)
not_needed (b ∷ l) ρ e a h t x y =
    ⊎_elim own (λ u. not_needed l ρ parts.1 a (omega (arith, h, hit_other b a u.0)) t x y) (eq_cases b a)
  where
    both : (p q : Bool) → p || q ≡ false → (p ≡ false) × (q ≡ false)
    both true q z = absurd (true≢false z)
    both false q z = (refl, z)

    parts : (ltb b absent && (leb ρ.low b && ltb b ρ.high) ≡ false) × (needed l ρ ≡ false)
    parts = both (ltb b absent && (leb ρ.low b && ltb b ρ.high)) (needed l ρ) e

    own : (b ≡ a) × (eqb b a ≡ true) → ⊥
    own u =
        let z : ◌≡◌ {A = Bool} true false = cc (
          parts.0,
          Tests.lt-ltb b absent (omega (arith, u.0)),
          Tests.le-leb ρ.low b (omega (arith, u.0)),
          Tests.lt-ltb b ρ.high (omega (arith, u.0)),
        ) in
        true≢false z
