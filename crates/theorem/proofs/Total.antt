-- All slots add up: what pools, flushes and puts hold, the free slots and the newest versions are N together.
use mathlib.Core.Path.{◌≡◌, refl, sym, ap, ◌∙◌}
use mathlib.Core.Bool.{Bool, cond}
use mathlib.Core.Logic.{◌⊎◌, inl, inr, ⊎_elim}
use mathlib.Core.List.{List, [], ◌∷◌}
use Prim.Native.Nat.{ℕ, zero, suc, ◌+◌, ◌≤◌, ◌<◌}
use native.Mathlib.Omega.{arith}
use lib.ListN.{length}
use Rattle.model.specs.Store.{Content, Range, Worker, Store}
use Rattle.model.specs.About.{Hand, Empty, Covered, Merged, Needless, about}
use Rattle.model.specs.Demand.{Call, Plain, occurrences}
use Rattle.model.specs.Reached.{sum_by, in_hand, versions_held}
use Rattle.model.proofs.Basic.{hit, hit_same, hit-eq, hit_other, lt_cases, eq_cases}
use Rattle.theorem.proofs.Count.{cnt}
use Rattle.theorem.proofs.Invariant.{Inv, in_hand_of, in_doing, pend_w, pend, below}

sum_to : ℕ → (ℕ → ℕ) → ℕ
sum_to zero f = 0
sum_to (suc n) f = sum_to n f + f n

sum_to_add : (n : ℕ) (f g : ℕ → ℕ) → sum_to n (λ c. f c + g c) ≡ sum_to n f + sum_to n g
unfolding sum_to
sum_to_add zero f g = refl
sum_to_add (suc n) f g = omega (arith, sum_to_add n f g)

sum_to_zero : (n : ℕ) → sum_to n (λ c. 0) ≡ 0
unfolding sum_to
sum_to_zero zero = refl
sum_to_zero (suc n) = omega (arith, sum_to_zero n)

sum_to_same : (n : ℕ) (f g : ℕ → ℕ) → ((c : ℕ) → c < n → f c ≡ g c) → sum_to n f ≡ sum_to n g
unfolding sum_to
sum_to_same zero f g e = refl
sum_to_same (suc n) f g e = omega (arith, e n (omega arith), sum_to_same n f g (λ c z. e c (omega (arith, z))))

below-is : (j n : ℕ) → ((j < n) × (below j n ≡ 1)) ⊎ ((n ≤ j) × (below j n ≡ 0))
below-is j n =
    ⊎_elim (λ u. inl (u.0, ap {B = ℕ} (λ (t : Bool). cond t 1 0) u.1)) (λ u. inr (u.0, ap {B = ℕ} (λ (t : Bool). cond t 1 0) u.1))
    (lt_cases j n)

sum_to_hit : (n j : ℕ) → sum_to n (λ c. hit j c) ≡ below j n
unfolding sum_to
sum_to_hit zero j = ⊎_elim (λ u. absurd (omega (arith, u.0))) (λ u. sym u.1) (below-is j zero)
sum_to_hit (suc n) j =
    ⊎_elim
    (λ e. ⊎_elim (λ u. absurd (omega (arith, u.0, e.0)))
    (λ u. ⊎_elim (λ v. omega (arith, sum_to_hit n j, u.1, v.1, hit-eq j n e.0)) (λ v. absurd (omega (arith, v.0, e.0))) (below-is j (suc n)))
    (below-is j n))
    (λ e.
    ⊎_elim
    (λ u. ⊎_elim (λ v. omega (arith, sum_to_hit n j, u.1, v.1, hit_other j n e.0)) (λ v. absurd (omega (arith, u.0, v.0))) (below-is j (suc n)))
    (λ u. ⊎_elim (λ v. absurd (omega (arith, u.0, v.0, e.0))) (λ v. omega (arith, sum_to_hit n j, u.1, v.1, hit_other j n e.0))
    (below-is j (suc n)))
    (below-is j n))
    (eq_cases j n)

-- a slot that is below n counts once
one : (n j : ℕ) → j < n → sum_to n (λ c. hit j c) ≡ 1
one n j h = sum_to_hit n j ∙ ⊎_elim (λ u. u.1) (λ u. absurd (omega (arith, h, u.0))) (below-is j n)

module _ (n : ℕ) where
  occurrences-all : (l : List ℕ) → ((c : ℕ) → n ≤ c → occurrences c l ≡ 0) → sum_to n (λ c. occurrences c l) ≡ length l
  unfolding occurrences
  occurrences-all [] h = sum_to_zero n
  occurrences-all (j ∷ l) h =
      omega (
        arith,
        sum_to_add n (λ c. hit j c) (λ c. occurrences c l),
        occurrences-all l (λ c z. omega (arith, h c z)),
        one n j (⊎_elim (λ u. u.0) (λ u. absurd (omega (arith, h j u.0, hit_same j))) (lt_cases j n)),
      )

  cnt-all : (l : List Range) → ((c : ℕ) → n ≤ c → cnt c l ≡ 0) → sum_to n (λ c. cnt c l) ≡ length l
  unfolding cnt
  cnt-all [] h = sum_to_zero n
  cnt-all (ρ ∷ l) h =
      omega (
        arith,
        sum_to_add n (λ c. hit ρ.slot c) (λ c. cnt c l),
        cnt-all l (λ c z. omega (arith, h c z)),
        one n ρ.slot (⊎_elim (λ u. u.0) (λ u. absurd (omega (arith, h ρ.slot u.0, hit_same ρ.slot))) (lt_cases ρ.slot n)),
      )

  queue_all : (q : List (List Range)) → ((c : ℕ) → n ≤ c → sum_by (cnt c) q ≡ 0) → sum_to n (λ c. sum_by (cnt c) q) ≡ sum_by length q
  unfolding sum_by
  queue_all [] h = sum_to_zero n
  queue_all (l ∷ q) h =
      omega (
        arith,
        sum_to_add n (λ c. cnt c l) (λ c. sum_by (cnt c) q),
        cnt-all l (λ c z. omega (arith, h c z)),
        queue_all q
            (λ c z. omega (arith, h c z)),
      )

  hand_one : (j : ℕ) → ((c : ℕ) → n ≤ c → hit j c ≡ 0) → sum_to n (λ c. hit j c) ≡ 1
  hand_one j h = one n j (⊎_elim (λ u. u.0) (λ u. absurd (omega (arith, h j u.0, hit_same j))) (lt_cases j n))

  hand_all : (y : Hand) → ((c : ℕ) → n ≤ c → in_hand_of c y ≡ 0) → sum_to n (λ c. in_hand_of c y) ≡ in_hand y
  hand_all Empty h = sum_to_zero n
  hand_all (Covered c) h = hand_one c h
  hand_all (Merged m ts) h = cnt-all m h
  hand_all (Needless m) h = cnt-all m h

  work_all : (ws : List Worker) → ((c : ℕ) → n ≤ c → sum_by (pend_w c) ws ≡ 0) → sum_to n (λ c. sum_by (pend_w c) ws) ≡ sum_by versions_held ws
  unfolding sum_by
  work_all [] h = sum_to_zero n
  work_all (y ∷ ws) h =
      omega (
        arith,
        sum_to_add n (λ c. pend_w c y) (λ c. sum_by (pend_w c) ws),
        sum_to_add n (λ c. in_doing c y.doing) (λ c. cnt c y.pool),
        hand_all (about y.doing).hand (λ c z. omega (arith, h c z)),
        cnt-all y.pool (λ c z. omega (arith, h c z)),
        work_all ws (λ c z. omega (arith, h c z)),
      )

-- a list in which each number below n stands at most once and no other has at most n entries
sum_to_le : (m : ℕ) (f : ℕ → ℕ) → ((c : ℕ) → f c ≤ 1) → sum_to m f ≤ m
unfolding sum_to
sum_to_le zero f h = omega arith
sum_to_le (suc m) f h = omega (arith, sum_to_le m f h, h m)

pub length-once : (n : ℕ) (l : List ℕ) → ((c : ℕ) → occurrences c l ≤ 1) → ((c : ℕ) → n ≤ c → occurrences c l ≡ 0) → length l ≤ n
length-once n l h k = omega (arith, occurrences-all n l k, sum_to_le n (λ c. occurrences c l) h)

ones : (m : ℕ) → sum_to m (λ c. 1) ≡ m
unfolding sum_to
ones zero = refl
ones (suc m) = omega (arith, ones m)

sum_to_below : (n : ℕ) → sum_to n (λ c. below c n) ≡ n
sum_to_below n = sum_to_same n (λ c. below c n) (λ c. 1) (λ c z. ⊎_elim (λ u. u.1) (λ u. absurd (omega (arith, z, u.0))) (below-is c n)) ∙ ones n

pub total : {start : ℕ → Content} {now : ℕ} {s : Store} {olds : List (List ℕ)} {h : List Call} {o : List ℕ} {p : Plain} → Inv start now s olds h o p
    → sum_by versions_held s.workers + sum_by length s.queue + (length s.free + s.site.V') ≡ s.site.N
total {s = s} I =
    omega (
      arith,
      I.newest_length,
      sum_to_below s.site.N,
      sum_to_same s.site.N (λ c. pend c s.workers s.queue + (occurrences c s.free + occurrences c s.newest))
          (λ c. below c s.site.N) (λ c z. I.once c),
      sum_to_add s.site.N (λ c. pend c s.workers s.queue) (λ c. occurrences c s.free + occurrences c s.newest),
      sum_to_add s.site.N (λ c. sum_by (pend_w c) s.workers) (λ c. sum_by (cnt c) s.queue),
      sum_to_add s.site.N (λ c. occurrences c s.free) (λ c. occurrences c s.newest),
      occurrences-all s.site.N s.free (λ c z. omega (arith, zero-at c z)),
      occurrences-all s.site.N s.newest (λ c z. omega (arith, zero-at c z)),
      work_all s.site.N s.workers (λ c z. omega (arith, zero-at c z)),
      queue_all s.site.N s.queue (λ c z. omega (arith, zero-at c z)),
    )
  where
    zero-at : (c : ℕ) → s.site.N ≤ c → pend c s.workers s.queue + (occurrences c s.free + occurrences c s.newest) ≡ 0
    zero-at c z = I.once c ∙ ⊎_elim (λ u. absurd (omega (arith, z, u.0))) (λ u. u.1) (below-is c s.site.N)
