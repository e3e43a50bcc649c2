-- A register's versions as a linked list of slots, each once: a version below the newest and its neighbours are apart, the older neighbour of
-- the newest is another slot of the list, and a read stands on a slot of it.
use mathlib.Core.Path.{◌≡◌, sym, ap, ◌∙◌}
use mathlib.Core.Bool.{true}
use mathlib.Core.Logic.{◌≢◌, ◌⊎◌, inl, inr, ⊎_elim}
use mathlib.Core.List.{List, [], ◌∷◌}
use Prim.Native.Nat.{ℕ, ◌≤◌, ◌<◌}
use native.Mathlib.Omega.{arith}
use lib.Dec.{eqb}
use Rattle.model.specs.Store.{absent, Content, Slot}
use Rattle.model.specs.Demand.{occurrences}
use Rattle.model.proofs.Basic.{hit_same, hit-eq, hit_other, eq_cases, All-map, All-get}
use Rattle.theorem.proofs.Slots.{nth}
use Rattle.theorem.proofs.Chain.{head_or, Linked, On, Past, Next, Fine}

-- what is said of a slot c and its neighbours
pub record Three (s : List Slot) (c : ℕ) : Type 0 where
  pub c≢older : (nth s c).older ≢ c
  pub c≢newer : (nth s c).newer ≢ c
  pub older≢newer : (nth s c).older ≢ (nth s c).newer

pub three : (s : List Slot) (up d : ℕ) (l : List ℕ) (c : ℕ) → Linked s up (d ∷ l) → 0 < occurrences c l
    → ((i : ℕ) → occurrences i (d ∷ l) ≤ 1) → ((i : ℕ) → 0 < occurrences i (d ∷ l) → i < absent) → Three s c
unfolding occurrences
three s up d [] c t h one b = absurd (omega arith)
three s up d (e ∷ l) c t h one b =
    ⊎_elim own (λ x. three s d e l c t.2 (omega (arith, hit_other e c x.0)) (λ i. omega (arith, one i)) (λ i y. b i (omega (arith, y))))
    (eq_cases e c)
  where
    own : (e ≡ c) × (eqb e c ≡ true) → Three s c
    own x =
        record {
          c≢older = λ z. heads l c (omega (arith, one c, hit-eq e c x.0)) (b c (omega (arith, hit-eq e c x.0))) (sym older ∙ z);
          c≢newer = λ z. omega (arith, one c, hit-eq e c x.0, hit-eq d c (sym newer ∙ z));
          older≢newer = λ z. heads l d (omega (arith, one d, hit_same d)) (b d (omega (arith, hit_same d))) (sym older ∙ z ∙ newer);
        }
      where
        newer : (nth s c).newer ≡ d
        newer = ap (λ (i : ℕ). (nth s i).newer) (sym x.0) ∙ t.2.0

        older : (nth s c).older ≡ head_or absent l
        older = ap (λ (i : ℕ). (nth s i).older) (sym x.0) ∙ t.2.1

        heads : (q : List ℕ) (i : ℕ) → occurrences i q ≡ 0 → i < absent → head_or absent q ≢ i
        heads [] i none k z = omega (arith, z, k)
        heads (y ∷ q) i none k z = omega (arith, none, hit-eq y i z)

-- the older neighbour of an unstamped newest version is the next slot of the list
pub next-older : (s : List Slot) (t : ℕ) (x : Content) (c : ℕ) (l : List ℕ) → t < absent → Linked s absent (c ∷ l) → Fine s t x (c ∷ l)
    → (nth s c).low ≡ absent → 0 < occurrences (nth s c).older l
unfolding occurrences
next-older s t x c [] b k f e = absurd (⊎_elim (λ u. omega (arith, u.0, e)) (λ u. u.1) f.1)
next-older s t x c (d ∷ l) b k f e = omega (arith, hit-eq d (nth s c).older (sym k.1))

-- the older neighbour of the first slot of a list is the next one, or none
pub head_older : (s : List Slot) (up c : ℕ) (l : List ℕ) → Linked s up (c ∷ l) → ((nth s c).older ≡ absent) ⊎ (0 < occurrences (nth s c).older l)
unfolding occurrences
head_older s up c [] k = inl k.1
head_older s up c (d ∷ l) k = inr (omega (arith, hit-eq d (nth s c).older (sym k.1)))

-- a version below the newest is stamped
pub old-low : (s : List Slot) (t : ℕ) (x : Content) (c : ℕ) (l : List ℕ) → Fine s t x (c ∷ l) → (d : ℕ) → 0 < occurrences d l → (nth s d).low ≤ t
old-low s t x c l f d h = ⊎_elim (λ u. (All-get (Past s t) l u.2 d h).0) (λ u. next l u.1 h) f.1
  where
    next : (q : List ℕ) → Next s t x q → 0 < occurrences d q → (nth s d).low ≤ t
    next [] z y = absurd z
    next (e ∷ q) z y = All-get (λ i. (nth s i).low ≤ t) (e ∷ q) (z.0, All-map (λ i p. p.0) q z.3) d y

-- a read stands on a slot of the list
pub stands_in : (s : List Slot) (a c : ℕ) (x : Content) (l : List ℕ) → On s a c x l → 0 < occurrences c l
unfolding occurrences
stands_in s a c x [] t = absurd t
stands_in s a c x (d ∷ l) t =
    ⊎_elim (λ u. omega (arith, hit-eq d c u.0)) (λ u. omega (arith, stands_in s a c x l u.1)) t
