-- Small facts that every layer uses: tests, lists, how often a number stands in a list.
use mathlib.Core.Path.{◌≡◌, refl, sym, ap, subst}
use mathlib.Core.Bool.{Bool, true, false, cond, true≢false, ◌&&◌}
use mathlib.Core.Logic.{◌≢◌, ◌⊎◌, inl, inr}
use mathlib.Core.List.{List, [], ◌∷◌, ◌++◌, map}
use Prim.Native.Nat.{ℕ, zero, suc, ◌+◌, ◌≤◌, ◌<◌}
use native.Mathlib.Nat.{not-suc-le-zero, le_of_suc-le-suc}
use native.Mathlib.Omega.{arith}
use lib.Dec.{ltb, leb, eqb}
use lib.ListN.{length, get_or, set, take, drop}
use borrow.Author.Tests.{ltb-true, ltb-false, leb-true, leb-false, eqb-true, eqb-false, eq-eqb, ne_eqb}
use Rattle.model.specs.Store.{Store, up}
use Rattle.model.specs.Demand.{occurrences, All}

-- a test, decided, with what it says
pub eq_cases : (a b : ℕ) → ((a ≡ b) × (eqb a b ≡ true)) ⊎ ((a ≢ b) × (eqb a b ≡ false))
eq_cases a b = go (eqb a b) refl
  where
    go : (t : Bool) → eqb a b ≡ t → ((a ≡ b) × (eqb a b ≡ true)) ⊎ ((a ≢ b) × (eqb a b ≡ false))
    go true e = inl (eqb-true a b e, e)
    go false e = inr (eqb-false a b e, e)

-- 1 where the two are equal
abbrev pub hit : ℕ → ℕ → ℕ
hit j i = cond (eqb j i) 1 0

pub hit_same : (i : ℕ) → hit i i ≡ 1
hit_same i = ap (λ (t : Bool). cond t 1 0) (eq-eqb i i refl)

pub hit-eq : (j i : ℕ) → j ≡ i → hit j i ≡ 1
hit-eq j i e = ap (λ (t : Bool). cond t 1 0) (eq-eqb j i e)

pub hit_other : (j i : ℕ) → j ≢ i → hit j i ≡ 0
hit_other j i n = ap (λ (t : Bool). cond t 1 0) (ne_eqb j i n)

pub occurrences-append : (i : ℕ) (a b : List ℕ) → occurrences i (a ++ b) ≡ occurrences i a + occurrences i b
unfolding occurrences
occurrences-append i [] b = omega arith
occurrences-append i (j ∷ a) b = omega (arith, occurrences-append i a b)

pub occurrences-snoc : (i : ℕ) (o : List ℕ) (k : ℕ) → occurrences i (o ++ (k ∷ [])) ≡ occurrences i o + hit k i
unfolding occurrences
occurrences-snoc i o k = omega (arith, occurrences-append i o (k ∷ []))

module _ {ℓ} {A : Type ℓ} where
  pub All-map : {P Q : A → Type 0} → ((x : A) → P x → Q x) → (l : List A) → All P l → All Q l
  All-map f [] t = tt
  All-map f (x ∷ l) t = (f x t.0, All-map f l t.1)

  pub All-append : (P : A → Type 0) (a b : List A) → All P a → All P b → All P (a ++ b)
  All-append P [] b s t = t
  All-append P (x ∷ a) b s t = (s.0, All-append P a b s.1 t)

  module _ (Q : A → Type 0) where
    pub All-at : (l : List A) (i : ℕ) (d : A) → i < length l → All Q l → Q (get_or l i d)
    All-at [] i d h t = absurd (not-suc-le-zero h)
    All-at (x ∷ l) zero d h t = t.0
    All-at (x ∷ l) (suc i) d h t = All-at l i d (le_of_suc-le-suc h) t.1

    -- where the default has it too, for every index
    pub All-nth : (l : List A) (i : ℕ) (d : A) → Q d → All Q l → Q (get_or l i d)
    All-nth [] i d a t = a
    All-nth (x ∷ l) zero d a t = t.0
    All-nth (x ∷ l) (suc i) d a t = All-nth l i d a t.1

    pub All-set : (l : List A) (i : ℕ) (y : A) → Q y → All Q l → All Q (set l i y)
    All-set [] i y a t = tt
    All-set (x ∷ l) zero y a t = (a, t.1)
    All-set (x ∷ l) (suc i) y a t = (t.0, All-set l i y a t.1)

    pub All-take : (n : ℕ) (l : List A) → All Q l → All Q (take n l)
    All-take zero l t = tt
    All-take (suc n) [] t = tt
    All-take (suc n) (x ∷ l) t = (t.0, All-take n l t.1)

    pub All-drop : (n : ℕ) (l : List A) → All Q l → All Q (drop n l)
    All-drop zero l t = t
    All-drop (suc n) [] t = tt
    All-drop (suc n) (x ∷ l) t = All-drop n l t.1

    -- each entry changed by f
    pub All-through : (f : A → A) → ((x : A) → Q x → Q (f x)) → (l : List A) → All Q l → All Q (map f l)
    All-through f g [] t = tt
    All-through f g (x ∷ l) t = (g x t.0, All-through f g l t.1)

pub get_d_map {ℓ ℓ'} : {A : Type ℓ} {B : Type ℓ'} (f : A → B) (l : List A) (i : ℕ) (d : A) (e : B) → i < length l → get_or (map f l) i e ≡ f (get_or l i d)
get_d_map f [] i d e h = absurd (not-suc-le-zero h)
get_d_map f (x ∷ l) zero d e h = refl
get_d_map f (x ∷ l) (suc i) d e h = get_d_map f l i d e (le_of_suc-le-suc h)

-- in a list of numbers, what holds of all that stand in it holds of each member
pub All-occurrences : {P : ℕ → Type 0} (o : List ℕ) → ((i : ℕ) → 0 < occurrences i o → P i) → All P o
unfolding occurrences
All-occurrences [] f = tt
All-occurrences (j ∷ o) f = (f j (omega (arith, hit_same j)), All-occurrences o (λ i h. f i (omega arith)))

pub lt_cases : (a b : ℕ) → ((a < b) × (ltb a b ≡ true)) ⊎ ((b ≤ a) × (ltb a b ≡ false))
lt_cases a b = go (ltb a b) refl
  where
    go : (t : Bool) → ltb a b ≡ t → ((a < b) × (ltb a b ≡ true)) ⊎ ((b ≤ a) × (ltb a b ≡ false))
    go true e = inl (ltb-true a b e, e)
    go false e = inr (ltb-false a b e, e)

pub le_cases : (a b : ℕ) → ((a ≤ b) × (leb a b ≡ true)) ⊎ ((b < a) × (leb a b ≡ false))
le_cases a b = go (leb a b) refl
  where
    go : (t : Bool) → leb a b ≡ t → ((a ≤ b) × (leb a b ≡ true)) ⊎ ((b < a) × (leb a b ≡ false))
    go true e = inl (leb-true a b e, e)
    go false e = inr (leb-false a b e, e)

-- what holds of both, holds of the one that a test picks
pub cond_both {ℓ} : {A : Type ℓ} (P : A → Type 0) (t : Bool) (x y : A) → (t ≡ true → P x) → (t ≡ false → P y) → P (cond t x y)
cond_both P true x y f g = f refl
cond_both P false x y f g = g refl

-- a member of a list of which all have it
pub All-get : (P : ℕ → Type 0) (l : List ℕ) → All P l → (c : ℕ) → 0 < occurrences c l → P c
unfolding occurrences
All-get P [] t c h = absurd (omega arith)
All-get P (d ∷ l) t c h = go (eq_cases d c) (λ z. All-get P l t.1 c z)
  where
    go : ((d ≡ c) × (eqb d c ≡ true)) ⊎ ((d ≢ c) × (eqb d c ≡ false)) → (0 < occurrences c l → P c) → P c
    go (inl e) f = subst P e.0 t.0
    go (inr e) f = f (omega (arith, hit_other d c e.0))

pub All-from : {A : Type 0} (P : A → Type 0) (d : A) (l : List A) → ((i : ℕ) → i < length l → P (get_or l i d)) → All P l
All-from P d [] f = tt
All-from P d (x ∷ l) f = (f 0 (omega arith), All-from P d l (λ i b. f (suc i) (omega (arith, b))))

pub map_app {ℓ ℓ'} : {A : Type ℓ} {B : Type ℓ'} (f : A → B) (a b : List A) → map f (a ++ b) ≡ map f a ++ map f b
map_app f [] b = refl
map_app f (x ∷ a) b = ap (λ l. f x ∷ l) (map_app f a b)

pub occurrences-head : (c : ℕ) (l : List ℕ) → 0 < occurrences c (c ∷ l)
unfolding occurrences
occurrences-head c l = omega (arith, hit_same c)

pub occurrences-at : (l : List ℕ) (i d : ℕ) → i < length l → 0 < occurrences (get_or l i d) l
unfolding occurrences
occurrences-at [] i d h = absurd (not-suc-le-zero h)
occurrences-at (x ∷ l) zero d h = omega (arith, hit_same x)
occurrences-at (x ∷ l) (suc i) d h = omega (arith, occurrences-at l i d (le_of_suc-le-suc h))

-- a hub that is set up has one store
pub up_inj : (s t : Store) → up s ≡ up t → s ≡ t
up_inj s t e = cc

-- both parts of a conjunction that holds
pub and_both : (a b : Bool) → a && b ≡ true → (a ≡ true) × (b ≡ true)
and_both true b e = (refl, e)
and_both false b e = absurd (true≢false (sym e))
