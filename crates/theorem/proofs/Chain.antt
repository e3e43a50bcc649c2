-- A register's versions as a list of slots, newest first: how the neighbours tie it, what a time sees in it, and what stamping, linking and
-- unlinking do to it.
use mathlib.Core.Path.{◌≡◌, refl, sym, ap, ◌∙◌, subst}
use mathlib.Core.Bool.{true, false, cond}
use mathlib.Core.Logic.{◌≢◌, ◌⊎◌, inl, inr, ⊎_elim}
use mathlib.Core.List.{List, [], ◌∷◌}
use Prim.Native.Nat.{ℕ, ◌+◌, ◌≤◌, ◌<◌}
use native.Mathlib.Omega.{arith}
use lib.Dec.{eqb}
use lib.ListN.{length}
use borrow.Author.Tests as Tests
use Rattle.model.specs.Store.{absent, Reading, Content, Slot}
use Rattle.model.specs.Versions.{link_slots, unlink_slots}
use Rattle.model.specs.Demand.{occurrences, All}
use Rattle.model.proofs.Basic.{hit, hit_same, hit-eq, hit_other, eq_cases}
use Rattle.theorem.proofs.Slots.{nth, link_new, link_part, link_newer_own, link_newer_other, unlink_older_own, unlink_older_other}
use Rattle.theorem.proofs.Slots.{unlink_newer_own, unlink_newer_other}

abbrev pub head_or : ℕ → List ℕ → ℕ
head_or d [] = d
head_or d (c ∷ l) = c

-- the neighbours of the slots of a list are its neighbours in the list; `up` is the newer neighbour of the first
abbrev pub Linked : List Slot → ℕ → List ℕ → Type 0
Linked s up [] = Unit {0}
Linked s up (c ∷ l) = ((nth s c).newer ≡ up) × ((nth s c).older ≡ head_or absent l) × Linked s c l

unfoldable pub remove : ℕ → List ℕ → List ℕ
remove c [] = []
remove c (d ∷ l) = cond (eqb d c) l (d ∷ remove c l)

pub remove-own : (c d : ℕ) (l : List ℕ) → d ≡ c → remove c (d ∷ l) ≡ l
unfolding remove
remove-own c d l e = ap (λ (n : ℕ). cond (eqb n c) l (n ∷ remove c l)) e ∙ rw (Tests.eq-eqb c c refl)

pub remove-other : (c d : ℕ) (l : List ℕ) → d ≢ c → remove c (d ∷ l) ≡ d ∷ remove c l
unfolding remove
remove-other c d l n = rw (Tests.ne_eqb d c n)

pub remove-times : (c : ℕ) (l : List ℕ) (i : ℕ) → 0 < occurrences c l → occurrences i (remove c l) + hit c i ≡ occurrences i l
unfolding occurrences
remove-times c [] i h = absurd (omega arith)
remove-times c (d ∷ l) i h =
    ⊎_elim
    (λ e. rw (remove-own c d l e.0) (subst (λ (n : ℕ). occurrences i l + hit c i ≡ hit n i + occurrences i l) (sym e.0) (omega arith)))
    (λ e. rw (remove-other c d l e.0) (omega (arith, remove-times c l i (omega (arith, hit_other d c e.0)))))
    (eq_cases d c)

------------------------------------------------------------------------
-- Linked

pub Linked-same : (s s' : List Slot) (up : ℕ) (l : List ℕ)
    → ((c : ℕ) → 0 < occurrences c l → ((nth s' c).newer ≡ (nth s c).newer) × ((nth s' c).older ≡ (nth s c).older)) → Linked s up l → Linked s' up l
unfolding occurrences
Linked-same s s' up [] f t = tt
Linked-same s s' up (c ∷ l) f t =
    let e = f c (omega (arith, hit_same c)) in
    (e.0 ∙ t.0, e.1 ∙ t.1, Linked-same s s' c l (λ d x. f d (omega arith)) t.2)

-- the neighbours of a slot that is not the first
pub neighbours : (s : List Slot) (up d : ℕ) (l : List ℕ) (c : ℕ) → Linked s up (d ∷ l) → 0 < occurrences c l
    → (0 < occurrences (nth s c).newer (d ∷ l)) × (((nth s c).older ≡ absent) ⊎ (0 < occurrences (nth s c).older l))
unfolding occurrences
neighbours s up d [] c t h = absurd (omega arith)
neighbours s up d (e ∷ l) c t h = ⊎_elim own (λ x. other (neighbours s d e l c t.2 (omega (arith, hit_other e c x.0)))) (eq_cases e c)
  where
    heads : (q : List ℕ) → (head_or absent q ≡ absent) ⊎ (0 < occurrences (head_or absent q) q)
    heads [] = inl refl
    heads (x ∷ q) = inr (omega (arith, hit_same x))

    own : (e ≡ c) × (eqb e c ≡ true) → (0 < occurrences (nth s c).newer (d ∷ e ∷ l))
        × (((nth s c).older ≡ absent) ⊎ (0 < occurrences (nth s c).older (e ∷ l)))
    own x = (
      omega (arith, hit-eq d (nth s c).newer (sym (ap (λ (i : ℕ). (nth s i).newer) (sym x.0) ∙ t.2.0))),
      ⊎_elim
          (λ y. inl (ap (λ (i : ℕ). (nth s i).older) (sym x.0) ∙ t.2.1 ∙ y))
          (λ y. inr (subst (λ (i : ℕ). 0 < occurrences i (e ∷ l)) (sym (ap (λ (i : ℕ). (nth s i).older) (sym x.0) ∙ t.2.1)) (omega (arith, y))))
          (heads l),
    )

    other : (0 < occurrences (nth s c).newer (e ∷ l)) × (((nth s c).older ≡ absent) ⊎ (0 < occurrences (nth s c).older l))
        → (0 < occurrences (nth s c).newer (d ∷ e ∷ l)) × (((nth s c).older ≡ absent) ⊎ (0 < occurrences (nth s c).older (e ∷ l)))
    other r = (omega (arith, r.0), ⊎_elim inl (λ y. inr (omega (arith, y))) r.1)

-- what stood below c stands below d, once c is unlinked
Linked-below : (s : List Slot) (c e d : ℕ) (q : List ℕ) → occurrences c (d ∷ q) ≡ 0 → (nth s c).newer ≡ d → (nth s c).older ≡ head_or absent q
    → Linked s e q
    → ((i : ℕ) → occurrences i (d ∷ q) ≤ 1) → ((i : ℕ) → 0 < occurrences i q → i < length s) → Linked (unlink_slots s c) d q
unfolding occurrences
Linked-below s c e d [] cz nd ol t one b = tt
Linked-below s c e d (y ∷ q) cz nd ol t one b = (
  ap (λ (i : ℕ). (nth (unlink_slots s c) i).newer) (sym ol)
      ∙ unlink_newer_own s c (λ z. omega (arith, cz, hit-eq y c (sym ol ∙ z)))
      (subst (λ (i : ℕ). i < length s) (sym ol) (b y (omega (arith, hit_same y)))) ∙ nd,
  unlink_older_other s c y (λ z. omega (arith, cz, hit-eq y c z)) (λ z. omega (arith, one y, hit_same y, hit-eq d y (sym (z ∙ nd)))) ∙ t.1,
  Linked-same s (unlink_slots s c) y q
      (λ i x. (
        unlink_newer_other s c i (λ z. omega (arith, cz, subst (λ (j : ℕ). 0 < occurrences j q) z x))
            (λ z. omega (arith, one i, x, hit-eq y i (sym (z ∙ ol)))),
        unlink_older_other s c i (λ z. omega (arith, cz, subst (λ (j : ℕ). 0 < occurrences j q) z x))
            (λ z. omega (arith, one i, x, hit-eq d i (sym (z ∙ nd)))),
      ))
      t.2,
)

-- unlinking a slot that is not the first takes it out of the list
pub Linked-unlink : (s : List Slot) (c up d : ℕ) (l : List ℕ) → length s ≤ absent → Linked s up (d ∷ l) → 0 < occurrences c l
    → ((i : ℕ) → occurrences i (d ∷ l) ≤ 1) → ((i : ℕ) → 0 < occurrences i (d ∷ l) → i < length s)
    → Linked (unlink_slots s c) up (d ∷ remove c l)
unfolding occurrences
Linked-unlink s c up d [] big t h one b = absurd (omega arith)
Linked-unlink s c up d (e ∷ l) big t h one b =
    ⊎_elim own
    (λ x. other x (Linked-unlink s c d e l big t.2 (omega (arith, hit_other e c x.0)) (λ i. omega (arith, one i))
    (λ i y. b i (omega (arith, y)))))
    (eq_cases e c)
  where
    s' : List Slot
    s' = unlink_slots s c

    d-in : d < length s
    d-in = b d (omega (arith, hit_same d))

    d≢c : d ≢ c
    d≢c z = omega (arith, one c, h, hit-eq d c z)

    own : (e ≡ c) × (eqb e c ≡ true) → Linked s' up (d ∷ remove c (e ∷ l))
    own x =
        rw (remove-own c e l x.0) (
          newer-d,
          older-d,
          Linked-below s c e d l (omega (arith, one c, hit-eq e c x.0)) n-is o_is t.2.2 (λ i. omega (arith, one i))
              (λ i y. b i (omega (arith, y))),
        )
      where
        n-is : (nth s c).newer ≡ d
        n-is = ap (λ (i : ℕ). (nth s i).newer) (sym x.0) ∙ t.2.0

        o_is : (nth s c).older ≡ head_or absent l
        o_is = ap (λ (i : ℕ). (nth s i).older) (sym x.0) ∙ t.2.1

        heads : (q : List ℕ) → occurrences d q ≤ occurrences d l → head_or absent q ≢ d
        heads [] sub z = omega (arith, z, d-in)
        heads (y ∷ q) sub z = omega (arith, one d, hit_same d, hit-eq y d z)

        newer-d : (nth s' d).newer ≡ up
        newer-d = unlink_newer_other s c d d≢c (λ z. heads l (omega arith) (sym (z ∙ o_is))) ∙ t.0

        older-d : (nth s' d).older ≡ head_or absent l
        older-d =
            ap (λ (i : ℕ). (nth s' i).older) (sym n-is)
            ∙ unlink_older_own s c (λ z. d≢c (sym n-is ∙ z)) (subst (λ (i : ℕ). i < length s) (sym n-is) d-in)
            ∙ o_is

    other : (e ≢ c) × (eqb e c ≡ false) → Linked s' d (e ∷ remove c l) → Linked s' up (d ∷ remove c (e ∷ l))
    other x r =
        let m = neighbours s d e l c t.2 (omega (arith, hit_other e c x.0)) in
        rw (remove-other c e l x.0) (
          unlink_newer_other s c d d≢c (λ z. ⊎_elim (λ u. omega (arith, z, u, d-in))
              (λ u. omega (arith, one d, hit_same d, subst (λ (i : ℕ). 0 < occurrences i l) (sym z) u)) m.1) ∙ t.0,
          unlink_older_other s c d d≢c (λ z. omega (arith, one d, hit_same d, subst (λ (i : ℕ). 0 < occurrences i (e ∷ l)) (sym z) m.0)) ∙ t.1,
          r,
        )

-- linking a free slot in front
pub Linked-link : (s : List Slot) (c f : ℕ) (x : Reading) (l : List ℕ) → f < length s → Linked s absent (c ∷ l) → occurrences f (c ∷ l) ≡ 0
    → occurrences c l ≡ 0 → c < length s
    → Linked (link_slots s c f x) absent (f ∷ c ∷ l)
unfolding occurrences
Linked-link s c f x l fin t fr cr cin = (
  ap (λ (v : Slot). v.newer) (link_new s c f x fin),
  ap (λ (v : Slot). v.older) (link_new s c f x fin),
  (
    link_newer_own s c f x c≢f cin,
    link_part s c f x (λ v. v.older) (λ v y. refl) c c≢f ∙ t.1,
    Linked-same s (link_slots s c f x) c l
        (λ i y.
        let i≢f : i ≢ f = λ e. omega (arith, subst (λ (j : ℕ). 0 < occurrences j l) e y) in (
          link_newer_other s c f x i i≢f (λ e. omega (arith, subst (λ (j : ℕ). 0 < occurrences j l) e y)),
          link_part s c f x (λ v. v.older) (λ v z. refl) i i≢f,
        ))
        t.2,
  ),
)
  where
    c≢f : c ≢ f
    c≢f e = omega (arith, hit-eq c f e)

------------------------------------------------------------------------
-- What a time sees

abbrev pub Sees : List Slot → ℕ → Content → List ℕ → Type 0
Sees s a x [] = ⊥
Sees s a x (c ∷ l) = (((nth s c).low ≤ a) × (a < (nth s c).high) × ((nth s c).value ≡ x)) ⊎ ((a < (nth s c).low) × Sees s a x l)

-- a read that stands on slot c will see x
abbrev pub On : List Slot → ℕ → ℕ → Content → List ℕ → Type 0
On s a c x [] = ⊥
On s a c x (d ∷ l) = ((d ≡ c) × Sees s a x (d ∷ l)) ⊎ ((a < (nth s d).low) × On s a c x l)

pub Sees-mono : (s s' : List Slot) (a : ℕ) (x : Content) (l : List ℕ)
    → ((c : ℕ) → 0 < occurrences c l → ((nth s c).low ≤ a → (nth s' c).low ≤ a) × (a < (nth s c).low → a < (nth s' c).low)
    × (a < (nth s c).high → a < (nth s' c).high) × ((nth s' c).value ≡ (nth s c).value))
    → Sees s a x l → Sees s' a x l
unfolding occurrences
Sees-mono s s' a x [] f t = t
Sees-mono s s' a x (c ∷ l) f t =
    let e = f c (omega (arith, hit_same c)) in
    ⊎_elim (λ u. inl (e.0 u.0, e.2 u.1, e.3 ∙ u.2)) (λ u. inr (e.1 u.0, Sees-mono s s' a x l (λ d y. f d (omega arith)) u.1)) t

pub On-mono : (s s' : List Slot) (a c : ℕ) (x : Content) (l : List ℕ)
    → ((c : ℕ) → 0 < occurrences c l → ((nth s c).low ≤ a → (nth s' c).low ≤ a) × (a < (nth s c).low → a < (nth s' c).low)
    × (a < (nth s c).high → a < (nth s' c).high) × ((nth s' c).value ≡ (nth s c).value))
    → On s a c x l → On s' a c x l
unfolding occurrences
On-mono s s' a c x [] f t = t
On-mono s s' a c x (d ∷ l) f t =
    let e = f d (omega (arith, hit_same d)) in
    ⊎_elim (λ u. inl (u.0, Sees-mono s s' a x (d ∷ l) f u.1)) (λ u. inr (e.1 u.0, On-mono s s' a c x l (λ i y. f i (omega arith)) u.1)) t

-- a version that the time does not need may go
pub Sees-remove : (s : List Slot) (a : ℕ) (x : Content) (c : ℕ) (l : List ℕ) → ((nth s c).low ≤ a → a < (nth s c).high → ⊥) → Sees s a x l
    → Sees s a x (remove c l)
Sees-remove s a x c [] n t = absurd t
Sees-remove s a x c (d ∷ l) n t =
    ⊎_elim
    (λ e. rw (remove-own c d l e.0) (⊎_elim (λ u. absurd
    (n (subst (λ (i : ℕ). (nth s i).low ≤ a) e.0 u.0) (subst (λ (i : ℕ). a < (nth s i).high) e.0 u.1))) (λ u. u.1) t))
    (λ e. rw (remove-other c d l e.0) (⊎_elim inl (λ u. inr (u.0, Sees-remove s a x c l n u.1)) t))
    (eq_cases d c)

-- a read that stands elsewhere stays where it is, and one that stands on it moves to the older neighbour
pub On-remove : (s : List Slot) (a : ℕ) (x : Content) (c k : ℕ) (l : List ℕ) → ((nth s c).low ≤ a → a < (nth s c).high → ⊥) → k ≢ c → On s a k x l
    → On s a k x (remove c l)
On-remove s a x c k [] n m t = absurd t
On-remove s a x c k (d ∷ l) n m t =
    ⊎_elim
    (λ e. rw (remove-own c d l e.0) (⊎_elim (λ u. absurd (m (sym u.0 ∙ e.0))) (λ u. u.1) t))
    (λ e.
    ⊎_elim
    (λ u. rw (remove-other c d l e.0) (inl (u.0, rw (remove-other c d l e.0) at (Sees-remove s a x c (d ∷ l) n u.1))))
    (λ u. rw (remove-other c d l e.0) (inr (u.0, On-remove s a x c k l n m u.1)))
    t)
    (eq_cases d c)

pub On-moves : (s : List Slot) (up a : ℕ) (x : Content) (c : ℕ) (l : List ℕ) → Linked s up l → ((i : ℕ) → occurrences i l ≤ 1)
    → ((nth s c).low ≤ a → a < (nth s c).high → ⊥) → On s a c x l → On s a (nth s c).older x (remove c l)
unfolding occurrences
On-moves s up a x c [] t one n h = absurd h
On-moves s up a x c (d ∷ l) t one n h = ⊎_elim own (λ e. other e (λ u. On-moves s d a x c l t.2 (λ i. omega (arith, one i)) n u)) (eq_cases d c)
  where
    first : (q : List ℕ) → Sees s a x q → On s a (head_or absent q) x q
    first [] z = absurd z
    first (y ∷ q) z = inl (refl, z)

    own : (d ≡ c) × (eqb d c ≡ true) → On s a (nth s c).older x (remove c (d ∷ l))
    own e = rw (remove-own c d l e.0) (⊎_elim here (λ u. absurd (gone l (omega (arith, one c, hit-eq d c e.0)) u.1)) h)
      where
        here : (d ≡ c) × Sees s a x (d ∷ l) → On s a (nth s c).older x l
        here u =
            subst (λ (k : ℕ). On s a k x l) (sym (ap (λ (i : ℕ). (nth s i).older) (sym e.0) ∙ t.1))
            (first l (⊎_elim (λ v. absurd (n (subst (λ (i : ℕ). (nth s i).low ≤ a) e.0 v.0)
            (subst (λ (i : ℕ). a < (nth s i).high) e.0 v.1))) (λ v. v.1) u.1))

        gone : (q : List ℕ) → occurrences c q ≡ 0 → On s a c x q → ⊥
        gone [] z v = v
        gone (y ∷ q) z v = ⊎_elim (λ r. omega (arith, z, hit-eq y c r.0)) (λ r. gone q (omega (arith, z)) r.1) v

    other : (d ≢ c) × (eqb d c ≡ false) → (On s a c x l → On s a (nth s c).older x (remove c l)) → On s a (nth s c).older x (remove c (d ∷ l))
    other e f = rw (remove-other c d l e.0) (⊎_elim (λ u. absurd (e.0 u.0)) (λ u. inr (u.0, f u.1)) h)

-- where the low of the slot that it stands on is at most its time, a read sees that slot's value; else it goes on
pub On-found : (s : List Slot) (a c : ℕ) (x : Content) (l : List ℕ) → On s a c x l → (nth s c).low ≤ a → (nth s c).value ≡ x
On-found s a c x [] t h = absurd t
On-found s a c x (d ∷ l) t h =
    ⊎_elim
    (λ u. ⊎_elim (λ v. ap (λ (i : ℕ). (nth s i).value) (sym u.0) ∙ v.2)
    (λ v. absurd (omega (arith, subst (λ (i : ℕ). a < (nth s i).low) u.0 v.0))) u.1)
    (λ u. On-found s a c x l u.1 h)
    t

pub On-on : (s : List Slot) (up a c : ℕ) (x : Content) (l : List ℕ) → Linked s up l → On s a c x l → a < (nth s c).low → On s a (nth s c).older x l
On-on s up a c x [] k t h = absurd t
On-on s up a c x (d ∷ l) k t h =
    ⊎_elim
    (λ u. inr (
      subst (λ (i : ℕ). a < (nth s i).low) (sym u.0) h,
      subst (λ (i : ℕ). On s a i x l) (sym (ap (λ (i : ℕ). (nth s i).older) (sym u.0) ∙ k.1))
          (first l (⊎_elim (λ v. absurd (omega (arith, v.0, subst (λ (i : ℕ). a < (nth s i).low) (sym u.0) h))) (λ v. v.1) u.1)),
    ))
    (λ u. inr (u.0, On-on s d a c x l k.2 u.1 h))
    t
  where
    first : (q : List ℕ) → Sees s a x q → On s a (head_or absent q) x q
    first [] z = absurd z
    first (y ∷ q) z = inl (refl, z)

-- what it will see is what its time sees
pub On-sees : (s : List Slot) (a c : ℕ) (x : Content) (l : List ℕ) → On s a c x l → Sees s a x l
On-sees s a c x [] t = t
On-sees s a c x (d ∷ l) t = ⊎_elim (λ u. u.1) (λ u. inr (u.0, On-sees s a c x l u.1)) t

------------------------------------------------------------------------
-- A register's versions at clock t, of which the newest that is stamped has value x

abbrev pub Past : List Slot → ℕ → ℕ → Type 0
Past s t c = ((nth s c).low ≤ t) × ((nth s c).high ≤ t)

abbrev pub Next : List Slot → ℕ → Content → List ℕ → Type 0
Next s t x [] = ⊥
Next s t x (d ∷ l) = ((nth s d).low ≤ t) × ((nth s d).high ≡ absent) × ((nth s d).value ≡ x) × All (Past s t) l

abbrev pub Fine : List Slot → ℕ → Content → List ℕ → Type 0
Fine s t x [] = ⊥
Fine s t x (c ∷ l) =
    ((nth s c).high ≡ absent) × ((((nth s c).low ≤ t) × ((nth s c).value ≡ x) × All (Past s t) l) ⊎ (((nth s c).low ≡ absent) × Next s t x l))

-- when the clock passes t, t sees the value of the newest that is stamped
pub Fine-sees : (s : List Slot) (t : ℕ) (x : Content) (l : List ℕ) → t < absent → Fine s t x l → Sees s t x l
Fine-sees s t x [] b f = f
Fine-sees s t x (c ∷ l) b f = ⊎_elim (λ u. inl (u.0, omega (arith, f.0), u.1)) (λ u. inr (omega (arith, u.0), next l u.1)) f.1
  where
    next : (q : List ℕ) → Next s t x q → Sees s t x q
    next [] z = z
    next (d ∷ q) z = inl (z.0, omega (arith, z.1), z.2)
