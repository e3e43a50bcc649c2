-- What the order's definition adds at a record: nothing, the operation that ends, a put that is stamped, the opens whose time is passed.
use mathlib.Core.Path.{◌≡◌, refl, sym, ap, ◌∙◌}
use mathlib.Core.Bool.{Bool, true, false, not, true≢false, ◌&&◌, cond}
use mathlib.Core.Logic.{◌≢◌, ◌⊎◌, inl, inr, ⊎_elim}
use mathlib.Core.List.{List, [], ◌∷◌, ◌++◌, map}
use Prim.Native.Nat.{ℕ, zero, suc, ◌<◌}
use native.Mathlib.Nat.{not-suc-le-zero, le_of_suc-le-suc}
use native.Mathlib.Omega.{arith}
use lib.Dec.{eqb}
use lib.ListN.{length}
use borrow.Author.Tests as Tests
use Rattle.model.specs.Store.{absent, PutStamp, Store, worker_at, slot_at}
use Rattle.model.specs.About.{Effect, NoEffect, ByStamp, ByClock, about}
use Rattle.model.specs.Answer.{Answer}
use Rattle.model.specs.Demand.{Ending, Unfinished, RefusedAt, FinishedAt, Call, is_unfinished, running_of, stamped_over, passed, comes}
use Rattle.model.specs.Demand.{takes_effect, filter_below, change_effects, at_end, finishes, end_effects, call_at}
use Rattle.model.proofs.Basic.{eq_cases, le_cases, and_both}
use Rattle.theorem.proofs.View.{stamp-is}
use Rattle.theorem.proofs.Invariant.{Running}

------------------------------------------------------------------------
-- The operation that a worker has open

un_is : (e : Ending) → is_unfinished e ≡ true → e ≡ Unfinished
unfolding is_unfinished
un_is Unfinished z = refl
un_is (RefusedAt i) z = absurd (true≢false (sym z))
un_is (FinishedAt i a) z = absurd (true≢false (sym z))

find : (h : List Call) (w k : ℕ) → k < length h → (call_at h k).worker ≡ w → (call_at h k).ending ≡ Unfinished
    → ((i : ℕ) → i < length h → (call_at h i).worker ≡ w → (call_at h i).ending ≡ Unfinished → i ≡ k) → running_of h w ≡ k
unfolding running_of is_unfinished
find [] w k b a u f = absurd (not-suc-le-zero b)
find (d ∷ h) w zero b a u f = rw (Tests.eq-eqb d.worker w a, u)
find (d ∷ h) w (suc k) b a u f =
    go (◌&&◌ (eqb d.worker w) (is_unfinished d.ending)) refl
    (find h w k (le_of_suc-le-suc b) a u (λ i z x y. omega (arith, f (suc i) (omega (arith, z)) x y)))
  where
    go : (t : Bool) → ◌&&◌ (eqb d.worker w) (is_unfinished d.ending) ≡ t → running_of h w ≡ k → cond t 0 (suc (running_of h w)) ≡ suc k
    go true e r =
        let q = and_both (eqb d.worker w) (is_unfinished d.ending) e in
        absurd (omega (arith, f 0 (omega arith) (Tests.eqb-true d.worker w q.0) (un_is d.ending q.1)))
    go false e r = ap suc r

pub running_is : {h : List Call} {w k : ℕ} → Running h w k → running_of h w ≡ k
running_is {h} {w} {k} K = find h w k K.within K.own K.unfinished K.only

------------------------------------------------------------------------
-- The operation that ends

module _ {h : List Call} {w k : ℕ} (K : Running h w k) where
  pub own_not : (a : Answer) → at_end (call_at h k).operation ≡ false → end_effects h w a ≡ []
  unfolding end_effects
  own_not a e = rw (running_is K, e) (go (finishes a))
    where
      go : (t : Bool) → cond (◌&&◌ t false) (k ∷ []) [] ≡ []
      go true = refl
      go false = refl

  pub own_is : (a : Answer) → finishes a ≡ true → at_end (call_at h k).operation ≡ true → end_effects h w a ≡ k ∷ []
  unfolding end_effects
  own_is a f e = rw (running_is K, f, e)

------------------------------------------------------------------------
-- Those that pass a test

pub below_none : (q : ℕ → Bool) (n : ℕ) → ((v : ℕ) → v < n → q v ≡ false) → filter_below q n ≡ []
unfolding filter_below
below_none q zero f = refl
below_none q (suc n) f = rw (f n (omega arith), below_none q n (λ v z. f v (omega (arith, z))))

pub below-same : (q q' : ℕ → Bool) (n : ℕ) → ((v : ℕ) → v < n → q' v ≡ q v) → filter_below q' n ≡ filter_below q n
unfolding filter_below
below-same q q' zero f = refl
below-same q q' (suc n) f = rw (f n (omega arith), below-same q q' n (λ v z. f v (omega (arith, z))))

pub below_one : (q : ℕ → Bool) (n w : ℕ) → w < n → q w ≡ true → ((v : ℕ) → v < n → v ≢ w → q v ≡ false) → filter_below q n ≡ w ∷ []
unfolding filter_below
below_one q zero w b e f = absurd (not-suc-le-zero b)
below_one q (suc n) w b e f = go (eq_cases n w) (λ z. below_one q n w z e (λ v y. f v (omega (arith, y))))
  where
    go : ((n ≡ w) × (eqb n w ≡ true)) ⊎ ((n ≢ w) × (eqb n w ≡ false)) → (w < n → filter_below q n ≡ w ∷ [])
        → filter_below q n ++ cond (q n) (n ∷ []) [] ≡ w ∷ []
    go (inl u) r = rw (below_none q n (λ v z. f v (omega (arith, z)) (λ y. omega (arith, y, u.0, z))), u.0, e)
    go (inr u) r = rw (f n (omega arith) u.0, r (omega (arith, b, u.0)))

------------------------------------------------------------------------
-- Between two stores

abbrev pub takes : Store → Store → ℕ → Bool
takes s t v = takes_effect (stamped_over s t) (passed s t) (worker_at s v).announced (worker_at s v).doing

pub takes_same : (s t t' : Store) (v : ℕ) → t'.clock ≡ t.clock
    → ((r c : ℕ) → (worker_at s v).doing ≡ PutStamp r c → (slot_at t' c).high ≡ (slot_at t c).high) → takes s t' v ≡ takes s t v
takes_same s t t' v k f = go (about (worker_at s v).doing).effect refl
  where
    a : ℕ
    a = (worker_at s v).announced

    go : (y : Effect) → (about (worker_at s v).doing).effect ≡ y
        → comes (stamped_over s t') (passed s t') a y ≡ comes (stamped_over s t) (passed s t) a y
    go NoEffect e = refl
    go (ByStamp c) e = let u = stamp-is (worker_at s v).doing c e in rw (f u.0 c u.1)
    go ByClock e = rw k

pub never : (t : Bool) → ◌&&◌ t (not t) ≡ false
never true = refl
never false = refl

pub takes-self : (s : Store) (v : ℕ) → takes s s v ≡ false
takes-self s v = go (about (worker_at s v).doing).effect
  where
    a : ℕ
    a = (worker_at s v).announced

    go : (y : Effect) → comes (stamped_over s s) (passed s s) a y ≡ false
    go NoEffect = refl
    go (ByStamp c) = never (eqb (slot_at s c).high absent)
    go ByClock = ⊎_elim (λ u. rw (u.1, Tests.le-ltb a s.clock u.0)) (λ u. rw u.1) (le_cases s.clock a)

-- nothing is stamped and no time is passed
pub change-none : (h : List Call) (s t : Store) → t.clock ≡ s.clock
    → ((v r c : ℕ) → v < s.site.P → (worker_at s v).doing ≡ PutStamp r c → (slot_at t c).high ≡ (slot_at s c).high) → change_effects h s t ≡ []
change-none h s t k f =
    ap (map (running_of h)) (below_none (takes s t) s.site.P (λ v z. takes_same s s t v k (λ r c e. f v r c z e) ∙ takes-self s v))

pub change-same : (h : List Call) (s t t' : Store) → t'.clock ≡ t.clock
    → ((v r c : ℕ) → v < s.site.P → (worker_at s v).doing ≡ PutStamp r c → (slot_at t' c).high ≡ (slot_at t c).high)
    → change_effects h s t' ≡ change_effects h s t
change-same h s t t' k f =
    ap (map (running_of h)) (below-same (takes s t) (takes s t') s.site.P (λ v z. takes_same s t t' v k (λ r c e. f v r c z e)))
