-- The histories of two runs that differ in values put to register r, the effects of a record in both, and the plain registers that the same
-- order of both histories leads to: those differ at r alone, and where they differ both values have at most twelve digits.
use mathlib.Core.Path.{◌≡◌, refl, sym, ap, ◌∙◌, subst}
use mathlib.Core.Bool.{Bool, true, false, cond}
use mathlib.Core.Logic.{◌⊎◌, inl, inr, ⊎_elim}
use mathlib.Core.List.{List, [], ◌∷◌, ◌++◌, map}
use mathlib.Core.Option.{Option, none, some}
use Prim.Native.Nat.{ℕ, zero, suc, ◌≤◌}
use lib.Dec.{eqb}
use lib.ListN.{get_or}
use borrow.Author.Tests as Tests
use Rattle.model.specs.Store.{Reading, Content, Slot, slot₀, Worker, start_worker, Store, worker_at, slot_at, count_of}
use Rattle.model.specs.Rules.{twelve_digits}
use Rattle.model.specs.About.{Effect, NoEffect, ByStamp, ByClock, about}
use Rattle.model.specs.Answer.{Answer, Ok, Going, Freed, At, Value, None, Below, Done, No, said}
use Rattle.model.specs.Record.{Operation, Put, Open, Read, Close, Get, Collect, Total, Mark, Release, MarkedRead}
use Rattle.model.specs.Demand.{Ending, Unfinished, RefusedAt, FinishedAt, Call, call₀, call_at, end_as, end_by, end_once, end_for, Plain, plain₀, update}
use Rattle.model.specs.Demand.{feed, is_unfinished, running_of, comes, stamped_over, passed, filter_below, change_effects, at_end, end_effects}
use Rattle.two_runs.specs.TwoRuns.{Pairwise, without_value, bare_worker, bare_slot, bare}
use Rattle.theorem.proofs.Linear.{after}
use Rattle.theorem.proofs.Effect.{takes, below-same}
use Rattle.two_runs.proofs.TwoRunsBare.{map-get_d, effect_like}

------------------------------------------------------------------------
-- Two lists, entry by entry

module _ {A : Type 0} (R : A → A → Type 0) where
  pub pairwise_at : (l l' : List A) (i : ℕ) (d : A) → R d d → Pairwise R l l' → R (get_or l i d) (get_or l' i d)
  pairwise_at [] [] i d a t = a
  pairwise_at [] (y ∷ m) i d a t = absurd t
  pairwise_at (x ∷ l) [] i d a t = absurd t
  pairwise_at (x ∷ l) (y ∷ m) zero d a t = t.0
  pairwise_at (x ∷ l) (y ∷ m) (suc i) d a t = pairwise_at l m i d a t.1

  pub pairwise_snoc : (l l' : List A) (x y : A) → R x y → Pairwise R l l' → Pairwise R (l ++ (x ∷ [])) (l' ++ (y ∷ []))
  pairwise_snoc [] [] x y a t = (a, tt)
  pairwise_snoc [] (z ∷ m) x y a t = absurd t
  pairwise_snoc (z ∷ l) [] x y a t = absurd t
  pairwise_snoc (z ∷ l) (u ∷ m) x y a t = (t.0, pairwise_snoc l m x y a t.1)

  pub pairwise_map : (f g : A → A) → ((x y : A) → R x y → R (f x) (g y)) → (l l' : List A) → Pairwise R l l' → Pairwise R (map f l) (map g l')
  pairwise_map f g k [] [] t = tt
  pairwise_map f g k [] (y ∷ m) t = absurd t
  pairwise_map f g k (x ∷ l) [] t = absurd t
  pairwise_map f g k (x ∷ l) (y ∷ m) t = (k x y t.0, pairwise_map f g k l m t.1)

------------------------------------------------------------------------
-- What answers that are equal but for a value say

said-bare : (a : Answer) → said (without_value a) ≡ said a
said-bare Ok = refl
said-bare Going = refl
said-bare (Freed c) = refl
said-bare (At t) = refl
said-bare (Value x) = refl
said-bare None = refl
said-bare (Below x) = refl
said-bare Done = refl
said-bare (No k) = refl

pub said-like : (a a' : Answer) → without_value a ≡ without_value a' → said a ≡ said a'
said-like a a' e = sym (said-bare a) ∙ ap said e ∙ said-bare a'

------------------------------------------------------------------------
-- Histories

-- the same operation, or two puts to register r of values within the limit
abbrev pub AlikeOperation : ℕ → Operation → Operation → Type 0
AlikeOperation r c c' =
    (c ≡ c')
    ⊎ ((x : Reading) × (y : Reading) × (c ≡ Put r x) × (c' ≡ Put r y) × (x.count ≤ twelve_digits) × (y.count ≤ twelve_digits))

-- calls of one worker, both ended or neither
pub record AlikeCall (r : ℕ) (c c' : Call) : Type 0 where
  pub operation : AlikeOperation r c.operation c'.operation
  pub worker : c.worker ≡ c'.worker
  pub unfinished : is_unfinished c.ending ≡ is_unfinished c'.ending

abbrev pub AlikeCalls : ℕ → List Call → List Call → Type 0
AlikeCalls r h h' = Pairwise (AlikeCall r) h h'

pub call_like : (r : ℕ) (h h' : List Call) → AlikeCalls r h h' → (i : ℕ) → AlikeCall r (call_at h i) (call_at h' i)
call_like r h h' C i = pairwise_at (AlikeCall r) h h' i call₀ (record { operation = inl refl; worker = refl; unfinished = refl }) C

pub running_like : (r : ℕ) (h h' : List Call) → AlikeCalls r h h' → (w : ℕ) → running_of h w ≡ running_of h' w
unfolding running_of
running_like r [] [] C w = refl
running_like r [] (c' ∷ h') C w = absurd C
running_like r (c ∷ h) [] C w = absurd C
running_like r (c ∷ h) (c' ∷ h') C w = rw (C.0.worker, C.0.unfinished, running_like r h h' C.1 w)

-- a step was answered a in one run and a' in the other, which is equal but for a value
module _ (now w : ℕ) (a a' : Answer) where
  ended : (b : Answer) (e : Ending) → is_unfinished (end_once e (end_as now b)) ≡ false
  unfolding is_unfinished end_once
  ended b Unfinished = go (said b).refusal
    where
      go : (k : Option ℕ) → is_unfinished (end_by now b k) ≡ false
      go none = unfold is_unfinished in refl
      go (some k) = unfold is_unfinished in refl
  ended b (RefusedAt i) = refl
  ended b (FinishedAt i z) = refl

  pub end_for-like : (r : ℕ) (c c' : Call) → AlikeCall r c c' → AlikeCall r (end_for now w a c) (end_for now w a' c')
  unfolding end_for
  end_for-like r c c' C =
      record {
        operation = C.operation;
        worker = C.worker;
        unfinished = subst
            (λ (k : ℕ). is_unfinished (cond (eqb c.worker w) (end_once c.ending (end_as now a)) c.ending)
            ≡ is_unfinished (cond (eqb k w) (end_once c'.ending (end_as now a')) c'.ending))
            C.worker (go (eqb c.worker w));
      }
    where
      go : (b : Bool) → is_unfinished (cond b (end_once c.ending (end_as now a)) c.ending)
          ≡ is_unfinished (cond b (end_once c'.ending (end_as now a')) c'.ending)
      go true = ended a c.ending ∙ sym (ended a' c'.ending)
      go false = C.unfinished

------------------------------------------------------------------------
-- Effects

at_end-like : (r : ℕ) (c c' : Operation) → AlikeOperation r c c' → at_end c ≡ at_end c'
unfolding at_end
at_end-like r c c' C = ⊎_elim (λ e. ap at_end e) (λ u. ap at_end u.2 ∙ sym (ap at_end u.3)) C

pub end_effects-like : (r : ℕ) (h h' : List Call) → AlikeCalls r h h' → (w : ℕ) (a a' : Answer) → said a ≡ said a'
    → end_effects h w a ≡ end_effects h' w a'
unfolding end_effects
end_effects-like r h h' C w a a' e =
    rw (e, running_like r h h' C w, at_end-like r _ _ (call_like r h h' C (running_of h' w)).operation)

-- an effect is seen without values
takes-bare : (s t : Store) (v : ℕ) → takes (bare s) (bare t) v ≡ takes s t v
takes-bare s t v =
    ap (λ (x : Worker). comes (stamped_over (bare s) (bare t)) (passed s t) x.announced (about x.doing).effect)
    (map-get_d bare_worker s.workers v start_worker)
    ∙ ap (comes (stamped_over (bare s) (bare t)) (passed s t) (worker_at s v).announced) (effect_like (worker_at s v).doing)
    ∙ go (about (worker_at s v).doing).effect
  where
    high : (x : Store) (c : ℕ) → (slot_at (bare x) c).high ≡ (slot_at x c).high
    high x c = ap (λ (z : Slot). z.high) (map-get_d bare_slot x.slots c slot₀)

    go : (y : Effect) → comes (stamped_over (bare s) (bare t)) (passed s t) (worker_at s v).announced y
        ≡ comes (stamped_over s t) (passed s t) (worker_at s v).announced y
    go NoEffect = refl
    go (ByStamp c) = rw (high s c, high t c)
    go ByClock = refl

map-like : (f g : ℕ → ℕ) → ((i : ℕ) → f i ≡ g i) → (l : List ℕ) → map f l ≡ map g l
map-like f g e [] = refl
map-like f g e (i ∷ l) = rw (e i, map-like f g e l)

-- as store s becomes t in one run, and s' becomes t' in the other
pub change-effects_like : (r : ℕ) (h h' : List Call) → AlikeCalls r h h' → (s t s' t' : Store) → bare s ≡ bare s' → bare t ≡ bare t'
    → change_effects h s t ≡ change_effects h' s' t'
change-effects_like r h h' C s t s' t' e f =
    map-like (running_of h) (running_of h') (running_like r h h' C) (filter_below (takes s t) s.site.P)
    ∙ ap (map (running_of h'))
    (sym (without s t)
    ∙ ap (λ (q : Store). filter_below (takes q (bare t)) q.site.P) e
    ∙ ap (λ (q : Store). filter_below (takes (bare s') q) s'.site.P) f
    ∙ without s' t')
  where
    without : (x y : Store) → filter_below (takes (bare x) (bare y)) x.site.P ≡ filter_below (takes x y) x.site.P
    without x y = below-same (takes x y) (takes (bare x) (bare y)) x.site.P (λ v z. takes-bare x y v)

------------------------------------------------------------------------
-- Plain registers

-- what register q holds in both runs
abbrev pub AlikeContent : ℕ → ℕ → Content → Content → Type 0
AlikeContent r q x y = (x ≡ y) ⊎ ((q ≡ r) × (count_of x ≤ twelve_digits) × (count_of y ≤ twelve_digits))

abbrev pub AlikeRegisters : ℕ → (ℕ → Content) → (ℕ → Content) → Type 0
AlikeRegisters r f g = (q : ℕ) → AlikeContent r q (f q) (g q)

abbrev pub AlikeCopy : ℕ → Option (ℕ → Content) → Option (ℕ → Content) → Type 0
AlikeCopy r none none = Unit {0}
AlikeCopy r none (some g) = ⊥
AlikeCopy r (some f) none = ⊥
AlikeCopy r (some f) (some g) = AlikeRegisters r f g

pub record AlikePlain (r : ℕ) (p p' : Plain) : Type 0 where
  pub registers : AlikeRegisters r p.registers p'.registers
  pub copy : (w : ℕ) → AlikeCopy r (p.copy w) (p'.copy w)
  pub kept : (m : ℕ) → AlikeCopy r (p.kept m) (p'.kept m)

update-like {ℓ} : {A : Type ℓ} (R : ℕ → A → A → Type 0) (f g : ℕ → A) (i : ℕ) (x y : A) → ((j : ℕ) → R j (f j) (g j)) → ((j : ℕ) → j ≡ i → R j x y)
    → (j : ℕ) → R j (update f i x j) (update g i y j)
update-like R f g i x y k e j = go (eqb j i) refl
  where
    go : (b : Bool) → eqb j i ≡ b → R j (cond b x (f j)) (cond b y (g j))
    go true u = e j (Tests.eqb-true j i u)
    go false u = k j

module _ (r : ℕ) (p p' : Plain) (P : AlikePlain r p p') (w : ℕ) where
  put-like : (q : ℕ) (x y : Reading) → AlikeContent r q (some x) (some y) → AlikePlain r (feed p w (Put q x)) (feed p' w (Put q y))
  unfolding feed
  put-like q x y a =
      record {
        registers = update-like (AlikeContent r) p.registers p'.registers q (some x) (some y) P.registers
            (λ j e. subst (λ (k : ℕ). AlikeContent r k (some x) (some y)) (sym e) a);
        copy = P.copy;
        kept = P.kept;
      }

  same_like : (c : Operation) → AlikePlain r (feed p w c) (feed p' w c)
  unfolding feed
  same_like (Put q x) = put-like q x x (inl refl)
  same_like Open =
      record {
        registers = P.registers;
        copy = update-like (λ v. AlikeCopy r) p.copy p'.copy w (some p.registers) (some p'.registers) P.copy (λ v e. P.registers);
        kept = P.kept;
      }
  same_like (Read q) = P
  same_like Close =
      record {
        registers = P.registers;
        copy = update-like (λ v. AlikeCopy r) p.copy p'.copy w none none P.copy (λ v e. tt);
        kept = P.kept;
      }
  same_like (Get q) = P
  same_like Collect = P
  same_like (Total g) = P
  same_like (Mark m) =
      record {
        registers = P.registers;
        copy = P.copy;
        kept = update-like (λ v. AlikeCopy r) p.kept p'.kept m (p.copy w) (p'.copy w) P.kept (λ v e. P.copy w);
      }
  same_like (Release m) =
      record {
        registers = P.registers;
        copy = P.copy;
        kept = update-like (λ v. AlikeCopy r) p.kept p'.kept m none none P.kept (λ v e. tt);
      }
  same_like (MarkedRead q m) = P

  feed-like : (c c' : Operation) → AlikeOperation r c c' → AlikePlain r (feed p w c) (feed p' w c')
  feed-like c c' C =
      ⊎_elim
      (λ e. subst (λ (k : Operation). AlikePlain r (feed p w c) (feed p' w k)) e (same_like c))
      (λ u. rw (u.2, u.3) (put-like r u.0 u.1 (inr (refl, u.4, u.5))))
      C

pub after-like : (r : ℕ) (h h' : List Call) → AlikeCalls r h h' → (p p' : Plain) → AlikePlain r p p' → (o : List ℕ)
    → AlikePlain r (after h p o) (after h' p' o)
unfolding after
after-like r h h' C p p' P [] = P
after-like r h h' C p p' P (i ∷ o) =
    let c = call_like r h h' C i in
    after-like r h h' C (feed p (call_at h i).worker (call_at h i).operation) (feed p' (call_at h' i).worker (call_at h' i).operation)
    (subst (λ (v : ℕ). AlikePlain r (feed p (call_at h i).worker (call_at h i).operation) (feed p' v (call_at h' i).operation)) c.worker
    (feed-like r p p' P (call_at h i).worker _ _ c.operation)) o

-- from the start on
pub plain_like : (r : ℕ) (start : ℕ → Content) (h h' : List Call) → AlikeCalls r h h' → (o : List ℕ) → AlikePlain r (after h (plain₀ start) o) (after h' (plain₀ start) o)
plain_like r start h h' C o = after-like r h h' C (plain₀ start) (plain₀ start) (record { registers = λ q. inl refl; copy = λ w. tt; kept = λ m. tt }) o
