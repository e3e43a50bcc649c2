-- One record, refused or not, keeps the invariant.
use mathlib.Core.Path.{◌≡◌, refl, sym, ap, ◌∙◌, subst}
use mathlib.Core.Bool.{Bool, true, false, not, ◌&&◌}
use mathlib.Core.Logic.{◌⊎◌, inl}
use mathlib.Core.List.{List, [], ◌++◌}
use Prim.Native.Nat.{ℕ, ◌<◌}
use lib.Dec.{ltb}
use borrow.Author.Tests as Tests
use Rattle.model.specs.Store.{Content, Idle, Store, up, worker_at, place}
use Rattle.model.specs.Rules.{Rules}
use Rattle.model.specs.Answer.{Freed, No, Applied}
use Rattle.model.specs.Steps.{step_at}
use Rattle.model.specs.Record.{Operation, SetUp, Begin, Step, Decoded, Asks, Refuses, decode}
use Rattle.model.specs.Apply.{refuse, set_up, is_idle, terms, begin, step, takes_step, obey, apply_decoded, apply}
use Rattle.model.specs.Demand.{Call, observe, Performs, StepTaken, Plain, end_effects, step_effects, effects, occurrences}
use Rattle.model.specs.Demand.{FreesNothingNeeded, TookBy}
use Rattle.model.proofs.Basic.{cond_both}
use Rattle.model.proofs.Begin.{begin-by}
use Rattle.theorem.proofs.Site.{SameSite, step-site}
use Rattle.theorem.proofs.Invariant.{NoneRunning, Inv}
use Rattle.theorem.proofs.View.{idle_is}
use Rattle.theorem.proofs.Places.{Kept, none_more, cur_is, begin-kept}
use Rattle.theorem.proofs.History.{ended_none}
use Rattle.theorem.proofs.Step.{NotFreed, inv_skip, step_after, change-still, own_refused}

-- what a record does that reads as d, finds store s, calls h and order o, and leaves and answers a
pub record Holds (start : ℕ → Content) (now : ℕ) (s : Store) (d : Decoded) (h : List Call) (o : List ℕ) (a : Applied) : Type 0 where
  pub store : Store
  pub is : a.hub ≡ up store
  pub site : SameSite s store
  pub kept : Kept start now store (observe now d a.answer h) (o ++ effects h d (up s) a.answer (up store))
  pub safe : FreesNothingNeeded (up s) a.answer
  pub frees : (c : ℕ) → a.answer ≡ Freed c → (occurrences c s.free ≡ 0) × (0 < occurrences c store.free)
  pub stays : (c : ℕ) → 0 < occurrences c s.free → (0 < occurrences c store.free) ⊎ TookBy c d (up s) a.answer (up store)

module _ {start : ℕ → Content} (now : ℕ) (s : Store) (olds : List (List ℕ)) (h : List Call) (o : List ℕ) (p : Plain) (I : Inv start now s olds h o p) where
  -- a refusal on reading begins nothing and takes no step
  refused_holds : (d : Decoded) (k : ℕ) → observe now d (No k) h ≡ h → effects h d (up s) (No k) (up s) ≡ [] → Holds start now s d h o (refuse (up s) k)
  refused_holds d k e f =
      record {
        store = s;
        is = refl;
        site = refl;
        kept = none_more o _ f (subst (λ (q : List Call). Kept start now s q o) (sym e) (inv_skip now s olds h o p I));
        safe = λ c z. absurd (subst NotFreed z tt);
        frees = λ c z. absurd (subst NotFreed z tt);
        stays = λ c z. inl z;
      }

  not_begun : (w : ℕ) (c : Operation) (k : ℕ) → Holds start now s (Asks (Begin w c)) h o (refuse (up s) k)
  unfolding observe effects
  not_begun w c k = refused_holds (Asks (Begin w c)) k refl refl

  begin-holds : (rules : Rules) (w : ℕ) (c : Operation) → Holds start now s (Asks (Begin w c)) h o (begin rules s w c)
  unfolding observe effects
  begin-holds rules w c =
      begin-by (Holds start now s (Asks (Begin w c)) h o) rules s w c (λ k n. not_begun w c k)
      (λ t.
      record {
        store = place s w (terms s.site.rows c).first;
        is = refl;
        site = refl;
        kept =
            none_more o [] refl
            (begin-kept now s olds h o p I w (Tests.ltb-true w s.site.P t.worker) c (idle_is (worker_at s w).doing t.tests.idle)
            t.tests.named t.tests.group t.tests.opens t.tests.time);
        safe = λ i z. absurd (subst NotFreed z tt);
        frees = λ i z. absurd (subst NotFreed z tt);
        stays = λ i z. inl z;
      })

  step-holds : (w : ℕ) → Holds start now s (Asks (Step w)) h o (step s w)
  unfolding step observe effects step_effects
  step-holds w =
      cond_both (Holds start now s (Asks (Step w)) h o) (ltb w s.site.P) _ _
      (λ e.
      let A = step_after now s olds h o p I w (Tests.ltb-true w s.site.P e) (worker_at s w).doing refl in
      record {
        store = (step_at s w (worker_at s w).doing).store;
        is = refl;
        site = step-site s w (worker_at s w).doing;
        kept = A.kept;
        safe = A.safe;
        frees = A.frees;
        stays = A.stays;
      })
      (λ e.
      refused_holds (Asks (Step w)) 3 (ended_none now w (No 3) h (I.outside w (Tests.ltb-false w s.site.P e)))
      (ap (λ (q : List ℕ). q ++ end_effects h w (No 3)) (change-still h s s refl refl) ∙ own_refused h w 3))

  -- a worker that performs an operation is one of the hub's and not idle
  performing : (w : ℕ) → Performs h w → takes_step (up s) (Asks (Step w)) ≡ true
  unfolding takes_step
  performing w f = go (ltb w s.site.P) refl (is_idle (worker_at s w).doing) refl
    where
      performs : NoneRunning h w → ⊥
      performs n = n f.0 f.1 f.2 f.3

      go : (b : Bool) → ltb w s.site.P ≡ b → (i : Bool) → is_idle (worker_at s w).doing ≡ i → b && not i ≡ true
      go true e true j = absurd (performs (cur_is now s olds h o p I w (Tests.ltb-true w s.site.P e) Idle (idle_is (worker_at s w).doing j)))
      go true e false j = refl
      go false e i j = absurd (performs (I.outside w (Tests.ltb-false w s.site.P e)))

  pub step-taken : (d : Decoded) → StepTaken h d (up s)
  step-taken (Asks (SetUp z)) = tt
  step-taken (Asks (Begin w c)) = tt
  step-taken (Asks (Step w)) = performing w
  step-taken (Refuses k) = tt

  decoded_holds : (rules : Rules) (d : Decoded) → Holds start now s d h o (apply_decoded rules (up s) d)
  unfolding apply_decoded obey set_up observe effects
  decoded_holds rules (Asks (SetUp z)) = refused_holds (Asks (SetUp z)) 9 refl refl
  decoded_holds rules (Asks (Begin w c)) = begin-holds rules w c
  decoded_holds rules (Asks (Step w)) = step-holds w
  decoded_holds rules (Refuses k) = refused_holds (Refuses k) k refl refl

  pub apply-holds : (rules : Rules) (b : List ℕ) → Holds start now s (decode b) h o (apply rules (up s) b)
  unfolding apply
  apply-holds rules b = decoded_holds rules (decode b)
