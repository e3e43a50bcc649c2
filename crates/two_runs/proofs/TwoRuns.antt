-- Two runs that differ only in values put to register r answer alike: what specs/TwoRuns.antt claims. By induction over both lists of records, with
-- the invariant of each run. The stores stay the same but for values, the histories the same but for values put to r, and the order of the calls,
-- which sees no value, the same.
use mathlib.Core.Path.{◌≡◌, refl, sym, ap, ◌∙◌, subst}
use mathlib.Core.Bool.{Bool, true, false, cond}
use mathlib.Core.Logic.{◌⊎◌, inl, inr, ⊎_elim}
use mathlib.Core.List.{List, [], ◌∷◌, ◌++◌, map}
use Prim.Native.Nat.{ℕ, ◌+◌}
use lib.Dec.{ltb, eqb}
use borrow.Author.Tests as Tests
use Rattle.model.specs.Store.{Content, absent, last_status, mark_count, Slot, Doing, Worker, Store, Hub, up, worker_at, with_slots, with_workers, place}
use Rattle.model.specs.About.{about}
use Rattle.model.specs.Marks.{mark_of, mark_refusal, number_of}
use Rattle.model.specs.Rights.{allowed}
use Rattle.model.specs.Rules.{Rules, Ruled}
use Rattle.model.specs.Answer.{Answer, Ok, Applied, said}
use Rattle.model.specs.Steps.{step_at}
use Rattle.model.specs.Record.{Operation, Put, SetUp, Begin, Step, Decoded, Asks, Refuses, decode}
use Rattle.model.specs.Apply.{made_by, refuse, unless, set_up, TimeNeed, Terms, terms, named_below, group_there, value_within, status_known, may_open, may_use_time, is_idle}
use Rattle.model.specs.Apply as Model
use Rattle.model.specs.Apply.{refusal, seen, refused_by, begin, step, obey, apply_decoded, apply, apply_ruled}
use Rattle.model.specs.Demand.{events, Call, end_for, Plain, start_of, plain₀, observe, effects, step_effects, change_effects, end_effects}
use Rattle.two_runs.specs.TwoRuns.{Pairwise, PutsAlike, Alike, looks_at, looks_by, without_value, place_with, bare_place, bare_worker, bare_slot, bare}
use Rattle.two_runs.specs.TwoRuns.{SameButValues, SameAnswers, TwoRuns}
use Rattle.theorem.proofs.Invariant.{Inv}
use Rattle.theorem.proofs.Record.{Holds, apply-holds}
use Rattle.theorem.proofs.Setup.{accepts, accepted_inv}
use Rattle.two_runs.proofs.TwoRunsBare.{reading_of, sum_of, place_is, idle_like, looks_like, bare-like, worker_like, announced_like, refusal-like, placed}
use Rattle.two_runs.proofs.TwoRunsStep.{Like, cond-two, step-like}
use Rattle.two_runs.proofs.TwoRunsCalls.{pairwise_snoc, pairwise_map, said-like, AlikeOperation, AlikeCall, AlikeCalls, end_for-like, end_effects-like}
use Rattle.two_runs.proofs.TwoRunsCalls.{change-effects_like}
use Rattle.two_runs.proofs.TwoRunsTold.{told}

-- what one record leaves and is answered in both runs; `b`: it is a step of a worker that looks at register r
record Same (b : Bool) (a a' : Applied) : Type 0 where
  hubs : SameButValues a.hub a'.hub
  answers : without_value a.answer ≡ without_value a'.answer
  equal : b ≡ false → a.answer ≡ a'.answer

-- the same record read, or puts to register r
abbrev AlikeDecoded : ℕ → Rules → Decoded → Decoded → Type 0
AlikeDecoded r rules d d' = (d ≡ d') ⊎ PutsAlike r rules d d'

------------------------------------------------------------------------
-- One record

module _ (r : ℕ) (s : Store) (l : List Slot) (ws : List Worker) (sl : map bare_slot s.slots ≡ map bare_slot l)
    (sw : map bare_worker s.workers ≡ map bare_worker ws) where
  abbrev t : Store
  t = with_workers (with_slots s l) ws

  refused : (b : Bool) (k : ℕ) → Same b (refuse (up s) k) (refuse (up t) k)
  refused b k = record { hubs = bare-like s l ws sl sw; answers = refl; equal = λ u. refl }

  places : (w : ℕ) → bare_place (worker_at s w).doing ≡ bare_place (worker_at t w).doing
  places w = ap (λ (x : Worker). x.doing) (worker_like s l ws sl sw w)

  idles : (w : ℕ) → is_idle (worker_at s w).doing ≡ is_idle (worker_at t w).doing
  idles w = sym (idle_like (worker_at s w).doing) ∙ ap (λ (d : Doing). (about d).idle) (places w) ∙ idle_like (worker_at t w).doing

  -- refusal k where a test fails
  tested : (b : Bool) (k : ℕ) (test test' : Bool) (x x' : Applied) → test ≡ test' → Same b x x' → Same b (unless test (up s) k x) (unless test' (up t) k x')
  tested b k test test' x x' e a = cond-two (Same b) test test' x _ x' _ e (λ u. a) (refused b k)

  by_number : (b : Bool) (k k' : ℕ) (x x' : Applied) → k ≡ k' → Same b x x' → Same b (refused_by k (up s) x) (refused_by k' (up t) x')
  unfolding refused_by
  by_number b k k' x x' e a = subst (λ (i : ℕ). Same b (refused_by k (up s) x) (refused_by i (up t) x')) e (go (eqb k 0))
    where
      go : (y : Bool) → Same b (cond y x (refuse (up s) k)) (cond y x' (refuse (up t) k))
      go true = a
      go false = refused b k

  -- two operations begin on the same terms, but for the value that is put
  begin-like : (b : Bool) (rules : Rules) (w : ℕ) (c c' : Operation)
      → (value_within rules.limit (terms s.site.rows c).value ≡ value_within rules.limit (terms s.site.rows c').value)
      → status_known (terms s.site.rows c).value ≡ status_known (terms s.site.rows c').value
      → (terms s.site.rows c).register ≡ (terms s.site.rows c').register
      → (terms s.site.rows c).group ≡ (terms s.site.rows c').group
      → (terms s.site.rows c).right ≡ (terms s.site.rows c').right
      → (terms s.site.rows c).time ≡ (terms s.site.rows c').time
      → (terms s.site.rows c).mark ≡ (terms s.site.rows c').mark
      → bare_place (terms s.site.rows c).first ≡ bare_place (terms s.site.rows c').first
      → Same b (begin rules s w c) (begin rules t w c')
  unfolding begin refusal
  begin-like b rules w c c' value status register group right time mark first =
      tested b 3 (ltb w s.site.P) (ltb w s.site.P) _ _ refl
      (by_number b (refusal rules.limit (seen s w) w c) (refusal rules.limit (seen t w) w c') _ _ numbers begun)
    where
      begun : Same b (record { hub = up (place s w (terms s.site.rows c).first); answer = Ok })
          (record { hub = up (place t w (terms s.site.rows c').first); answer = Ok })
      begun =
          record {
            hubs = placed s l ws sl sw w (terms s.site.rows c).first (terms s.site.rows c').first first;
            answers = refl;
            equal = λ u. refl;
          }

      asks : (f : TimeNeed → Bool → Bool) → f (terms s.site.rows c).time (ltb (worker_at s w).announced absent)
          ≡ f (terms s.site.rows c').time (ltb (worker_at t w).announced absent)
      asks f =
          ap (λ (i : TimeNeed). f i (ltb (worker_at s w).announced absent)) time
          ∙ ap (λ (a : ℕ). f (terms s.site.rows c').time (ltb a absent)) (announced_like s l ws sl sw w)

      need : number_of (mark_refusal s (terms s.site.rows c).mark) ≡ number_of (mark_refusal t (terms s.site.rows c').mark)
      need = ap number_of (refusal-like s l ws sl sw (terms s.site.rows c).mark ∙ ap (mark_refusal t) mark)

      numbers : refusal rules.limit (seen s w) w c ≡ refusal rules.limit (seen t w) w c'
      numbers i =
          Model.tested (named_below s.site.V' (register i)) 4
          (Model.tested (named_below mark_count (mark_of (mark i))) 4
          (Model.tested (group_there s.site.rows (group i)) 17
          (Model.tested (value i) 16
          (Model.tested (status i) 25
          (Model.tested (allowed s.site.table s.site.V' w (right i)) 23
          (Model.tested (idles w i) 10 (Model.tested (asks may_open i) 12 (Model.tested (asks may_use_time i) 13 (need i)))))))))

  -- the worker looks at register r in both runs or in neither
  looks_same : (d d' : Decoded) (rules : Rules) → AlikeDecoded r rules d d' → looks_by r (up s) d ≡ looks_by r (up t) d'
  looks_same d d' rules a =
      ⊎_elim (λ e. go d ∙ ap (looks_by r (up t)) e) (λ u. ap (looks_by r (up s)) u.puts ∙ sym (ap (looks_by r (up t)) u.puts')) a
    where
      go : (k : Decoded) → looks_by r (up s) k ≡ looks_by r (up t) k
      go (Asks (SetUp z)) = refl
      go (Asks (Begin w c)) = refl
      go (Asks (Step w)) =
          let e = (worker_at t w).doing in
          sym (ap (looks_at r s.site.rows) (place_is (worker_at s w).doing e (places w))
          ∙ looks_like r s.site.rows (reading_of e) (sum_of e) (worker_at s w).doing)
      go (Refuses k) = refl

  module _ {start : ℕ → Content} (now : ℕ) (h h' : List Call) (C : AlikeCalls r h h') (o : List ℕ)
      (olds : List (List ℕ)) (p : Plain) (I : Inv start now s olds h o p)
      (olds' : List (List ℕ)) (p' : Plain) (I' : Inv start now (with_workers (with_slots s l) ws) olds' h' o p') where
    step_same : (w : ℕ) → Same (looks_by r (up s) (Asks (Step w))) (step s w) (step t w)
    unfolding step
    step_same w =
        cond-two (Same b) _ _ _ _ _ _ refl
        (λ u. let L = steps u in record { hubs = L.stores; answers = L.answers; equal = L.equal })
        (refused b 3)
      where
        b : Bool
        b = looks_by r (up s) (Asks (Step w))

        e : Doing
        e = (worker_at t w).doing

        is : e ≡ place_with (reading_of e) (sum_of e) (worker_at s w).doing
        is = place_is (worker_at s w).doing e (places w)

        steps : ltb w s.site.P ≡ true → Like b (step_at s w (worker_at s w).doing) (step_at t w e)
        steps u =
            subst (λ (k : Doing). Like b (step_at s w (worker_at s w).doing) (step_at t w k)) (sym is)
            (step-like b s l ws sl sw w (reading_of e) (sum_of e) (worker_at s w).doing
            (told r s l ws sl sw now h h' C o olds p I olds' p' I' w (Tests.ltb-true w s.site.P u) (reading_of e) (sum_of e) (worker_at s w).doing refl is))

    same-command : (rules : Rules) (d : Decoded) → Same (looks_by r (up s) d) (apply_decoded rules (up s) d) (apply_decoded rules (up t) d)
    unfolding apply_decoded obey set_up
    same-command rules (Asks (SetUp z)) = refused false 9
    same-command rules (Asks (Begin w c)) = begin-like false rules w c c refl refl refl refl refl refl refl refl
    same-command rules (Asks (Step w)) = step_same w
    same-command rules (Refuses k) = refused false k

    puts-same : (rules : Rules) (d d' : Decoded) → PutsAlike r rules d d'
        → Same (looks_by r (up s) d) (apply_decoded rules (up s) d) (apply_decoded rules (up t) d')
    unfolding apply_decoded obey
    puts-same rules d d' u =
        rw (u.puts, u.puts') (begin-like false rules u.worker (Put r u.first) (Put r u.second) u.allowed
        (Tests.le-leb u.first.status last_status u.known ∙ sym (Tests.le-leb u.second.status last_status u.known')) refl refl refl refl refl refl)

    decoded-same : (rules : Rules) (d d' : Decoded) → AlikeDecoded r rules d d'
        → Same (looks_by r (up s) d) (apply_decoded rules (up s) d) (apply_decoded rules (up t) d')
    decoded-same rules d d' a =
        ⊎_elim
        (λ e. subst (λ (k : Decoded). Same (looks_by r (up s) d) (apply_decoded rules (up s) d) (apply_decoded rules (up t) k)) e (same-command rules d))
        (puts-same rules d d') a

------------------------------------------------------------------------
-- The histories and the order after it

module _ (r now : ℕ) (h h' : List Call) (C : AlikeCalls r h h') (a a' : Answer) (e : said a ≡ said a') where
  begun : (w : ℕ) (c c' : Operation) → AlikeOperation r c c' → AlikeCalls r (observe now (Asks (Begin w c)) a h) (observe now (Asks (Begin w c')) a' h')
  unfolding observe
  begun w c c' k =
      cond-two (AlikeCalls r) _ _ _ _ _ _ (ap (λ x. x.ok) e)
      (λ u. pairwise_snoc (AlikeCall r) h h' _ _ (record { operation = k; worker = refl; unfinished = refl }) C) C

  same_calls : (d : Decoded) → AlikeCalls r (observe now d a h) (observe now d a' h')
  unfolding observe
  same_calls (Asks (SetUp z)) = C
  same_calls (Asks (Begin w c)) = begun w c c (inl refl)
  same_calls (Asks (Step w)) =
      cond-two (AlikeCalls r) _ _ _ _ _ _ (ap (λ x. x.ends) e)
      (λ u. pairwise_map (AlikeCall r) (end_for now w a) (end_for now w a') (end_for-like now w a a' r) h h' C) C
  same_calls (Refuses k) = C

  observe-like : (rules : Rules) (d d' : Decoded) → AlikeDecoded r rules d d' → AlikeCalls r (observe now d a h) (observe now d' a' h')
  observe-like rules d d' =
      ⊎_elim
      (λ u. subst (λ (k : Decoded). AlikeCalls r (observe now d a h) (observe now k a' h')) u (same_calls d))
      (λ u. rw (u.puts, u.puts')
      (begun u.worker (Put r u.first) (Put r u.second) (inr (u.first, u.second, refl, refl, u.few, u.few'))))

  effects-like : (s s' t t' : Store) → bare s ≡ bare t → bare s' ≡ bare t' → (rules : Rules) (d d' : Decoded) → AlikeDecoded r rules d d'
      → effects h d (up s) a (up s') ≡ effects h' d' (up t) a' (up t')
  unfolding effects
  effects-like s s' t t' f f' rules d d' =
      ⊎_elim
      (λ u. go d ∙ ap (λ (k : Decoded). effects h' k (up t) a' (up t')) u)
      (λ u. ap (λ (k : Decoded). effects h k (up s) a (up s')) u.puts ∙ sym (ap (λ (k : Decoded). effects h' k (up t) a' (up t')) u.puts'))
    where
      go : (k : Decoded) → effects h k (up s) a (up s') ≡ effects h' k (up t) a' (up t')
      go (Asks (SetUp z)) = unfold effects in refl
      go (Asks (Begin w c)) = unfold effects in refl
      go (Asks (Step w)) =
          unfold effects in unfold step_effects in
          ap (λ (q : List ℕ). q ++ end_effects h w a) (change-effects_like r h h' C s s' t t' f f')
          ∙ ap (λ (q : List ℕ). change_effects h' t t' ++ q) (end_effects-like r h h' C w a a' e)
      go (Refuses k) = unfold effects in refl

------------------------------------------------------------------------
-- All records

-- a store that is the same but for values, as one with other slots and workers
rebuilt : (s s' : Store) → bare s ≡ bare s' → with_workers (with_slots s s'.slots) s'.workers ≡ s'
rebuilt s s' e = ap (λ (q : Store). with_workers (with_slots q s'.slots) s'.workers) e

run : {start : ℕ → Content} (r : ℕ) (bs bs' : List Ruled) → Pairwise (Alike r) bs bs' → (now : ℕ) (s s' : Store) → bare s ≡ bare s'
    → (h h' : List Call) → AlikeCalls r h h' → (o : List ℕ)
    → (olds : List (List ℕ)) (p : Plain) → Inv start now s olds h o p
    → (olds' : List (List ℕ)) (p' : Plain) → Inv start now s' olds' h' o p'
    → Pairwise (SameAnswers r) (events (up s) bs) (events (up s') bs')
unfolding events
run r [] [] B now s s' e h h' C o olds p I olds' p' I' = tt
run r [] (b' ∷ bs') B now s s' e h h' C o olds p I olds' p' I' = absurd B
run r (b ∷ bs) [] B now s s' e h h' C o olds p I olds' p' I' = absurd B
run {start} r (b ∷ bs) (b' ∷ bs') B now s s' e h h' C o olds p I olds' p' I' = (
  record { before = e; after = L.hubs; looks = looks; equal = L.equal; alike = L.answers },
  subst (λ (q : Hub). Pairwise (SameAnswers r) (events (apply_ruled (up s) b).hub bs) (events q bs')) (sym A'.is)
      (subst (λ (q : Hub). Pairwise (SameAnswers r) (events q bs) (events (up A'.store) bs')) (sym A.is)
      (run r bs bs' B.1 (now + 1) A.store A'.store stores (observe now d a h) (observe now d' a' h')
      (observe-like r now h h' C a a' says b.rules d d' D)
      (o ++ effects h d (up s) a (up A.store))
      A.kept.olds A.kept.p A.kept.inv A'.kept.olds A'.kept.p
      (subst (λ (q : List ℕ). Inv start (now + 1) A'.store A'.kept.olds (observe now d' a' h') q A'.kept.p) (sym order) A'.kept.inv))),
)
  where
    d : Decoded
    d = decode b.bytes

    d' : Decoded
    d' = decode b'.bytes

    a : Answer
    a = (apply_ruled (up s) b).answer

    a' : Answer
    a' = (apply_ruled (up s') b').answer

    A : Holds start now s d h o (apply_ruled (up s) b)
    A = apply-holds now s olds h o p I b.rules b.bytes

    A' : Holds start now s' d' h' o (apply_ruled (up s') b')
    A' = apply-holds now s' olds' h' o p' I' b'.rules b'.bytes

    D : AlikeDecoded r b.rules d d'
    D = ⊎_elim (λ u. inl (ap decode u)) inr B.0.bytes

    sl : map bare_slot s.slots ≡ map bare_slot s'.slots
    sl = ap (λ (q : Store). q.slots) e

    sw : map bare_worker s.workers ≡ map bare_worker s'.workers
    sw = ap (λ (q : Store). q.workers) e

    looks : looks_by r (up s) d ≡ looks_by r (up s') d'
    looks = looks_same r s s'.slots s'.workers sl sw d d' b.rules D ∙ ap (λ (q : Store). looks_by r (up q) d') (rebuilt s s' e)

    L : Same (looks_by r (up s) d) (apply_ruled (up s) b) (apply_ruled (up s') b')
    L =
        unfold apply in
        subst (λ (q : Rules). Same (looks_by r (up s) d) (apply_ruled (up s) b) (apply q (up s') b'.bytes)) B.0.rules
        (subst
        (λ (q : Store). Inv start now q olds' h' o p' → Same (looks_by r (up s) d) (apply_ruled (up s) b) (apply b.rules (up q) b'.bytes))
        (rebuilt s s' e)
        (λ J. decoded-same r s s'.slots s'.workers sl sw now h h' C o olds p I olds' p' J b.rules d d' D) I')

    says : said a ≡ said a'
    says = said-like a a' L.answers

    stores : bare A.store ≡ bare A'.store
    stores =
        subst (SameButValues (up A.store)) A'.is
        (subst (λ (q : Hub). SameButValues q (apply_ruled (up s') b').hub) A.is L.hubs)

    order : o ++ effects h d (up s) a (up A.store) ≡ o ++ effects h' d' (up s') a' (up A'.store)
    order =
        ap (λ (q : List ℕ). o ++ q) (effects-like r now h h' C a a' says s A.store s' A'.store e stores b.rules d d' D)

------------------------------------------------------------------------
-- The theorem

pub two_runs : TwoRuns
two_runs row b e r bs bs' B =
    let A = accepts b.rules row b.bytes e in
    let s = made_by b.rules A.sizes row in
    let I = accepted_inv b.rules A in
    subst (λ (q : Hub). Pairwise (SameAnswers r) (events q bs) (events q bs')) (sym A.is)
    (run r bs bs' B 0 s s refl [] [] tt [] _ (plain₀ (start_of b.rules.given)) I _ (plain₀ (start_of b.rules.given)) I)
