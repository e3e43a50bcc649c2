-- A worker that keeps off register r gets the same answers in two runs that differ in values put to r. The operation that a worker performs fits
-- its place, so a worker that began nothing that looks at r is never at a place that does; and then proofs/TwoRuns.antt gives equal answers.
use mathlib.Core.Path.{◌≡◌, refl, sym, ap, ◌∙◌, subst}
use mathlib.Core.Bool.{Bool, true, false, cond, true≢false}
use mathlib.Core.Logic.{⊎_elim}
use mathlib.Core.List.{List, [], ◌∷◌, ◌++◌, map}
use Prim.Native.Nat.{ℕ, ◌+◌, ◌≤◌, ◌<◌}
use native.Mathlib.Omega.{arith}
use lib.ListN.{get_or-eq_default}
use borrow.Author.Tests as Tests
use Rattle.model.specs.Store.{Content, OpenAnnounce, OpenPass, CloseWithdraw, MarkKeep, MarkRelease, Purpose, Single, Marked, Totaling, Doing, Idle}
use Rattle.model.specs.Store.{PutPublish, PutStamp, PutHandIn, FlushTake, FlushRead, FlushFree, OnTime, ReadEnter, ReadStand, GetShow}
use Rattle.model.specs.Store.{start_worker, Site, Store, Hub, blank, up, worker_at}
use Rattle.model.specs.About.{about}
use Rattle.model.specs.Rules.{Ruled}
use Rattle.model.specs.Answer.{Answer, Ok, Going, Freed, At, Value, None, Below, Done, No, said}
use Rattle.model.specs.Record.{Operation, SetUp, Begin, Step, Decoded, Asks, Refuses, decode}
use Rattle.model.specs.Apply.{made_by, apply_ruled}
use Rattle.model.specs.Demand.{Event, events, Call, Unfinished, call_at, end_for, observe, effects, Plain, start_of, plain₀, All, occurrences, rows_in}
use Rattle.two_runs.specs.TwoRuns.{Pairwise, Alike, looks_for, looks_at, looks_by, SameAnswers, looks_in, KeepsOff, is_of, SameTo, told, SameForWorker}
use Rattle.model.proofs.Basic.{lt_cases, All-at, All-append, All-through}
use Rattle.theorem.proofs.Invariant.{Ctx, ctx, Serves, FitsFlush, Fits, CurrentOf, Inv}
use Rattle.theorem.proofs.View.{idle_is}
use Rattle.theorem.proofs.Record.{Holds, apply-holds}
use Rattle.theorem.proofs.Setup.{Accepted, accepts, accepted_inv}
use Rattle.two_runs.proofs.TwoRuns.{two_runs}

------------------------------------------------------------------------
-- A place looks at what its operation looks at

module _ (r : ℕ) (rows : List ℕ) where
  is_looks : (c c' : Operation) (b : Bool) → looks_in r rows c' ≡ b → c ≡ c' → b ≡ looks_in r rows c
  is_looks c c' b e u = sym (ap (looks_in r rows) u ∙ e)

  flush_looks : (c : Operation) (n : ℕ) → FitsFlush c n → false ≡ looks_in r rows c
  flush_looks c n = ⊎_elim (λ u. is_looks c _ false refl u.0.2) (λ u. is_looks c _ false refl u.0)

  serves_looks : (c : Operation) (q : ℕ) (y : Purpose) → Serves c q y → looks_for r rows q y ≡ looks_in r rows c
  serves_looks c q Single u = is_looks c _ _ refl u
  serves_looks c q (Marked m) u = is_looks c _ _ refl u
  serves_looks c q (Totaling g i y) u = is_looks c _ _ refl u

  fits_looks : (x : Ctx) (t : ℕ) (c : Operation) (d : Doing) (n : ℕ) → Fits x t c d n → looks_at r rows d ≡ looks_in r rows c
  fits_looks x t c Idle n f = absurd f
  fits_looks x t c (PutPublish q y) n f = is_looks c _ false refl f.0
  fits_looks x t c (PutStamp q e) n f = is_looks c _ false refl f.1
  fits_looks x t c (PutHandIn q e) n f = is_looks c _ false refl f.0.2
  fits_looks x t c FlushTake n f = flush_looks c n f
  fits_looks x t c (FlushRead m ts) n f = flush_looks c n f
  fits_looks x t c (FlushFree m) n f = flush_looks c n f
  fits_looks x t c (OnTime OpenAnnounce) n f = is_looks c _ false refl f.0
  fits_looks x t c (OnTime OpenPass) n f = is_looks c _ false refl f.0
  fits_looks x t c (OnTime CloseWithdraw) n f = is_looks c _ false refl f.0
  fits_looks x t c (OnTime (MarkKeep m)) n f = is_looks c _ false refl f.0
  fits_looks x t c (OnTime (MarkRelease m)) n f = is_looks c _ false refl f.0
  fits_looks x t c (ReadEnter g) n f = serves_looks c g.register g.purpose f.0
  fits_looks x t c (ReadStand g e) n f = serves_looks c g.register g.purpose f.0
  fits_looks x t c (GetShow q) n f = is_looks c _ _ refl f.0

------------------------------------------------------------------------
-- The calls of worker w so far keep off register r

abbrev CallOff : ℕ → List ℕ → ℕ → Call → Type 0
CallOff r rows w c = c.worker ≡ w → looks_in r rows c.operation ≡ false

ok_is : (a : Answer) → (said a).ok ≡ true → a ≡ Ok
ok_is Ok e = refl
ok_is Going e = absurd (true≢false (sym e))
ok_is (Freed c) e = absurd (true≢false (sym e))
ok_is (At t) e = absurd (true≢false (sym e))
ok_is (Value x) e = absurd (true≢false (sym e))
ok_is None e = absurd (true≢false (sym e))
ok_is (Below x) e = absurd (true≢false (sym e))
ok_is Done e = absurd (true≢false (sym e))
ok_is (No k) e = absurd (true≢false (sym e))

observe-off : (r : ℕ) (rows : List ℕ) (w now : ℕ) (d : Decoded) (a : Answer) (h : List Call) → KeepsOff r rows w d a → All (CallOff r rows w) h
    → All (CallOff r rows w) (observe now d a h)
unfolding observe end_for
observe-off r rows w now (Asks (SetUp z)) a h k t = t
observe-off r rows w now (Asks (Begin v c)) a h k t = go (said a).ok refl
  where
    new : Call
    new = record { operation = c; worker = v; begun = now; ending = Unfinished }

    go : (b : Bool) → (said a).ok ≡ b → All (CallOff r rows w) (cond b (h ++ (new ∷ [])) h)
    go true e = All-append (CallOff r rows w) h (new ∷ []) t ((λ u. k u (ok_is a e)), tt)
    go false e = t
observe-off r rows w now (Asks (Step v)) a h k t = go (said a).ends
  where
    go : (b : Bool) → All (CallOff r rows w) (cond b (map (end_for now v a) h) h)
    go true = unfold end_for in All-through (CallOff r rows w) (end_for now v a) (λ c u. u) h t
    go false = t
observe-off r rows w now (Refuses j) a h k t = t

------------------------------------------------------------------------
-- So its place does

module _ {start : ℕ → Content} (r w now : ℕ) (s : Store) (olds : List (List ℕ)) (h : List Call) (o : List ℕ) (p : Plain) (I : Inv start now s olds h o p)
    (H : All (CallOff r s.site.rows w) h) where
  abbrev rows : List ℕ
  rows = s.site.rows

  place-off : looks_at r rows (worker_at s w).doing ≡ false
  place-off = ⊎_elim (λ u. inside u.0) (λ u. outside u.0) (lt_cases w s.site.P)
    where
      inside : w < s.site.P → looks_at r rows (worker_at s w).doing ≡ false
      inside wb = go (about (worker_at s w).doing).idle refl (I.workers w wb).current
        where
          go : (b : Bool) → (about (worker_at s w).doing).idle ≡ b
              → CurrentOf (ctx s olds) h o w (worker_at s w).announced (worker_at s w).doing b → looks_at r rows (worker_at s w).doing ≡ false
          go true e k = ap (looks_at r rows) (idle_is (worker_at s w).doing e)
          go false e k =
              fits_looks r rows (ctx s olds) (worker_at s w).announced (call_at h k.0).operation (worker_at s w).doing (occurrences k.0 o) k.2
              ∙ All-at (CallOff r rows w) h k.0 _ k.1.within H k.1.own

      outside : s.site.P ≤ w → looks_at r rows (worker_at s w).doing ≡ false
      outside b = ap (λ x. looks_at r rows x.doing) (get_or-eq_default s.workers start_worker (omega (arith, b, I.workers_length)))

  record_off : (d : Decoded) → is_of w d ≡ true → looks_by r (up s) d ≡ false
  record_off (Asks (SetUp z)) e = refl
  record_off (Asks (Begin v c)) e = refl
  record_off (Asks (Step v)) e = ap (λ (i : ℕ). looks_at r rows (worker_at s i).doing) (Tests.eqb-true v w e) ∙ place-off
  record_off (Refuses k) e = refl

------------------------------------------------------------------------
-- All records

-- where the record is one of worker w, it is no step of a worker that looks at r
abbrev Off : ℕ → ℕ → Event → Type 0
Off r w e = is_of w (decode e.bytes) ≡ true → looks_by r e.before (decode e.bytes) ≡ false

abbrev Keeping : ℕ → List ℕ → ℕ → Event → Type 0
Keeping r rows w e = KeepsOff r rows w (decode e.bytes) e.answer

all_off : {start : ℕ → Content} (r w : ℕ) (bs : List Ruled) (now : ℕ) (s : Store) (olds : List (List ℕ)) (h : List Call) (o : List ℕ) (p : Plain) → Inv start now s olds h o p
    → All (CallOff r s.site.rows w) h → All (Keeping r s.site.rows w) (events (up s) bs) → All (Off r w) (events (up s) bs)
unfolding events
all_off r w [] now s olds h o p I H K = tt
all_off {start} r w (b ∷ bs) now s olds h o p I H K = (
  record_off r w now s olds h o p I H (decode b.bytes),
  subst (λ (q : Hub). All (Off r w) (events q bs)) (sym A.is)
      (all_off r w bs (now + 1) A.store A.kept.olds h' (o ++ effects h d (up s) a (up A.store)) A.kept.p A.kept.inv
      (subst (λ (q : Site). All (CallOff r q.rows w) h') (sym A.site) (observe-off r s.site.rows w now d a h K.0 H))
      (subst (λ (q : Site). All (Keeping r q.rows w) (events (up A.store) bs)) (sym A.site)
      (subst (λ (q : Hub). All (Keeping r s.site.rows w) (events q bs)) A.is K.1))),
)
  where
    d : Decoded
    d = decode b.bytes

    a : Answer
    a = (apply_ruled (up s) b).answer

    A : Holds start now s d h o (apply_ruled (up s) b)
    A = apply-holds now s olds h o p I b.rules b.bytes

    h' : List Call
    h' = observe now d a h

-- records that are alike are of one worker
pub of_same : (r w : ℕ) (b b' : Ruled) → Alike r b b' → is_of w (decode b.bytes) ≡ is_of w (decode b'.bytes)
of_same r w b b' B =
    ⊎_elim (λ e. ap (λ (q : List ℕ). is_of w (decode q)) e) (λ u. ap (is_of w) u.puts ∙ sym (ap (is_of w) u.puts')) B.bytes

same_list : (r w : ℕ) (bs bs' : List Ruled) → Pairwise (Alike r) bs bs' → (g g' : Hub) → Pairwise (SameAnswers r) (events g bs) (events g' bs')
    → All (Off r w) (events g bs) → Pairwise (SameTo w) (told g bs) (told g' bs')
unfolding events
same_list r w [] [] B g g' S F = tt
same_list r w [] (b' ∷ bs') B g g' S F = absurd B
same_list r w (b ∷ bs) [] B g g' S F = absurd B
same_list r w (b ∷ bs) (b' ∷ bs') B g g' S F = (
  record { both = of_same r w b b' B.0; equal = λ e. S.0.equal (F.0 e) },
  same_list r w bs bs' B.1 _ _ S.1 F.1,
)

pub same_for_worker : SameForWorker
same_for_worker row b e r bs bs' B w K = same_list r w bs bs' B _ _ (two_runs row b e r bs bs' B) off
  where
    A : Accepted b.rules row (apply_ruled (blank row) b).hub
    A = accepts b.rules row b.bytes e

    off : All (Off r w) (events (apply_ruled (blank row) b).hub bs)
    off =
        subst (λ (q : Hub). All (Keeping r (rows_in q) w) (events q bs) → All (Off r w) (events q bs)) (sym A.is)
        (all_off r w bs 0 (made_by b.rules A.sizes row) _ [] [] (plain₀ (start_of b.rules.given)) (accepted_inv b.rules A) tt)
        K
