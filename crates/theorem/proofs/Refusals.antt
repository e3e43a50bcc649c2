-- Demand 1 of the definitions: by cases on what a record reads as and on the worker's place.
use mathlib.Core.Path.{◌≡◌, refl, subst}
use mathlib.Core.Bool.{Bool, true, false, cond, not, ◌&&◌}
use mathlib.Core.List.{List, [], ◌∷◌, ◌++◌}
use Prim.Native.Nat.{ℕ, ◌<◌}
use native.Mathlib.Omega.{arith}
use lib.Dec.{ltb, leb, eqb}
use lib.ListN.{length, get_or}
use Rattle.model.specs.Store.{last_clock, Reading, Range, OpenAnnounce, OpenPass, CloseWithdraw, MarkKeep, MarkRelease, Doing, Lent}
use Rattle.model.specs.Store.{Idle, PutPublish, PutStamp, PutHandIn, FlushTake, FlushRead, FlushFree, OnTime, ReadEnter, ReadStand}
use Rattle.model.specs.Store.{GetShow, Store, Hub, blank, up, worker_at, slot_at, newest_of, range_of, with_worker, place}
use Rattle.model.specs.Marks.{MarkNeed, EmptyMark, UnreadMark, mark_refusal, need_for, time_for}
use Rattle.model.specs.Rules.{Rules}
use Rattle.model.specs.Answer.{Going, Done, No, Stepped, Applied}
use Rattle.model.specs.Steps.{put_publish, put_stamp, put_hand_in, flush_take, flush_split, flush_read, flush_free, open_announce, open_pass}
use Rattle.model.specs.Steps.{answer_for, stopped_by, read_enter, read_stand, get_show, close_withdraw, mark_keep, mark_release, time_step}
use Rattle.model.specs.Steps.{step_at}
use Rattle.model.specs.Record.{Operation, Sizes, SetUp, Begin, Step, Decoded, Asks, Refuses, decode, command_of, unused_zero, list_fits}
use Rattle.model.specs.Apply.{in_ranges, set_up, is_idle, begin, step, takes_step, obey, apply_decoded, apply}
use Rattle.model.specs.Demand.{occurrences}
use Rattle.model.specs.Refusals.{on_reading, at_step, idled, Refused, EndsWell, Demand1}
use Rattle.model.proofs.Basic.{cond_both}
use Rattle.model.proofs.Begin.{OfMarks, of_marks, begin-by}
use Rattle.theorem.proofs.Found.{answer_for-tells, found-by, stopped_by_lem}

-- a refusal on reading
on_reading_lem : (h : Hub) (d : Decoded) (k : ℕ) → takes_step h d ≡ false → 0 < occurrences k on_reading → Refused h d k h
on_reading_lem h d k e n = record { number = rw e n; leaves = rw e }

------------------------------------------------------------------------
-- A step of a worker below P

module _ (s : Store) (w : ℕ) (wb : ltb w s.site.P ≡ true) where
  abbrev Well : Stepped → Type 0
  Well x = EndsWell (up s) (Asks (Step w)) x.answer (up x.store)

  takes : (d : Doing) → (worker_at s w).doing ≡ d → takes_step (up s) (Asks (Step w)) ≡ not (is_idle d)
  unfolding takes_step
  takes d e = rw (wb, e)

  at_step_lem : (k : ℕ) → takes_step (up s) (Asks (Step w)) ≡ true → 0 < occurrences k at_step → Well (record { store = place s w Idle; answer = No k })
  unfolding idled
  at_step_lem k e n = record { number = rw e n; leaves = rw e }

  put-well : (r : ℕ) (x : Reading) → takes_step (up s) (Asks (Step w)) ≡ true → (l : List ℕ) → Well (put_publish s w r x l)
  unfolding put_publish occurrences
  put-well r x e [] = at_step_lem 14 e (omega arith)
  put-well r x e (f ∷ l) = tt

  hand_well : (c : ℕ) → Well (put_hand_in s w c)
  unfolding put_hand_in
  hand_well c = go (eqb (length ((worker_at s w).pool ++ (range_of s c ∷ []))) s.site.B)
    where
      go : (full : Bool) → Well (record {
        store = with_worker s w
            (record { doing = cond full FlushTake Idle; announced = (worker_at s w).announced; pool = (worker_at s w).pool ++ (range_of s c ∷ []) });
        answer = cond full Going Done;
      })
      go true = tt
      go false = tt

  free_well : (m : List Range) → Well (flush_free s w m)
  unfolding flush_free
  free_well [] = tt
  free_well (ρ ∷ m) = tt

  mark_well : (y : MarkNeed) (next : Stepped) → takes_step (up s) (Asks (Step w)) ≡ true → Well next → Well (stopped_by (mark_refusal s y) s w next)
  mark_well y next e a =
      stopped_by_lem Well (mark_refusal s y) s w next (λ k u. at_step_lem k e (subst OfMarks u (of_marks s y)).1) (λ u. a)

  step-well : (d : Doing) → (worker_at s w).doing ≡ d → Well (step_at s w d)
  unfolding step_at time_step put_stamp flush_take flush_read flush_split open_announce open_pass read_enter read_stand get_show close_withdraw mark_keep mark_release answer_for occurrences
  step-well Idle e = on_reading_lem (up s) (Asks (Step w)) 11 (takes Idle e) (omega arith)
  step-well (PutPublish r x) e = put-well r x (takes (PutPublish r x) e) s.free
  step-well (PutStamp r c) e = tt
  step-well (PutHandIn r c) e = hand_well c
  step-well FlushTake e = tt
  step-well (FlushRead m ts) e = cond_both Well (leb (length ts) s.site.P) _ _ (λ u. tt) (λ u. tt)
  step-well (FlushFree m) e = free_well m
  step-well (OnTime OpenAnnounce) e =
      cond_both Well (eqb s.clock last_clock) _ _ (λ u. at_step_lem 15 (takes (OnTime OpenAnnounce) e) (omega arith)) (λ u. tt)
  step-well (OnTime OpenPass) e = tt
  step-well (ReadEnter g) e = mark_well (need_for g.purpose) _ (takes (ReadEnter g) e) tt
  step-well (ReadStand g c) e =
      cond_both Well (leb (slot_at s c).low (time_for s.marks (worker_at s w).announced g.purpose)) _ _
      (λ u. found-by Well s w g.purpose (slot_at s c).value (λ a T. rw T.refusal tt) (at_step_lem 18 (takes (ReadStand g c) e) (omega arith)) (λ g'. tt))
      (λ u. tt)
  step-well (OnTime CloseWithdraw) e = tt
  step-well (OnTime (MarkKeep m)) e = mark_well (EmptyMark m) _ (takes (OnTime (MarkKeep m)) e) tt
  step-well (OnTime (MarkRelease m)) e = mark_well (UnreadMark m) _ (takes (OnTime (MarkRelease m)) e) tt
  step-well (GetShow r) e = rw (answer_for-tells (slot_at s (newest_of s r)).value).refusal tt

------------------------------------------------------------------------
-- A record

abbrev Ends : Hub → Decoded → Applied → Type 0
Ends h d a = EndsWell h d a.answer a.hub

setup-well : (rules : Rules) (row : Lent) (z : Sizes) → Ends (blank row) (Asks (SetUp z)) (set_up rules (blank row) z)
unfolding set_up takes_step occurrences
setup-well rules row z =
    cond_both (Ends (blank row) (Asks (SetUp z))) (in_ranges z && leb z.N (length row.row) && list_fits z.V' rules.given.totals) _ _ (λ e. tt)
    (λ e. on_reading_lem (blank row) (Asks (SetUp z)) 5 refl (omega arith))

begin-well : (rules : Rules) (s : Store) (w : ℕ) (c : Operation) → Ends (up s) (Asks (Begin w c)) (begin rules s w c)
unfolding takes_step
begin-well rules s w c =
    begin-by (Ends (up s) (Asks (Begin w c))) rules s w c (λ k n. on_reading_lem (up s) (Asks (Begin w c)) k refl n) (λ t. tt)

-- the refusals of a record that is not read as a command are 6, 1 and 2
abbrev Read : Decoded → Type 0
Read (Asks c) = Unit {0}
Read (Refuses k) = 0 < occurrences k on_reading

decode-read : (b : List ℕ) → Read (decode b)
unfolding decode occurrences
decode-read b =
    cond_both Read (ltb (length b) 16) (Refuses 6) _ (λ e. refusal 6 (omega arith))
    (λ e. cond_both Read (ltb 11 (get_or b 0 0)) (Refuses 1) _ (λ f. refusal 1 (omega arith))
    (λ f. cond_both Read (unused_zero b (command_of b (get_or b 0 0))) (Asks (command_of b (get_or b 0 0))) (Refuses 2) (λ g. tt)
    (λ g. refusal 2 (omega arith))))
  where
    refusal : (k : ℕ) → 0 < occurrences k on_reading → Read (Refuses k)
    refusal k n = n

decoded_well : (rules : Rules) (h : Hub) (d : Decoded) → Read d → Ends h d (apply_decoded rules h d)
unfolding apply_decoded obey set_up step takes_step occurrences
decoded_well rules (blank row) (Asks (SetUp z)) r = setup-well rules row z
decoded_well rules (up s) (Asks (SetUp z)) r = on_reading_lem (up s) (Asks (SetUp z)) 9 refl (omega arith)
decoded_well rules (blank row) (Asks (Begin w c)) r = on_reading_lem (blank row) (Asks (Begin w c)) 8 refl (omega arith)
decoded_well rules (up s) (Asks (Begin w c)) r = begin-well rules s w c
decoded_well rules (blank row) (Asks (Step w)) r = on_reading_lem (blank row) (Asks (Step w)) 8 refl (omega arith)
decoded_well rules (up s) (Asks (Step w)) r =
    cond_both (Ends (up s) (Asks (Step w))) (ltb w s.site.P) _ _
    (λ e. step-well s w e (worker_at s w).doing refl)
    (λ e. on_reading_lem (up s) (Asks (Step w)) 3 (rw e) (omega arith))
decoded_well rules (blank row) (Refuses k) r = on_reading_lem (blank row) (Refuses k) k refl r
decoded_well rules (up s) (Refuses k) r = on_reading_lem (up s) (Refuses k) k refl r

pub demand-1 : (rules : Rules) → Demand1 rules
unfolding apply
demand-1 rules h b = decoded_well rules h (decode b) (decode-read b)
