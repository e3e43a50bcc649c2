-- One step, and one begin, on two stores that are the same but for values, at places that are the same but for values: both leave such stores,
-- and their answers are equal but for a value. They are equal where `b`, that the worker looks at the register, is false. What the two stores
-- must agree in for this is `Told`: it speaks of the two places that meet a value, and comes from the invariant.
use mathlib.Core.Path.{◌≡◌, refl, sym, ap, subst, ◌∙◌}
use mathlib.Core.Bool.{Bool, true, false, cond}
use mathlib.Core.List.{List, [], ◌∷◌, ◌++◌, map}
use mathlib.Core.Option.{Option, none, some}
use Prim.Native.Nat.{ℕ, ◌+◌}
use lib.Dec.{leb, eqb}
use lib.ListN.{length, set, drop}
use Rattle.model.specs.Totals.{Sum, sum₀, row_at, goes_on}
use Rattle.model.specs.Store.{absent, last_clock, Reading, Content, Slot, Range, OpenAnnounce, OpenPass, CloseWithdraw, MarkKeep, count_of}
use Rattle.model.specs.Store.{MarkRelease, Purpose, Single, Marked, Totaling, Goal, Doing, Idle, PutPublish, PutStamp, PutHandIn, FlushTake}
use Rattle.model.specs.Store.{FlushRead, FlushFree, OnTime, ReadEnter, ReadStand, GetShow, Worker, Store, worker_at, slot_at, newest_of, range_of}
use Rattle.model.specs.Store.{with_clock, with_slots, with_newest, with_free, with_queue, with_workers, with_marks, with_worker, with_doing, place}
use Rattle.model.specs.Sums.{add_row}
use Rattle.model.specs.Marks.{EmptyMark, UnreadMark, need_for, time_for}
use Rattle.model.specs.Rules.{twelve_digits}
use Rattle.model.specs.Answer.{Going, At, None, Done, Stepped}
use Rattle.model.specs.Versions.{stamp, stamp_slots, link_slots, unlink_slots}
use Rattle.model.specs.Ranges.{first_two, merge, needed_of, needless_of, needed_pools, joining, queued_pool}
use Rattle.model.specs.Steps.{put_publish, put_stamp, put_hand_in, flush_take, flush_split, flush_read, worker_off, flush_free, open_announce}
use Rattle.model.specs.Steps.{open_pass, answer_for, stopped_by, read_enter, signed, total_found, found, read_stand, get_show, close_withdraw}
use Rattle.model.specs.Steps.{mark_keep, mark_release, time_step, step_at}
use Rattle.two_runs.specs.TwoRuns.{without_value, purpose_with, goal_with, place_with, bare_place, bare_worker, bare_slot, bare}
use Rattle.model.proofs.Basic.{cond_both}
use Rattle.two_runs.proofs.TwoRunsBare.{sum_for, goal_twice, stamp-like, link_like, unlink_like, workers_off, bare-like, slot_like, announced_like, pool_like}
use Rattle.two_runs.proofs.TwoRunsBare.{range-like, times_like, refusal-like, workers_like, doing_like, worker_set, placed}

------------------------------------------------------------------------
-- Answers without their value

pub unseen_answer : (x : Content) → without_value (answer_for x) ≡ None
unfolding answer_for
unseen_answer none = refl
unseen_answer (some x) = refl

pub unseen_signed : (y : Sum) → without_value (signed y) ≡ None
unfolding signed
unseen_signed y = cond_both (λ a. without_value a ≡ None) (leb y.minus y.plus) _ _ (λ u. refl) (λ u. refl)

------------------------------------------------------------------------
-- What two steps have in common

pub record Like (b : Bool) (x y : Stepped) : Type 0 where
  pub stores : bare x.store ≡ bare y.store
  pub answers : without_value x.answer ≡ without_value y.answer
  pub equal : b ≡ false → x.answer ≡ y.answer

-- with equal answers
exact : {b : Bool} {x y : Stepped} → bare x.store ≡ bare y.store → x.answer ≡ y.answer → Like b x y
exact p q = record { stores = p; answers = ap without_value q; equal = λ u. q }

-- the same branch of a test
pub cond-two {ℓ} : {A : Type ℓ} (R : A → A → Type 0) (t t' : Bool) (x y x' y' : A) → t ≡ t' → (t ≡ true → R x x') → R y y' → R (cond t x y) (cond t' x' y')
cond-two R t t' x y x' y' e f g = rw (← e) (go t refl)
  where
    go : (b : Bool) → t ≡ b → R (cond b x y) (cond b x' y')
    go true u = f u
    go false u = g

-- what a read or a get finds in the two stores
abbrev pub Told : Bool → Store → Store → ℕ → Sum → Doing → Type 0
Told b s t w y Idle = Unit {0}
Told b s t w y (PutPublish q z) = Unit {0}
Told b s t w y (PutStamp q c) = Unit {0}
Told b s t w y (PutHandIn q c) = Unit {0}
Told b s t w y FlushTake = Unit {0}
Told b s t w y (FlushRead m ts) = Unit {0}
Told b s t w y (FlushFree m) = Unit {0}
Told b s t w y (OnTime z) = Unit {0}
Told b s t w y (ReadEnter g) = Unit {0}
Told b s t w y (ReadStand g c) =
    leb (slot_at s c).low (time_for s.marks (worker_at s w).announced g.purpose) ≡ true
    → (leb (count_of (slot_at s c).value) twelve_digits ≡ leb (count_of (slot_at t c).value) twelve_digits)
    × (b ≡ false → ((slot_at s c).value ≡ (slot_at t c).value) × (purpose_with y g.purpose ≡ g.purpose))
Told b s t w y (GetShow q) = b ≡ false → (slot_at s (newest_of s q)).value ≡ (slot_at t (newest_of t q)).value

module _ (b : Bool) (s : Store) (l : List Slot) (ws : List Worker) (sl : map bare_slot s.slots ≡ map bare_slot l)
    (sw : map bare_worker s.workers ≡ map bare_worker ws) (w : ℕ) where
  abbrev t : Store
  t = with_workers (with_slots s l) ws

  -- the worker goes to a place
  goes : (d e : Doing) → bare_place d ≡ bare_place e → bare (place s w d) ≡ bare (place t w e)
  goes d e u = placed s l ws sl sw w d e u

  stopped : (y y' : Option ℕ) (x x' : Stepped) → y ≡ y' → Like b x x' → Like b (stopped_by y s w x) (stopped_by y' t w x')
  stopped y y' x x' e a = subst (λ (i : Option ℕ). Like b (stopped_by y s w x) (stopped_by i t w x')) e (go y)
    where
      go : (i : Option ℕ) → Like b (stopped_by i s w x) (stopped_by i t w x')
      go none = unfold stopped_by in a
      go (some k) = unfold stopped_by in exact (goes Idle Idle refl) refl

  put-like : (q : ℕ) (x x' : Reading) (free : List ℕ) → Like b (put_publish s w q x free) (put_publish t w q x' free)
  unfolding put_publish stamp
  put-like q x x' [] = exact (goes Idle Idle refl) refl
  put-like q x x' (f ∷ free) =
      exact
      (placed (with_free (with_newest (with_slots s (link_slots (stamp_slots s.slots c s.clock) c f x)) (set s.newest q f)) free)
      (link_slots (stamp_slots l c s.clock) c f x') ws
      (link_like (stamp_slots s.slots c s.clock) (stamp_slots l c s.clock) (stamp-like s.slots l sl c s.clock) c f x x') sw
      w (PutStamp q c) (PutStamp q c) refl)
      refl
    where
      c : ℕ
      c = newest_of s q

  -- a stamp, then a place
  stamped : (q : ℕ) (d e : Doing) → bare_place d ≡ bare_place e → bare (place (stamp s q) w d) ≡ bare (place (stamp t q) w e)
  unfolding stamp
  stamped q d e u =
      placed (stamp s q) (stamp_slots l (newest_of s q) s.clock) ws (stamp-like s.slots l sl (newest_of s q) s.clock) sw w d e u

  cover_like : (q c : ℕ) → Like b (put_stamp s w q c) (put_stamp t w q c)
  unfolding put_stamp
  cover_like q c =
      exact
      (cond-two (λ A B. bare (place A w (PutHandIn q c)) ≡ bare (place B w (PutHandIn q c))) _ _ (stamp s q) s (stamp t q) t
      (ap (λ (v : Slot). eqb v.high absent) (slot_like s l ws sl sw c))
      (λ u. stamped q (PutHandIn q c) (PutHandIn q c) refl)
      (goes (PutHandIn q c) (PutHandIn q c) refl))
      refl

  hand_like : (c : ℕ) → Like b (put_hand_in s w c) (put_hand_in t w c)
  unfolding put_hand_in
  hand_like c =
      exact
      (worker_set s l ws sl sw w (handed (worker_at s w).announced pool) (handed (worker_at t w).announced pool')
      (ap (λ (p : List Range). bare_worker (handed (worker_at s w).announced p)) same ∙ ap (λ (a : ℕ). bare_worker (handed a pool')) (announced_like s l ws sl sw w)))
      (ap (λ (p : List Range). cond (eqb (length p) s.site.B) Going Done) same)
    where
      pool : List Range
      pool = (worker_at s w).pool ++ (range_of s c ∷ [])

      pool' : List Range
      pool' = (worker_at t w).pool ++ (range_of t c ∷ [])

      handed : ℕ → List Range → Worker
      handed a p = record { doing = cond (eqb (length p) s.site.B) FlushTake Idle; announced = a; pool = p }

      same : pool ≡ pool'
      same =
          ap (λ (p : List Range). p ++ (range_of s c ∷ [])) (pool_like s l ws sl sw w)
          ∙ ap (λ (ρ : Range). (worker_at t w).pool ++ (ρ ∷ [])) (range-like s l ws sl sw c)

  take-like : Like b (flush_take s w) (flush_take t w)
  unfolding flush_take
  take-like =
      let m = FlushRead (first_two s.queue) [] in
      exact (placed (with_queue s (drop 2 s.queue)) l ws sl sw w m m refl) refl

  split_like : (m : List Range) (ts : List ℕ) → Like b (flush_split s w m ts) (flush_split t w m ts)
  unfolding flush_split
  split_like m ts =
      exact
      (ap (λ (p : List Range). bare (with_queue (with_worker s w (emptied (worker_at s w).announced)) (queued p))) (pool_like s l ws sl sw w)
      ∙ worker_set (with_queue s (queued (worker_at t w).pool)) l ws sl sw w (emptied (worker_at s w).announced) (emptied (worker_at t w).announced)
      (ap (λ (a : ℕ). bare_worker (emptied a)) (announced_like s l ws sl sw w)))
      refl
    where
      stay : List Range
      stay = needed_of ts m

      queued : List Range → List (List Range)
      queued p = s.queue ++ needed_pools s.site.B stay ++ queued_pool (merge p (joining s.site.B stay))

      emptied : ℕ → Worker
      emptied a = record { doing = FlushFree (needless_of ts m); announced = a; pool = [] }

  read_like : (m : List Range) (ts : List ℕ) → Like b (flush_read s w m ts) (flush_read t w m ts)
  unfolding flush_read
  read_like m ts =
      cond-two (Like b) (leb (length ts) s.site.P) _ _ _ _ _ refl
      (λ u. exact (goes _ _ (ap (λ (q : List ℕ). FlushRead m (ts ++ q)) (times_like s l ws sl sw (length ts)))) refl)
      (split_like m ts)

  free_like : (m : List Range) → Like b (flush_free s w m) (flush_free t w m)
  unfolding flush_free
  free_like [] = exact (goes Idle Idle refl) refl
  free_like (ρ ∷ m) =
      exact
      (ap (λ (v : Slot). bare (A v.older)) (slot_like s l ws sl sw ρ.slot)
      ∙ bare-like (A o) (unlink_slots l ρ.slot) (map (worker_off ρ.slot o) (set ws w (with_doing (worker_at t w) (FlushFree m))))
      (unlink_like s.slots l sl ρ.slot)
      (workers_off ρ.slot o (set s.workers w (with_doing (worker_at s w) (FlushFree m))) (set ws w (with_doing (worker_at t w) (FlushFree m)))
      (workers_like s l ws sl sw w _ _ (doing_like s l ws sl sw w (FlushFree m) (FlushFree m) refl))))
      refl
    where
      o : ℕ
      o = (slot_at t ρ.slot).older

      A : ℕ → Store
      A i =
          with_workers
          (with_free (with_slots s (unlink_slots s.slots ρ.slot)) (ρ.slot ∷ s.free))
          (map (worker_off ρ.slot i) (set s.workers w (with_doing (worker_at s w) (FlushFree m))))

  announce_like : Like b (open_announce s w) (open_announce t w)
  unfolding open_announce
  announce_like =
      cond-two (Like b) (eqb s.clock last_clock) _ _ _ _ _ refl
      (λ u. exact (goes Idle Idle refl) refl)
      (exact (worker_set s l ws sl sw w _ _
      (ap (λ (p : List Range). record { doing = OnTime OpenPass; announced = s.clock; pool = p }) (pool_like s l ws sl sw w))) refl)

  pass-like : Like b (open_pass s w) (open_pass t w)
  unfolding open_pass
  pass-like =
      exact
      (ap (λ (a : ℕ). bare (place (with_clock s (cond (eqb s.clock a) (s.clock + 1) s.clock)) w Idle)) (announced_like s l ws sl sw w)
      ∙ placed (with_clock s (cond (eqb s.clock (worker_at t w).announced) (s.clock + 1) s.clock)) l ws sl sw w Idle Idle refl)
      (ap At (announced_like s l ws sl sw w))

  withdraw_like : Like b (close_withdraw s w) (close_withdraw t w)
  unfolding close_withdraw
  withdraw_like =
      exact (worker_set s l ws sl sw w _ _
      (ap (λ (p : List Range). record { doing = Idle; announced = absent; pool = p }) (pool_like s l ws sl sw w))) refl

  keep_like : (m : ℕ) → Like b (mark_keep s w m) (mark_keep t w m)
  unfolding mark_keep
  keep_like m =
      stopped _ _ _ _ (refusal-like s l ws sl sw (EmptyMark m))
      (exact
      (ap (λ (a : ℕ). bare (with_marks (place s w Idle) (set s.marks m a))) (announced_like s l ws sl sw w)
      ∙ placed (with_marks s (set s.marks m (worker_at t w).announced)) l ws sl sw w Idle Idle refl)
      refl)

  release_like : (m : ℕ) → Like b (mark_release s w m) (mark_release t w m)
  unfolding mark_release
  release_like m =
      stopped _ _ _ _ (refusal-like s l ws sl sw (UnreadMark m))
      (exact (placed (with_marks s (set s.marks m absent)) l ws sl sw w Idle Idle refl) refl)

  enter_like : (q : ℕ) (y : Sum) (u : Purpose)
      → Like b (read_enter s w (record { register = q; purpose = u })) (read_enter t w (record { register = q; purpose = purpose_with y u }))
  unfolding read_enter
  enter_like q y Single = stopped _ _ _ _ (refusal-like s l ws sl sw (need_for Single)) (exact (stamped q _ _ refl) refl)
  enter_like q y (Marked m) = stopped _ _ _ _ (refusal-like s l ws sl sw (need_for (Marked m))) (exact (stamped q _ _ refl) refl)
  enter_like q y (Totaling g i z) = stopped _ _ _ _ (refusal-like s l ws sl sw (need_for (Totaling g i z))) (exact (stamped q _ _ refl) refl)

  -- an answer that tells what was found
  shows-like : (x x' : Content) → (b ≡ false → x ≡ x')
      → Like b (record { store = place s w Idle; answer = answer_for x }) (record { store = place t w Idle; answer = answer_for x' })
  shows-like x x' e =
      record { stores = goes Idle Idle refl; answers = unseen_answer x ∙ sym (unseen_answer x'); equal = λ u. ap answer_for (e u) }

  total_like : (g i : ℕ) (z z' : Sum) (x x' : Content) → leb (count_of x) twelve_digits ≡ leb (count_of x') twelve_digits → (b ≡ false → (x ≡ x') × (z' ≡ z))
      → Like b (total_found s w g i z x) (total_found t w g i z' x')
  unfolding total_found
  total_like g i z z' x x' e f =
      cond-two (Like b) (leb (count_of x) twelve_digits) (leb (count_of x') twelve_digits) _ _ _ _ e
      (λ u. cond-two (Like b) (goes_on s.site.rows g i) _ _ _ _ _ refl
      (λ v. exact (goes _ _ refl) refl)
      (record {
        stores = goes Idle Idle refl;
        answers = unseen_signed _ ∙ sym (unseen_signed _);
        equal = λ v. ap (λ (k : Content). signed (add_row z (row_at s.site.rows i) k)) (f v).0
            ∙ ap (λ (k : Sum). signed (add_row k (row_at s.site.rows i) x')) (sym (f v).1);
      }))
      (exact (goes Idle Idle refl) refl)

  found-like : (y : Sum) (u : Purpose) (x x' : Content) → leb (count_of x) twelve_digits ≡ leb (count_of x') twelve_digits
      → (b ≡ false → (x ≡ x') × (purpose_with y u ≡ u)) → Like b (found s w u x) (found t w (purpose_with y u) x')
  unfolding found
  found-like y Single x x' e f = shows-like x x' (λ v. (f v).0)
  found-like y (Marked m) x x' e f = shows-like x x' (λ v. (f v).0)
  found-like y (Totaling g i z) x x' e f =
      total_like g i z y x x' e (λ v. ((f v).0, ap sum_for (f v).1))

  pub time_like : (y : Sum) (u : Purpose) → time_for s.marks (worker_at s w).announced u ≡ time_for t.marks (worker_at t w).announced (purpose_with y u)
  time_like y Single = announced_like s l ws sl sw w
  time_like y (Marked m) = refl
  time_like y (Totaling g i z) = announced_like s l ws sl sw w

  stand_like : (y : Sum) (g : Goal) (c : ℕ) → Told b s t w y (ReadStand g c) → Like b (read_stand s w g c) (read_stand t w (goal_with y g) c)
  unfolding read_stand
  stand_like y g c T =
      cond-two (Like b) _ _ _ _ _ _
      (ap (λ (v : Slot). leb v.low (time_for s.marks (worker_at s w).announced g.purpose)) (slot_like s l ws sl sw c)
      ∙ ap (leb (slot_at t c).low) (time_like y g.purpose))
      (λ u. found-like y g.purpose (slot_at s c).value (slot_at t c).value (T u).0 (T u).1)
      (exact (goes _ _
      (ap (λ (v : Slot). ReadStand (goal_with sum₀ g) v.older) (slot_like s l ws sl sw c)
      ∙ ap (λ (k : Goal). ReadStand k (slot_at t c).older) (sym (goal_twice sum₀ y g)))) refl)

  get_like : (q : ℕ) → Told b s t w sum₀ (GetShow q) → Like b (get_show s w q) (get_show t w q)
  unfolding get_show
  get_like q T =
      record {
        stores = stamped q Idle Idle refl;
        answers = unseen_answer (slot_at s (newest_of s q)).value ∙ sym (unseen_answer (slot_at t (newest_of t q)).value);
        equal = λ u. ap answer_for (T u);
      }

  -- every step
  pub step-like : (x : Reading) (y : Sum) (d : Doing) → Told b s t w y d → Like b (step_at s w d) (step_at t w (place_with x y d))
  unfolding step_at time_step
  step-like x y Idle T = exact (bare-like s l ws sl sw) refl
  step-like x y (PutPublish q z) T = put-like q z x s.free
  step-like x y (PutStamp q c) T = cover_like q c
  step-like x y (PutHandIn q c) T = hand_like c
  step-like x y FlushTake T = take-like
  step-like x y (FlushRead m ts) T = read_like m ts
  step-like x y (FlushFree m) T = free_like m
  step-like x y (OnTime OpenAnnounce) T = announce_like
  step-like x y (OnTime OpenPass) T = pass-like
  step-like x y (OnTime CloseWithdraw) T = withdraw_like
  step-like x y (OnTime (MarkKeep m)) T = keep_like m
  step-like x y (OnTime (MarkRelease m)) T = release_like m
  step-like x y (ReadEnter g) T = enter_like g.register y g.purpose
  step-like x y (ReadStand g c) T = stand_like y g c T
  step-like x y (GetShow q) T = get_like q T
