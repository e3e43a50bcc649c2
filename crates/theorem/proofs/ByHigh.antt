-- Every pool, and every list that a flush has in hand, is sorted by high: each record keeps it. Merging, splitting and halving keep a list sorted. A
-- put (3) appends the version that it covers: when the put covered it, its high was open, so above every high of the pool; the high is closed once,
-- by the clock, and no high of a pool is above the clock.
use mathlib.Core.Path.{◌≡◌, refl, sym, ap, ◌∙◌, subst}
use mathlib.Core.Bool.{Bool, true, false, not, cond}
use mathlib.Core.Logic.{◌⊎◌, inl, inr, ⊎_elim}
use mathlib.Core.List.{List, [], ◌∷◌, ◌++◌}
use Prim.Native.Nat.{ℕ, zero, suc, ◌≤◌, ◌<◌}
use native.Mathlib.Omega.{arith}
use lib.Dec.{leb, eqb}
use lib.ListN.{length, get_or, set, take, drop, replicate}
use lib.Seq.{get_or-set_same, get_or-set_other, set_out}
use borrow.Author.Tests as Tests
use Rattle.model.specs.Store.{Content, absent, Reading, Slot, Range, OpenAnnounce, OpenPass, CloseWithdraw, MarkKeep, MarkRelease, Doing, Idle}
use Rattle.model.specs.Store.{PutPublish, PutStamp, PutHandIn, FlushTake, FlushRead, FlushFree, OnTime, ReadEnter, ReadStand, GetShow}
use Rattle.model.specs.Store.{Worker, start_worker, Store, worker_at, slot_at, newest_of, range_of, with_worker, with_doing, place}
use Rattle.model.specs.About.{Hand, Empty, Covered, Merged, Needless, about}
use Rattle.model.specs.Marks.{time_for}
use Rattle.model.specs.Answer.{Stepped}
use Rattle.model.specs.Versions.{set_low, set_high, set_newer, change, published, stamp_slots, stamp, link_slots, unlink_slots}
use Rattle.model.specs.Ranges.{needed, filter, merge_into, merge, first_two, needed_pools, joining}
use Rattle.model.specs.Steps.{put_publish, put_stamp, put_hand_in, flush_take, read_times, flush_split, flush_read, move_off, worker_off}
use Rattle.model.specs.Steps.{flush_free, open_announce, open_pass, read_enter, read_stand, get_show, close_withdraw, mark_keep, mark_release}
use Rattle.model.specs.Steps.{time_step, step_at}
use Rattle.model.specs.Record.{Operation}
use Rattle.model.specs.Apply.{terms}
use Rattle.model.specs.Demand.{Call, Plain, All}
use Rattle.model.specs.Figure.{ByHigh, HandByHigh, WorkerByHigh, StoreByHigh}
use Rattle.theorem.proofs.Found.{found-by, stopped_by_lem}
use Rattle.model.proofs.Basic.{cond_both, eq_cases, lt_cases, All-map, All-append, All-nth, All-set, All-take, All-drop, All-through}
use Rattle.theorem.proofs.View.{off_keeps, first_hand}
use Rattle.theorem.proofs.Slots.{nth, change-part, unlink_part}
use Rattle.theorem.proofs.Count.{All-merge, All-keep, first_two-has, pools_have, joining-has, queued_has}
use Rattle.theorem.proofs.Invariant.{Inv}
use Rattle.theorem.proofs.Places.{doing_is}

------------------------------------------------------------------------
-- Lists

merge_into_lem : (x : Range) (a : List Range) → All (λ σ. x.high ≤ σ.high) a → ((b : List Range) → ByHigh b → ByHigh (merge a b)) → (b : List Range)
    → ByHigh b → ByHigh (merge (x ∷ a) b)
unfolding merge merge_into
merge_into_lem x a l rest [] t = (All-merge (λ σ. x.high ≤ σ.high) a [] l tt, rest [] tt)
merge_into_lem x a l rest (y ∷ b) t =
    cond_both ByHigh (leb x.high y.high) (x ∷ merge a (y ∷ b)) (y ∷ merge_into x (merge a) b)
    (λ u.
    let h = Tests.leb-true x.high y.high u in
    (All-merge (λ σ. x.high ≤ σ.high) a (y ∷ b) l (h, All-map (λ σ z. omega (arith, h, z)) b t.0), rest (y ∷ b) t))
    (λ u.
    let h = Tests.leb-false x.high y.high u in (
      All-merge (λ σ. y.high ≤ σ.high) (x ∷ a) b (omega (arith, h), All-map (λ σ z. omega (arith, h, z)) a l) t.0,
      merge_into_lem x a l rest b
          t.1,
    ))

pub merge-by_high : (a b : List Range) → ByHigh a → ByHigh b → ByHigh (merge a b)
unfolding merge
merge-by_high [] b s t = t
merge-by_high (x ∷ a) b s t = merge_into_lem x a s.0 (λ q u. merge-by_high a q s.1 u) b t

pub filter-by_high : (p : Range → Bool) (l : List Range) → ByHigh l → ByHigh (filter p l)
unfolding filter
filter-by_high p [] t = tt
filter-by_high p (x ∷ l) t =
    cond_both ByHigh (p x) (x ∷ filter p l) (filter p l)
    (λ u. (All-keep (λ σ. x.high ≤ σ.high) p l t.0, filter-by_high p l t.1)) (λ u. filter-by_high p l t.1)

take-by_high : (n : ℕ) (l : List Range) → ByHigh l → ByHigh (take n l)
take-by_high zero l t = tt
take-by_high (suc n) [] t = tt
take-by_high (suc n) (x ∷ l) t = (All-take (λ σ. x.high ≤ σ.high) n l t.0, take-by_high n l t.1)

drop-by_high : (n : ℕ) (l : List Range) → ByHigh l → ByHigh (drop n l)
drop-by_high zero l t = t
drop-by_high (suc n) [] t = tt
drop-by_high (suc n) (x ∷ l) t = drop-by_high n l t.1

snoc_by_high : (l : List Range) (ρ : Range) → ByHigh l → All (λ σ. σ.high ≤ ρ.high) l → ByHigh (l ++ (ρ ∷ []))
snoc_by_high [] ρ t a = (tt, tt)
snoc_by_high (x ∷ l) ρ t a = (All-append (λ σ. x.high ≤ σ.high) l (ρ ∷ []) t.0 (a.0, tt), snoc_by_high l ρ t.1 a.1)

------------------------------------------------------------------------
-- Slots: where a step changes a high, the high is then at least the clock

abbrev Closes : ℕ → List Slot → List Slot → Type 0
Closes t l l' = (c : ℕ) → ((nth l' c).high ≡ (nth l c).high) ⊎ (t ≤ (nth l' c).high)

module _ (t : ℕ) where
  closes_then : (l l' l'' : List Slot) → Closes t l l' → Closes t l' l'' → Closes t l l''
  closes_then l l' l'' f g c = ⊎_elim (λ e. ⊎_elim (λ u. inl (e ∙ u)) (λ u. inr (omega (arith, e, u))) (f c)) inr (g c)

  set-closes : (l : List Slot) (i : ℕ) (v : Slot) → t ≤ v.high → Closes t l (set l i v)
  set-closes l i v h c =
      ⊎_elim
      (λ e. ⊎_elim
      (λ u. inr (let z : (nth (set l i v) c).high ≡ v.high = ap (λ (k : ℕ). (nth (set l i v) k).high) e.0
      ∙ ap (λ (q : Slot). q.high) (get_or-set_same l i v _ u.0) in omega (arith, h, z)))
      (λ u. inl (ap (λ (q : List Slot). (nth q c).high) (set_out l i v u.0)))
      (lt_cases i (length l)))
      (λ e. inl (ap (λ (q : Slot). q.high) (get_or-set_other l i c v _ e.0)))
      (eq_cases c i)

  stamp-closes : (l : List Slot) (n : ℕ) → Closes t l (stamp_slots l n t)
  unfolding stamp_slots
  stamp-closes l n =
      cond_both (Closes t l) (eqb (nth l n).low absent) (set l' i v') l
      (λ u. closes_then l l' (set l' i v') (λ c. inl (change-part (λ v. v.high) l n (λ v. set_low v t) (λ v. refl) c))
      (set-closes l' i v' (omega arith)))
      (λ u c. inl refl)
    where
      l' : List Slot
      l' = change l n (λ v. set_low v t)

      i : ℕ
      i = (nth l n).older

      v' : Slot
      v' = set_high (nth l' i) t

  link_closes : t < absent → (l : List Slot) (c f : ℕ) (x : Reading) → Closes t l (link_slots l c f x)
  unfolding link_slots
  link_closes b l c f x =
      closes_then l (change l c (λ v. set_newer v f)) (link_slots l c f x) (λ d. inl (change-part (λ v. v.high) l c (λ v. set_newer v f) (λ v. refl) d))
      (set-closes (change l c (λ v. set_newer v f)) f (published x c) (omega (arith, b)))

  -- a worker none of whose pool's highs is above the clock
  abbrev Low : Worker → Type 0
  Low y = All (λ ρ. ρ.high ≤ t) y.pool

  module _ (l l' : List Slot) (f : Closes t l l') where
    -- a put's version stays above the pool
    covers-on : (q : List Range) (c : ℕ) → All (λ ρ. ρ.high ≤ t) q → All (λ ρ. ρ.high ≤ (nth l c).high) q → All (λ ρ. ρ.high ≤ (nth l' c).high) q
    covers-on q c low a = ⊎_elim (λ e. All-map (λ ρ h. omega (arith, h, e)) q a) (λ e. All-map (λ ρ h. omega (arith, h, e)) q low) (f c)

    hand_on : (q : List Range) (y : Hand) → All (λ ρ. ρ.high ≤ t) q → HandByHigh l q y → HandByHigh l' q y
    hand_on q Empty low a = a
    hand_on q (Covered c) low a = covers-on q c low a
    hand_on q (Merged m ts) low a = a
    hand_on q (Needless m) low a = a

    workers-on : (ws : List Worker) → All Low ws → All (WorkerByHigh l) ws → All (WorkerByHigh l') ws
    workers-on [] low a = tt
    workers-on (y ∷ ws) low a =
        (record { local = a.0.local; hand = hand_on y.pool (about y.doing).hand low.0 a.0.hand }, workers-on ws low.1 a.1)

-- what a place has in hand
abbrev HandAt : List Slot → List Range → Doing → Type 0
HandAt l q d = HandByHigh l q (about d).hand

hand_off : (l : List Slot) (q : List Range) (c o : ℕ) (d : Doing) → HandAt l q d → HandAt l q (move_off c o d)
hand_off l q = off_keeps (HandAt l q) (λ g e e' a. a)

------------------------------------------------------------------------
-- Steps and begins

All-points : (Q : Worker → Type 0) (l : List Worker) → ((i : ℕ) → i < length l → Q (get_or l i start_worker)) → All Q l
All-points Q [] f = tt
All-points Q (y ∷ l) f = (f 0 (omega arith), All-points Q l (λ i h. f (suc i) (omega (arith, h))))

module _ {start : ℕ → Content} (now : ℕ) (s : Store) (olds : List (List ℕ)) (h : List Call) (o : List ℕ) (p : Plain) (I : Inv start now s olds h o p) (S : StoreByHigh s) (w : ℕ)
    (wb : w < s.site.P) where
  -- no high of a pool is above the clock
  low : (v : ℕ) → v < s.site.P → Low s.clock (worker_at s v)
  low v b = All-map (λ ρ g. g.2) (worker_at s v).pool (I.workers v b).pool

  lows : All (Low s.clock) s.workers
  lows = All-points (Low s.clock) s.workers (λ v b. low v (omega (arith, b, I.workers_length)))

  own : WorkerByHigh s.slots (worker_at s w)
  own = All-nth (WorkerByHigh s.slots) s.workers w start_worker (record { local = tt; hand = tt }) S.workers

  hand : (d : Doing) → (worker_at s w).doing ≡ d → HandAt s.slots (worker_at s w).pool d
  hand d e = subst (HandAt s.slots (worker_at s w).pool) e own.hand

  -- the worker's record changes
  to : (y : Worker) → WorkerByHigh s.slots y → All (WorkerByHigh s.slots) (set s.workers w y)
  to y a = All-set (WorkerByHigh s.slots) s.workers w y a S.workers

  -- its place changes
  at : (d : Doing) → HandAt s.slots (worker_at s w).pool d → All (WorkerByHigh s.slots) (set s.workers w (with_doing (worker_at s w) d))
  at d a = to (with_doing (worker_at s w) d) (record { local = own.local; hand = a })

  -- and slots
  with-slots : (l : List Slot) → Closes s.clock s.slots l → (d : Doing) → HandAt s.slots (worker_at s w).pool d
      → All (WorkerByHigh l) (set s.workers w (with_doing (worker_at s w) d))
  with-slots l f d a =
      workers-on s.clock s.slots l f (set s.workers w (with_doing (worker_at s w) d))
      (All-set (Low s.clock) s.workers w (with_doing (worker_at s w) d) (low w wb) lows) (at d a)

  stamped : (r : ℕ) (d : Doing) → HandAt s.slots (worker_at s w).pool d → StoreByHigh (place (stamp s r) w d)
  unfolding stamp
  stamped r d a =
      record {
        queued = S.queued;
        workers = with-slots (stamp_slots s.slots (newest_of s r) s.clock)
            (stamp-closes s.clock s.slots (newest_of s r)) d a;
      }

  placed : (d : Doing) → HandAt s.slots (worker_at s w).pool d → StoreByHigh (place s w d)
  placed d a = record { queued = S.queued; workers = at d a }

  put-by_high : (r : ℕ) (y : Reading) → (worker_at s w).doing ≡ PutPublish r y → (l : List ℕ) → StoreByHigh (put_publish s w r y l).store
  unfolding put_publish stamp
  put-by_high r y e [] = placed Idle tt
  put-by_high r y e (f ∷ fs) =
      record {
        queued = S.queued;
        workers =
            with-slots (link_slots l c f y) (closes_then s.clock s.slots l (link_slots l c f y) (stamp-closes s.clock s.slots c)
            (link_closes s.clock I.clock_fits l c f y))
            (PutStamp r c) (All-map (λ ρ b. omega (arith, b, high, I.clock_fits)) (worker_at s w).pool (low w wb));
      }
    where
      c : ℕ
      c = newest_of s r

      l : List Slot
      l = stamp_slots s.slots c s.clock

      high : (nth s.slots c).high ≡ absent
      high = (I.stamps r (doing_is now s olds h o p I w wb (PutPublish r y) e).0).0

  pub step-by_high : (d : Doing) → (worker_at s w).doing ≡ d → StoreByHigh (step_at s w d).store
  unfolding step_at time_step put_stamp put_hand_in flush_take flush_read flush_split flush_free open_announce open_pass read_enter read_stand get_show close_withdraw mark_keep mark_release worker_off range_of
  step-by_high Idle e = S
  step-by_high (PutPublish r y) e = put-by_high r y e s.free
  step-by_high (PutStamp r c) e =
      cond_both (λ (q : Store). StoreByHigh (place q w (PutHandIn r c))) (eqb (slot_at s c).high absent) (stamp s r) s
      (λ u. stamped r (PutHandIn r c) (hand (PutStamp r c) e))
      (λ u. placed (PutHandIn r c) (hand (PutStamp r c) e))
  step-by_high (PutHandIn r c) e = go (eqb (length ((worker_at s w).pool ++ (range_of s c ∷ []))) s.site.B)
    where
      ended : ByHigh ((worker_at s w).pool ++ (range_of s c ∷ []))
      ended = snoc_by_high (worker_at s w).pool (range_of s c) own.local (hand (PutHandIn r c) e)

      go : (full : Bool) → StoreByHigh (with_worker s w
          (record { doing = cond full FlushTake Idle; announced = (worker_at s w).announced; pool = (worker_at s w).pool ++ (range_of s c ∷ []) }))
      go true = record { queued = S.queued; workers = to _ (record { local = ended; hand = tt }) }
      go false = record { queued = S.queued; workers = to _ (record { local = ended; hand = tt }) }
  step-by_high FlushTake e =
      record {
        queued = All-drop ByHigh 2 s.queue S.queued;
        workers = at (FlushRead (first_two s.queue) []) (first_two-has ByHigh tt merge-by_high s.queue S.queued);
      }
  step-by_high (FlushRead m ts) e =
      cond_both (λ (q : Stepped). StoreByHigh q.store) (leb (length ts) s.site.P) _ _
      (λ u. placed (FlushRead m (ts ++ read_times s (length ts))) (hand (FlushRead m ts) e))
      (λ u.
      let b = s.site.B in
      let stay = filter (needed ts) m in
      let ok : ByHigh stay = filter-by_high (needed ts) m (hand (FlushRead m ts) e) in
      record {
        queued =
            All-append ByHigh (s.queue ++ needed_pools b stay) _
            (All-append ByHigh s.queue _ S.queued (pools_have ByHigh b stay (λ n. take-by_high n stay ok) (λ n. drop-by_high n stay ok) ok))
            (queued_has ByHigh _ (merge-by_high (worker_at s w).pool (joining b stay) own.local (joining-has ByHigh b stay tt ok)));
        workers = to _ (record { local = tt; hand = filter-by_high (λ ρ. not (needed ts ρ)) m (hand (FlushRead m ts) e) });
      })
  step-by_high (FlushFree []) e = placed Idle tt
  step-by_high (FlushFree (ρ ∷ l)) e =
      record {
        queued = S.queued;
        workers =
            All-through (WorkerByHigh (unlink_slots s.slots ρ.slot)) (worker_off ρ.slot (slot_at s ρ.slot).older)
            (λ y z. record {
              local = z.local;
              hand = hand_off (unlink_slots s.slots ρ.slot) y.pool ρ.slot (slot_at s ρ.slot).older
                  y.doing z.hand;
            })
            (set s.workers w (with_doing (worker_at s w) (FlushFree l)))
            (with-slots (unlink_slots s.slots ρ.slot) (λ c. inl (unlink_part s.slots ρ.slot (λ v. v.high) (λ v x. refl) (λ v x. refl) c))
            (FlushFree l) (hand (FlushFree (ρ ∷ l)) e).1);
      }
  step-by_high (OnTime OpenAnnounce) e =
      cond_both (λ (q : Stepped). StoreByHigh q.store) (eqb s.clock 4294967295) _ _
      (λ u. placed Idle tt)
      (λ u. record { queued = S.queued; workers = to _ (record { local = own.local; hand = tt }) })
  step-by_high (OnTime OpenPass) e = record { queued = S.queued; workers = at Idle tt }
  step-by_high (ReadEnter g) e =
      stopped_by_lem (λ (q : Stepped). StoreByHigh q.store) _ s w _ (λ k u. placed Idle tt)
      (λ u. stamped g.register (ReadStand g (newest_of s g.register)) tt)
  step-by_high (ReadStand g c) e =
      cond_both (λ (q : Stepped). StoreByHigh q.store) (leb (slot_at s c).low (time_for s.marks (worker_at s w).announced g.purpose)) _ _
      (λ u. found-by (λ (q : Stepped). StoreByHigh q.store) s w g.purpose (slot_at s c).value
      (λ a T. placed Idle tt) (placed Idle tt) (λ g'. placed (ReadEnter g') tt))
      (λ u. placed (ReadStand g (slot_at s c).older) tt)
  step-by_high (OnTime CloseWithdraw) e = record { queued = S.queued; workers = to _ (record { local = own.local; hand = tt }) }
  step-by_high (OnTime (MarkKeep m)) e =
      stopped_by_lem (λ (q : Stepped). StoreByHigh q.store) _ s w _ (λ k u. placed Idle tt)
      (λ u. record { queued = S.queued; workers = at Idle tt })
  step-by_high (OnTime (MarkRelease m)) e =
      stopped_by_lem (λ (q : Stepped). StoreByHigh q.store) _ s w _ (λ k u. placed Idle tt)
      (λ u. record { queued = S.queued; workers = at Idle tt })
  step-by_high (GetShow r) e = stamped r Idle tt

  pub begin-by_high : (c : Operation) → StoreByHigh (place s w (terms s.site.rows c).first)
  begin-by_high c =
      placed (terms s.site.rows c).first (subst (HandByHigh s.slots (worker_at s w).pool) (sym (first_hand s.site.rows c)) tt)

------------------------------------------------------------------------
-- At setup

pub start_by_high : (l : List Slot) (n : ℕ) → All (WorkerByHigh l) (replicate n start_worker)
start_by_high l zero = tt
start_by_high l (suc n) = (record { local = tt; hand = tt }, start_by_high l n)
