-- How long the lists grow: a local pool holds at most B ranges, a queued one 1 to 2B, a flush has at most 4B in hand. Each step keeps it.
use mathlib.Core.Path.{◌≡◌, refl, subst}
use mathlib.Core.Bool.{Bool, true, false, not, cond}
use mathlib.Core.Logic.{◌≢◌}
use mathlib.Core.List.{List, [], ◌∷◌, ◌++◌}
use Prim.Native.Nat.{ℕ, suc, ◌+◌, ◌*◌, ◌≤◌, ◌<◌, ◌/◌}
use native.Mathlib.Omega.{arith}
use lib.Dec.{ltb, leb, eqb}
use lib.ListN.{length, set, take, drop, length-append, length-take, length-drop}
use borrow.Author.Tests as Tests
use Rattle.model.specs.Store.{OnTime, absent, Reading, Range, OpenAnnounce, OpenPass, CloseWithdraw, MarkKeep, MarkRelease, Doing}
use Rattle.model.specs.Store.{Idle, PutPublish, PutStamp, PutHandIn, FlushTake, FlushRead, FlushFree, OnTime, ReadEnter, ReadStand}
use Rattle.model.specs.Store.{GetShow, Worker, start_worker, Store, worker_at, slot_at, range_of, with_worker, with_doing, place}
use Rattle.model.specs.Marks.{time_for}
use Rattle.model.specs.Answer.{Stepped}
use Rattle.model.specs.Versions.{stamp}
use Rattle.model.specs.Ranges.{needed, filter, merge_into, merge, first_two, needed_pools, joining, queued_pool}
use Rattle.model.specs.Steps.{put_publish, put_stamp, put_hand_in, flush_take, read_times, flush_split, flush_read, move_off, worker_off}
use Rattle.model.specs.Steps.{flush_free, open_announce, open_pass, read_enter, read_stand, get_show, close_withdraw, mark_keep, mark_release}
use Rattle.model.specs.Steps.{time_step, step_at}
use Rattle.model.specs.Record.{Operation, Put, Open, Read, Close, Get, Collect, Total, Mark, Release, MarkedRead}
use Rattle.model.specs.Apply.{terms}
use Rattle.model.specs.Demand.{All}
use Rattle.theorem.proofs.View.{off_keeps}
use Rattle.theorem.proofs.Found.{found-by, stopped_by_lem}
use Rattle.model.proofs.Basic.{cond_both, All-append, All-nth, All-set, All-drop, All-through}

------------------------------------------------------------------------
-- Lengths

len_merge_into : (a : Range) (rest : List Range → List Range) (n : ℕ) → ((b : List Range) → length (rest b) ≡ n + length b) → (b : List Range)
    → length (merge_into a rest b) ≡ 1 + n + length b
unfolding merge_into
len_merge_into a rest n e [] = omega (arith, e [])
len_merge_into a rest n e (b ∷ bs) =
    cond_both (λ l. length l ≡ 1 + n + (suc (length bs))) (leb a.high b.high) (a ∷ rest (b ∷ bs)) (b ∷ merge_into a rest bs)
    (λ u. omega (arith, e (b ∷ bs))) (λ u. omega (arith, len_merge_into a rest n e bs))

len_merge : (a b : List Range) → length (merge a b) ≡ length a + length b
unfolding merge
len_merge [] b = omega arith
len_merge (x ∷ a) b = omega (arith, len_merge_into x (merge a) (length a) (len_merge a) b)

len_filter : (p : Range → Bool) (l : List Range) → length (filter p l) ≤ length l
unfolding filter
len_filter p [] = omega arith
len_filter p (x ∷ l) =
    cond_both (λ q. length q ≤ suc (length l)) (p x) (x ∷ filter p l) (filter p l) (λ u. omega (arith, len_filter p l))
    (λ u. omega (arith, len_filter p l))

abbrev Short : ℕ → List Range → Type 0
Short n l = length l ≤ n

-- a queued pool
abbrev pub Sized : ℕ → List Range → Type 0
Sized n l = (1 ≤ length l) × (length l ≤ n)

module _ (b : ℕ) where
  len_first_two : (q : List (List Range)) → All (Sized (2 * b)) q → length (first_two q) ≤ 4 * b
  unfolding first_two
  len_first_two [] t = omega arith
  len_first_two (p ∷ []) t = omega (arith, t.0.1)
  len_first_two (p ∷ q ∷ l) t = omega (arith, t.0.1, t.1.0.1, len_merge p q)

  needed-sized : 0 < b → (l : List Range) → length l ≤ 4 * b → All (Sized (2 * b)) (needed_pools b l)
  unfolding needed_pools
  needed-sized pos l t =
      cond_both (All (Sized (2 * b))) (ltb (2 * b) (length l)) (take h l ∷ drop h l ∷ []) (cond (ltb b (length l)) (l ∷ []) [])
      (λ u.
      let long = Tests.ltb-true (2 * b) (length l) u in (
        (omega (arith, length-take h l, half, long), omega (arith, length-take h l, half)),
        ((omega (arith, length-drop h l, half, long), omega (arith, length-drop h l, half)), tt),
      ))
      (λ u. cond_both (All (Sized (2 * b))) (ltb b (length l)) (l ∷ []) []
      (λ v. ((omega (arith, Tests.ltb-true b (length l) v), omega (arith, Tests.ltb-false (2 * b) (length l) u)), tt)) (λ v. tt))
    where
      h : ℕ
      h = (length l + 1) / 2

      half : (h + h ≤ length l + 1) × (length l ≤ h + h)
      half = (omega arith, omega arith)

  local_short : (l : List Range) → length (joining b l) ≤ b
  unfolding joining
  local_short l = cond_both (Short b) (ltb b (length l)) [] l (λ u. omega arith) (λ u. omega (arith, Tests.ltb-false b (length l) u))

  queued_sized : (n : ℕ) (l : List Range) → length l ≤ n → All (Sized n) (queued_pool l)
  unfolding queued_pool
  queued_sized n [] t = tt
  queued_sized n (x ∷ l) t = ((omega arith, t), tt)

  ------------------------------------------------------------------------
  -- A worker: its pool, and what it has in hand

  abbrev pub Fit : ℕ → Doing → Type 0
  Fit n Idle = n < b
  Fit n (PutPublish r y) = n < b
  Fit n (PutStamp r c) = n < b
  Fit n (PutHandIn r c) = n < b
  Fit n FlushTake = n ≤ b
  Fit n (FlushRead m ts) = (n ≤ b) × (length m ≤ 4 * b)
  Fit n (FlushFree m) = (n < b) × (length m ≤ 4 * b)
  Fit n (OnTime y) = n < b
  Fit n (ReadEnter g) = n < b
  Fit n (ReadStand g c) = n < b
  Fit n (GetShow r) = n < b

  abbrev pub FitW : Worker → Type 0
  FitW y = Fit (length y.pool) y.doing

  fit_off : (c o n : ℕ) (d : Doing) → Fit n d → Fit n (move_off c o d)
  fit_off c o n = off_keeps (Fit n) (λ g e e' a. a) c o

pub record Within (b : ℕ) (s : Store) : Type 0 where
  pub workers : All (FitW b) s.workers
  pub pools : All (Sized (2 * b)) s.queue

module _ (s : Store) (pos : 0 < s.site.B) (W : Within s.site.B s) (w : ℕ) where
  abbrev b : ℕ
  b = s.site.B

  abbrev n : ℕ
  n = length (worker_at s w).pool

  own : (d : Doing) → (worker_at s w).doing ≡ d → Fit b n d
  own d e = subst (Fit b n) e (All-nth (FitW b) s.workers w start_worker pos W.workers)

  -- the worker's record changes, and perhaps the queue
  to : (y : Worker) → FitW b y → All (FitW b) (set s.workers w y)
  to y a = All-set (FitW b) s.workers w y a W.workers

  -- at another place, with the same pool
  at : (d : Doing) → Fit b n d → Within b (place s w d)
  at d f = record { workers = to (with_doing (worker_at s w) d) f; pools = W.pools }

  put-within : (r : ℕ) (y : Reading) → (worker_at s w).doing ≡ PutPublish r y → (l : List ℕ) → Within b (put_publish s w r y l).store
  unfolding put_publish stamp
  put-within r y e [] = record { workers = to (with_doing (worker_at s w) Idle) (own (PutPublish r y) e); pools = W.pools }
  put-within r y e (f ∷ fs) = record { workers = to (with_doing (worker_at s w) (PutStamp r _)) (own (PutPublish r y) e); pools = W.pools }

  pub step-within : (d : Doing) → (worker_at s w).doing ≡ d → Within b (step_at s w d).store
  unfolding step_at time_step put_stamp put_hand_in flush_take flush_read flush_split flush_free open_announce open_pass read_enter read_stand get_show close_withdraw mark_keep mark_release stamp worker_off
  step-within Idle e = W
  step-within (PutPublish r y) e = put-within r y e s.free
  step-within (PutStamp r c) e =
      cond_both (λ (q : Store). Within b (place q w (PutHandIn r c))) (eqb (slot_at s c).high absent) (stamp s r) s
      (λ u. record { workers = to (with_doing (worker_at s w) (PutHandIn r c)) (own (PutStamp r c) e); pools = W.pools })
      (λ u. record { workers = to (with_doing (worker_at s w) (PutHandIn r c)) (own (PutStamp r c) e); pools = W.pools })
  step-within (PutHandIn r c) e = go (eqb (length ((worker_at s w).pool ++ (range_of s c ∷ []))) b) refl
    where
      len : length ((worker_at s w).pool ++ (range_of s c ∷ [])) ≡ n + 1
      len = length-append (worker_at s w).pool (range_of s c ∷ [])

      go : (full : Bool) → eqb (length ((worker_at s w).pool ++ (range_of s c ∷ []))) b ≡ full
          → Within b (with_worker s w (record {
            doing = cond full FlushTake Idle;
            announced = (worker_at s w).announced;
            pool = (worker_at s w).pool
                ++ (range_of s c ∷ []);
          }))
      go true u = record { workers = to _ (omega (arith, len, own (PutHandIn r c) e)); pools = W.pools }
      go false u =
          record {
            workers = to _ (let ne : length ((worker_at s w).pool ++ (range_of s c ∷ [])) ≢ b = Tests.eqb-false
                (length ((worker_at s w).pool ++ (range_of s c ∷ []))) b u in omega (arith, len, own (PutHandIn r c) e));
            pools = W.pools;
          }
  step-within FlushTake e =
      record {
        workers = to (with_doing (worker_at s w) (FlushRead (first_two s.queue) [])) (own FlushTake e, len_first_two b s.queue W.pools);
        pools = All-drop (Sized (2 * b)) 2 s.queue W.pools;
      }
  step-within (FlushRead m ts) e =
      cond_both (λ (q : Stepped). Within b q.store) (leb (length ts) s.site.P) _ _
      (λ u. record {
        workers = to (with_doing (worker_at s w) (FlushRead m (ts ++ read_times s (length ts))))
            (own (FlushRead m ts) e);
        pools = W.pools;
      })
      (λ u.
      let a = own (FlushRead m ts) e in
      let stay = filter (needed ts) m in
      record {
        workers =
            to (record { doing = FlushFree (filter (λ ρ. not (needed ts ρ)) m); announced = (worker_at s w).announced; pool = [] })
            (pos, omega (arith, a.1, len_filter (λ ρ. not (needed ts ρ)) m));
        pools =
            All-append (Sized (2 * b)) (s.queue ++ needed_pools b stay) _
            (All-append (Sized (2 * b)) s.queue _ W.pools (needed-sized b pos stay (omega (arith, a.1, len_filter (needed ts) m))))
            (queued_sized b (2 * b) _ (omega (arith, a.0, len_merge (worker_at s w).pool (joining b stay), local_short b stay)));
      })
  step-within (FlushFree []) e = record { workers = to (with_doing (worker_at s w) Idle) (own (FlushFree []) e).0; pools = W.pools }
  step-within (FlushFree (ρ ∷ l)) e =
      let a = own (FlushFree (ρ ∷ l)) e in
      record {
        workers =
            All-through (FitW b) (worker_off ρ.slot (slot_at s ρ.slot).older)
            (λ y z. fit_off b ρ.slot (slot_at s ρ.slot).older (length y.pool) y.doing z)
            (set s.workers w (with_doing (worker_at s w) (FlushFree l))) (to (with_doing (worker_at s w) (FlushFree l)) (a.0, omega (arith, a.1)));
        pools = W.pools;
      }
  step-within (OnTime OpenAnnounce) e =
      cond_both (λ (q : Stepped). Within b q.store) (eqb s.clock 4294967295) _ _
      (λ u. record { workers = to (with_doing (worker_at s w) Idle) (own (OnTime OpenAnnounce) e); pools = W.pools })
      (λ u. record {
        workers = to (record { doing = OnTime OpenPass; announced = s.clock; pool = (worker_at s w).pool })
            (own (OnTime OpenAnnounce) e);
        pools = W.pools;
      })
  step-within (OnTime OpenPass) e = record { workers = to (with_doing (worker_at s w) Idle) (own (OnTime OpenPass) e); pools = W.pools }
  step-within (ReadEnter g) e =
      stopped_by_lem (λ (q : Stepped). Within b q.store) _ s w _ (λ k u. at Idle (own (ReadEnter g) e))
      (λ u. record { workers = to (with_doing (worker_at s w) (ReadStand g _)) (own (ReadEnter g) e); pools = W.pools })
  step-within (ReadStand g c) e =
      cond_both (λ (q : Stepped). Within b q.store) (leb (slot_at s c).low (time_for s.marks (worker_at s w).announced g.purpose)) _ _
      (λ u. found-by (λ (q : Stepped). Within b q.store) s w g.purpose (slot_at s c).value
      (λ a T. at Idle (own (ReadStand g c) e)) (at Idle (own (ReadStand g c) e)) (λ g'. at (ReadEnter g') (own (ReadStand g c) e)))
      (λ u. record { workers = to (with_doing (worker_at s w) (ReadStand g (slot_at s c).older)) (own (ReadStand g c) e); pools = W.pools })
  step-within (OnTime CloseWithdraw) e =
      record {
        workers = to (record { doing = Idle; announced = absent; pool = (worker_at s w).pool })
            (own (OnTime CloseWithdraw) e);
        pools = W.pools;
      }
  step-within (OnTime (MarkKeep m)) e =
      stopped_by_lem (λ (q : Stepped). Within b q.store) _ s w _ (λ k u. at Idle (own (OnTime (MarkKeep m)) e))
      (λ u. record { workers = to (with_doing (worker_at s w) Idle) (own (OnTime (MarkKeep m)) e); pools = W.pools })
  step-within (OnTime (MarkRelease m)) e =
      stopped_by_lem (λ (q : Stepped). Within b q.store) _ s w _ (λ k u. at Idle (own (OnTime (MarkRelease m)) e))
      (λ u. record { workers = to (with_doing (worker_at s w) Idle) (own (OnTime (MarkRelease m)) e); pools = W.pools })
  step-within (GetShow r) e = record { workers = to (with_doing (worker_at s w) Idle) (own (GetShow r) e); pools = W.pools }

  pub begin-within : (c : Operation) → (worker_at s w).doing ≡ Idle → Within b (place s w (terms s.site.rows c).first)
  begin-within (Put r y) e = record { workers = to (with_doing (worker_at s w) (PutPublish r y)) (own Idle e); pools = W.pools }
  begin-within Open e = record { workers = to (with_doing (worker_at s w) (OnTime OpenAnnounce)) (own Idle e); pools = W.pools }
  begin-within (Read r) e = record { workers = to (with_doing (worker_at s w) (ReadEnter _)) (own Idle e); pools = W.pools }
  begin-within Close e = record { workers = to (with_doing (worker_at s w) (OnTime CloseWithdraw)) (own Idle e); pools = W.pools }
  begin-within (Get r) e = record { workers = to (with_doing (worker_at s w) (GetShow r)) (own Idle e); pools = W.pools }
  begin-within Collect e = record { workers = to (with_doing (worker_at s w) FlushTake) (omega (arith, own Idle e)); pools = W.pools }
  begin-within (Total g) e = record { workers = to (with_doing (worker_at s w) (ReadEnter _)) (own Idle e); pools = W.pools }
  begin-within (Mark m) e = record { workers = to (with_doing (worker_at s w) (OnTime (MarkKeep m))) (own Idle e); pools = W.pools }
  begin-within (Release m) e = record { workers = to (with_doing (worker_at s w) (OnTime (MarkRelease m))) (own Idle e); pools = W.pools }
  begin-within (MarkedRead r m) e = record { workers = to (with_doing (worker_at s w) (ReadEnter _)) (own Idle e); pools = W.pools }
