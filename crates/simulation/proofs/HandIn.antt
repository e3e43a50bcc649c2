-- Put (3): the code's step is the model's. The covered version's range is appended to the local pool in memory as on the list, since its
-- times are below 2^32, and the pool is full for the one where it is for the other.
use mathlib.Core.Path.{◌≡◌, refl, ap, ap₂, ◌∙◌}
use mathlib.Core.Bool.{Bool, true, false, cond}
use mathlib.Core.List.{List, [], ◌∷◌, ◌++◌}
use Prim.Native.Nat.{ℕ, ◌≤◌, ◌<◌}
use native.Mathlib.Omega.{arith}
use lib.Dec.{eqb}
use lib.ListN.{length, length-append}
use Rattle.model.specs.Store as Model
use Rattle.model.specs.Store.{Store, Range, worker_at, slot_at, range_of, with_worker}
use Rattle.model.specs.Answer as Model-as-Answer
use Rattle.model.specs.Steps.{step_at, put_hand_in}
use Rattle.values.specs.Meaning.{answer_of}
use Rattle.values.specs.declared.Answer.TheVariants.{Going, Done}
use Rattle.slots.specs.Slots.{slot_rep}
use Rattle.versions.specs.Versions.{slot_at_in}
use Rattle.worker.specs.declared.Pool.{Pool}
use Rattle.worker.specs.declared.Worker.{Worker}
use Rattle.worker.specs.Pool.{appended}
use Rattle.worker.specs.Rep.{times_read, pool_rep, announced_rep, doing_rep, worker_rep}
use Rattle.marks.specs.Marks.{read_by}
use Rattle.worker.proofs.Ranges.{append-rep}
use Rattle.step.specs.Step.{step_of}
use Rattle.flush.specs.Flush.{HandedIn, word, handed_pool, handed, put_hand_in_step}
use Rattle.simulation.specs.Memory.{Memory, hand_words, in_hand_words, write, answered}
use Rattle.simulation.specs.Left.{Sized}
use Rattle.simulation.specs.Shell.{with_record, queue_in, handed_in, next_in, go_in}
use Rattle.simulation.proofs.Sound.{Sound, PlaceIn}
use Rattle.simulation.proofs.Simulates.{Simulates}
use Rattle.simulation.proofs.Laid.{batch_is, times-kept, all_set, slot_is, place_at, among, list-kept}
use Rattle.simulation.proofs.FlushQueue.{queue_held, queue_kept}
use Rattle.simulation.proofs.Moved.{moved_sim}

-- the worker after it, by whether the pool is full
abbrev after : Bool → Model.Worker → List Range → Model.Worker
after t x p = record { doing = cond t Model.FlushTake Model.Idle; announced = x.announced; pool = p }

abbrev record_of : Model.Worker → HandedIn → Worker
record_of x z = record { doing = z.doing; announced = announced_rep x.announced; pool = z.pool }

record_is : (x : Model.Worker) (p : List Range) (t : Bool) → record_of x (handed (pool_rep p) t) ≡ worker_rep (after t x p)
record_is x p true = refl
record_is x p false = refl

same_answer : (t : Bool) → cond t Model-as-Answer.Going Model-as-Answer.Done ≡ answer_of (cond t Going Done)
same_answer true = refl
same_answer false = refl

-- no list is in hand before and after
no_list : (r c : ℕ) (t : Bool) → in_hand_words (Model.PutHandIn r c) ≡ in_hand_words (cond t Model.FlushTake Model.Idle) ++ []
unfolding hand_words
no_list r c true = refl
no_list r c false = refl

no_times : (r c : ℕ) (t : Bool) → times_read (Model.PutHandIn r c) ≡ times_read (cond t Model.FlushTake Model.Idle) ++ []
no_times r c true = refl
no_times r c false = refl

no_read : (t : Bool) → read_by (doing_rep (cond t Model.FlushTake Model.Idle)) ≡ 0
no_read true = refl
no_read false = refl

module _ (s : Store) (m : Memory) (w r c : ℕ) (S : Sound s) (Z : Sized m) (laid : m ≡ write s m) (wb : w < s.site.P)
    (e : (worker_at s w).doing ≡ Model.PutHandIn r c) (next : Sound (step_at s w (Model.PutHandIn r c)).store) where
  abbrev d : Model.Doing
  d = Model.PutHandIn r c

  abbrev own : Model.Worker
  own = worker_at s w

  abbrev pool : List Range
  pool = own.pool ++ (range_of s c ∷ [])

  abbrev full : Bool
  full = eqb (length pool) s.site.B

  within : PlaceIn s own.announced d
  within = place_at s S w wb d e

  -- the pool with one range more is a pool again
  room : length own.pool < 64
  unfolding step_at put_hand_in
  room =
      let z : length pool ≤ s.site.B =
      all_set (λ x. length x.pool ≤ s.site.B) s.workers w (after full own pool) (among s S w wb) next.bounds.local in
      let b = S.bounds.batch.1 in
      omega (arith, length-append own.pool (range_of s c ∷ []))

  slot_there : slot_at_in m.slots c ≡ slot_rep (slot_at s c)
  slot_there = slot_is s m laid c (rw S.bounds.slots.2 within.1)

  pool_is : handed_pool (pool_rep own.pool) c (slot_at_in m.slots c) ≡ pool_rep pool
  unfolding range_of
  pool_is =
      let low : word (slot_at s c).low ≡ (slot_at s c).low = omega (arith, within.2) in
      let high : word (slot_at s c).high ≡ (slot_at s c).high = omega (arith, within.3) in
      ap (handed_pool (pool_rep own.pool) c) slot_there
      ∙ ap₂ (appended (pool_rep own.pool) c) low high
      ∙ append-rep own.pool (range_of s c) room

  handed-is : put_hand_in_step m.slots (pool_rep own.pool) c m.hub.site.batch ≡ handed (pool_rep pool) full
  unfolding put_hand_in_step
  handed-is = ap₂ (λ (q : Pool) (p : ℕ). handed q (eqb q.len p)) pool_is (batch_is s m laid)

  pub put-hand_in_sim : Simulates s m w d
  unfolding step_at put_hand_in go_in step_of next_in handed_in
  put-hand_in_sim =
      let x : Model.Worker = after full own pool in
      moved_sim s m w S laid wb d e x s.queue (cond full Going Done) (record_of own (handed (pool_rep pool) full)) (queue_in m) m.hub.times m.merged
      (ap (λ (y : Model-as-Answer.Answer). record { store = with_worker s w x; answer = y }) (same_answer full))
      (ap (λ (z : HandedIn). answered (with_record m w (record_of own z)) z.answer) handed-is)
      (record_is own pool full) (queue_kept s m s.queue (queue_in m) (omega arith) (queue_held s m laid))
      (times-kept s S w wb m Z laid d x [] e (no_times r c full)) (list-kept s S w wb m Z laid d x [] e (no_list r c full))
      (no_read full)
