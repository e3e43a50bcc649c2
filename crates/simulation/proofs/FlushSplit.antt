-- Flush (3): the code's step is the model's. The times and the merged list are read back from memory, so that the split gives the same
-- needless and needed ranges. The needless ones stay in the worker's part of memory, the needed ones and the local pool go to the queue.
use mathlib.Core.Path.{◌≡◌, refl, ap, ap₂, ◌∙◌}
use mathlib.Core.Bool.{Bool, true, false, not, cond}
use mathlib.Core.List.{List, [], ◌∷◌, ◌++◌, reverse}
use Prim.Native.Nat.{ℕ, suc, ◌+◌, ◌-◌, ◌*◌, ◌≤◌, ◌<◌}
use native.Mathlib.Omega.{arith}
use mathlib.Core.Logic.{⊎_elim}
use lib.Dec.{ltb, leb, eqb}
use lib.ListN.{length, set, take, replicate, length-reverse, length-append}
use borrow.Author.Tests.{lt-ltb, le-ltb, le-leb, lt-leb, ne_eqb}
use Rattle.lists.specs.Over.{over}
use Rattle.lists.proofs.Over.{take-over}
use Rattle.model.specs.Store as Model
use Rattle.model.specs.Store.{Store, Range, mark_count, start_worker, worker_at, with_worker, with_queue}
use Rattle.model.specs.Answer as Model-as-Answer
use Rattle.model.specs.Ranges.{merge, filter, needed, needed_of, needless_of, needed_pools, joining, queued_pool}
use Rattle.model.specs.About.{about}
use Rattle.model.specs.Reached.{sum_by, in_hand, versions_held}
use Rattle.model.specs.Demand.{All}
use Rattle.model.specs.Steps.{step_at, flush_read, flush_split}
use Rattle.theorem.proofs.Count.{sum_by-one}
use Rattle.values.specs.declared.Answer.TheVariants.{Going}
use Rattle.arrays.specs.Arrays.{short}
use Rattle.worker.specs.declared.Pool.{Pool}
use Rattle.worker.specs.declared.Worker.{Worker}
use Rattle.worker.specs.declared.Doing.TheVariants as D
use Rattle.worker.specs.Rep.{times_read, pool_rep, announced_rep}
use Rattle.ranges.specs.Words.{flat, ranges_at}
use Rattle.ranges.proofs.WordLaws.{length-flat}
use Rattle.queue.specs.State.{Queue, Begins}
use Rattle.queue.specs.Rep.{joined_ranges, queue_rep}
use Rattle.queue.proofs.Rep.{ranges_at-over}
use Rattle.state.specs.declared.Hub.{Hub}
use Rattle.step.specs.declared.Next.TheVariants.{Read, ReadMarks, Split}
use Rattle.step.specs.Step.{step_of}
use Rattle.flush.specs.Flush.{part_of, with_part, times_of}
use Rattle.splitting.specs.Splitting.{requeued, may_split, may_cut, needless_by, needed_by, needless_count, split_left, split_queue, split_merged}
use Rattle.simulation.specs.Memory.{Memory, hand_words, merged_over, write}
use Rattle.simulation.specs.Left.{Sized}
use Rattle.simulation.specs.Shell.{queue_in, split_in, next_in, go_in}
use Rattle.simulation.proofs.Sound.{Sound, PlaceIn}
use Rattle.simulation.proofs.Simulates.{Simulates, record_at}
use Rattle.simulation.proofs.Laid.{cond_yes, cond_no, hub_is, batch_is, times_is, times-kept, place_at, among, pool_short, list_is, list_put}
use Rattle.simulation.proofs.Laws.{part-of}
use Rattle.simulation.proofs.FlushQueue.{length-joined, queue_sized, queue_held, queue_kept, ranges_few}
use Rattle.simulation.proofs.FlushRequeue.{requeued-is}
use Rattle.simulation.proofs.Moved.{moved_sim}

-- a list is as long as what passes a test and what does not
length-parts : (p : Range → Bool) (l : List Range) → length (filter p l) + length (filter (λ ρ. not (p ρ)) l) ≡ length l
unfolding filter
length-parts p [] = refl
length-parts p (x ∷ l) =
    let yes : List Range = filter p l in
    let no : List Range = filter (λ ρ. not (p ρ)) l in
    let h = length-parts p l in
    elim (p x) as (λ t. length (cond t (x ∷ yes) yes) + length (cond (not t) (x ∷ no) no) ≡ suc (length l))
    [ true ↦ omega arith | false ↦ omega arith ]

-- pools that are not empty are not more than their ranges
pools_ranges : (b : ℕ) (ps : List (List Range)) → All (λ l. (1 ≤ length l) × (length l ≤ b)) ps → length ps ≤ sum_by length ps
unfolding sum_by
pools_ranges b [] t = omega arith
pools_ranges b (p ∷ ps) t = omega (arith, t.0.0, pools_ranges b ps t.1)

may_cut_lem : (w m t k : ℕ) → w < 16 → m ≤ 256 → t ≤ 28 → k ≤ 64 → may_cut w m t k ≡ true
may_cut_lem w m t k a b c d = rw (lt-ltb w 16 a, le-leb m 256 b, le-leb t 28 c, le-leb k 64 d)

module _ (s : Store) (m : Memory) (w : ℕ) (l : List Range) (ts : List ℕ) (S : Sound s) (Z : Sized m) (B : Begins m.hub.window) (laid : m ≡ write s m) (wb : w < s.site.P)
    (e : (worker_at s w).doing ≡ Model.FlushRead l ts) (all : s.site.P < length ts) where
  abbrev d : Model.Doing
  d = Model.FlushRead l ts

  abbrev own : Model.Worker
  own = worker_at s w

  abbrev b : ℕ
  b = s.site.B

  abbrev stay : List Range
  stay = needed_of ts l

  abbrev go : List Range
  go = needless_of ts l

  abbrev pools : List (List Range)
  pools = s.queue ++ needed_pools b stay ++ queued_pool (merge own.pool (joining b stay))

  abbrev after : Model.Worker
  after = record { doing = Model.FlushFree go; announced = own.announced; pool = [] }

  within : PlaceIn s own.announced d
  within = place_at s S w wb d e

  stepped : step_at s w d ≡ record { store = with_queue (with_worker s w after) pools; answer = Model-as-Answer.Going }
  unfolding step_at flush_read flush_split
  stepped = cond_no (leb (length ts) s.site.P) _ _ (lt-leb (length ts) s.site.P all)

  ----------------------------------------------------------------------
  -- What is read from memory

  abbrev p : ℕ
  p = m.hub.site.p

  abbrev times : List ℕ
  times = m.hub.times

  abbrev local : Pool
  local = pool_rep own.pool

  abbrev listed : List Range
  listed = ranges_at (part_of m.merged w) 0 (length l)

  workers_is : p ≡ s.site.P
  workers_is = ap (λ (h : Hub). h.site.p) (hub_is s m laid)

  abbrev t : ℕ
  t = length ts

  -- all times are read
  read_all : t ≡ s.site.P + mark_count
  read_all = ⊎_elim (λ u. absurd (omega (arith, u, all))) (λ u. u) within.2

  read_is : take t (times_of times w) ≡ ts
  read_is =
      let own : times_read (worker_at s w).doing ≡ ts = ap times_read e in
      ap (take t)
      (part-of 28 (λ y. times_read y.doing) s.workers times w (omega (arith, Z.times, S.bounds.workers.1, S.bounds.workers.2))
      (among s S w wb) (times_is s m laid)
      ∙ ap (λ (l : List ℕ). over l (times_of times w)) own)
      ∙ take-over ts (times_of times w) t refl

  listed_is : listed ≡ l
  unfolding hand_words
  listed_is =
      ap (λ (z : List ℕ). ranges_at z 0 (length l)) (list_is s S w wb m Z laid d e (omega (arith, within.0, length-flat l)))
      ∙ ranges_at-over l (part_of m.merged w)

  go_is : needless_by m.merged w (length l) times t ≡ go
  go_is = ap₂ needless_of read_is listed_is

  gone_is : needless_count m.merged w (length l) times t ≡ length go
  gone_is = ap length go_is

  may : may_split w (length l) t local ≡ true
  may =
      let few = S.bounds.workers.1 in
      let c = S.bounds.batch.1 in
      may_cut_lem w (length l) t (length own.pool) (omega arith) within.0 (omega (arith, few, read_all)) (omega (arith, pool_short s S w wb))

  ----------------------------------------------------------------------
  -- The queue

  -- there is room: the ranges in hand, in the local pool and in the queue are all slots
  room : length (joined_ranges s.queue) + length stay + length own.pool < 2048
  room =
      let h : versions_held own ≤ sum_by versions_held s.workers = sum_by-one versions_held s.workers w start_worker (among s S w wb) in
      let i : in_hand (about own.doing).hand ≡ length l = ap (λ (d : Model.Doing). in_hand (about d).hand) e in
      let v = S.bounds.registers.0 in
      let n = S.bounds.slots.1 in
      omega (arith, ranges_few s S, length-parts (needed ts) l)

  queue_split : split_queue (queue_in m) m.merged w (length l) times t m.hub.site.batch local ≡ queue_rep pools (queue_in m)
  unfolding split_queue
  queue_split =
      let q : Queue = queue_in m in
      let stay-is : needed_by m.merged w (length l) times t ≡ stay = ap₂ needed_of read_is listed_is in
      let stays : length l - needless_count m.merged w (length l) times t ≡ length stay =
      ap (λ (k : ℕ). length l - k) gone_is ∙ omega (arith, length-parts (needed ts) l) in
      let some : length s.queue ≤ length (joined_ranges s.queue) =
      omega (arith, length-joined s.queue, pools_ranges (2 * b) s.queue S.bounds.queued) in
      let c = S.bounds.batch in
      cond_yes (may_split w (length l) t local) _ q may
      ∙ (λ i. requeued q local (over (flat (stay-is i)) (replicate 768 0)) (stays i) (batch_is s m laid i))
      ∙ requeued-is s.queue q own.pool stay b (queue_sized m Z) B (queue_held s m laid) some c.0 (omega (arith, pool_short s S w wb)) room

  ----------------------------------------------------------------------
  -- The record and the list in hand

  few : length go ≤ 256
  few = omega (arith, within.0, length-parts (needed ts) l)

  left_is : split_left m.merged w (length l) times t local ≡ length go
  unfolding split_left
  left_is = cond_yes (may_split w (length l) t local) _ 0 may ∙ ap short gone_is ∙ omega (arith, few)

  abbrev record_of : ℕ → Worker
  record_of n = record { doing = D.FlushFree n; announced = announced_rep own.announced; pool = pool_rep [] }

  merged_split : split_merged m.merged w (length l) times t local ≡ merged_over (set s.workers w after) m.merged
  unfolding split_merged hand_words
  merged_split =
      cond_yes (may_split w (length l) t local) _ m.merged may
      ∙ ap (λ (r : List Range). with_part m.merged w (over (flat (reverse r)) (part_of m.merged w))) go_is
      ∙ list_put s S w wb m Z laid after (omega (arith, few, length-flat (reverse go), length-reverse go))

  pub split_sim : Simulates s m w d
  unfolding go_in step_of next_in split_in
  split_sim =
      let less : ltb t p ≡ false = le-ltb t p (omega (arith, workers_is, all)) in
      let same : eqb t p ≡ false = ne_eqb t p (λ z. omega (arith, z, workers_is, all)) in
      moved_sim s m w S laid wb d e after pools Going _ _ times _ stepped
      (ap (next_in m w (record_at s w d)) (cond_no (ltb t p) (Read (length l) t) _ less ∙ cond_no (eqb t p) (ReadMarks (length l)) (Split (length l) t) same))
      (ap record_of left_is)
      (queue_kept s m pools _ (omega (
        arith,
        length-append (s.queue ++ needed_pools b stay) (queued_pool (merge own.pool (joining b stay))),
        length-append s.queue (needed_pools b stay),
      )) queue_split)
      (times-kept s S w wb m Z laid d after ts e refl) merged_split refl
