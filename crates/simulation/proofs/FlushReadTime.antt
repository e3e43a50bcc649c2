-- Flush (2): the code's step is the model's. The announced time that is read joins the times in the worker's record as it joins the list.
use mathlib.Core.Path.{◌≡◌, refl, sym, ap, ◌∙◌}
use mathlib.Core.Bool.{true, cond}
use mathlib.Core.Logic.{◌⊎◌, inl, inr}
use mathlib.Core.List.{List, [], ◌∷◌, ◌++◌, append-nil}
use Prim.Native.Nat.{ℕ, ◌+◌, ◌*◌, ◌<◌, ◌%◌}
use native.Mathlib.Omega.{arith}
use lib.Dec.{ltb, leb}
use lib.ListN.{length, set, length-append}
use borrow.Author.Tests.{lt-ltb, le-leb}
use Rattle.model.specs.Store as Model
use Rattle.model.specs.Store.{Store, Range, absent, last_clock, worker_at, with_worker, with_doing}
use Rattle.model.specs.Answer as Model-as-Answer
use Rattle.model.specs.Steps.{step_at, flush_read, flush_split, read_times}
use Rattle.values.specs.declared.Answer.TheVariants.{Going}
use Rattle.worker.specs.declared.Worker.{Worker}
use Rattle.worker.specs.declared.Doing.TheVariants as D
use Rattle.worker.specs.Rep.{times_read, pool_rep, announced_rep, time_of}
use Rattle.ranges.specs.Words.{flat}
use Rattle.state.specs.declared.Hub.{Hub}
use Rattle.state.specs.State.{worker_in}
use Rattle.step.specs.declared.Next.TheVariants.{Read}
use Rattle.step.specs.Step.{step_of}
use Rattle.flush.specs.Flush.{flush_read_step}
use Rattle.simulation.specs.Memory.{Memory, times_over, hand_words, merged_over, write}
use Rattle.simulation.specs.Left.{Sized}
use Rattle.simulation.specs.Shell.{queue_in, read_in, next_in, go_in}
use Rattle.simulation.proofs.Laws.{worker_in_lem, part_more}
use Rattle.simulation.proofs.Sound.{Sound}
use Rattle.simulation.proofs.Simulates.{Simulates, record_at}
use Rattle.simulation.proofs.Laid.{cond_yes, hub_is, times_is, among, list-kept}
use Rattle.simulation.proofs.FlushQueue.{queue_held, queue_kept}
use Rattle.simulation.proofs.Moved.{moved_sim}

-- an announced time, and none, is read from memory
time_read : (t : ℕ) → (t ≡ absent) ⊎ (t < last_clock) → time_of (announced_rep t) ≡ t
time_read t (inl e) = rw e
time_read t (inr h) = rw (lt-ltb t absent (omega arith))

module _ (s : Store) (m : Memory) (w : ℕ) (l : List Range) (ts : List ℕ) (S : Sound s) (Z : Sized m) (laid : m ≡ write s m) (wb : w < s.site.P)
    (e : (worker_at s w).doing ≡ Model.FlushRead l ts) (more : length ts < s.site.P) where
  abbrev d : Model.Doing
  d = Model.FlushRead l ts

  abbrev k : ℕ
  k = length ts

  abbrev time : ℕ
  time = (worker_at s k).announced

  abbrev after : Model.Worker
  after = with_doing (worker_at s w) (Model.FlushRead l (ts ++ (time ∷ [])))

  time_is : time_of (worker_in m.hub k).announced ≡ time
  time_is =
      ap (λ (h : Hub). time_of (worker_in h k).announced) (hub_is s m laid)
      ∙ ap (λ (y : Worker). time_of y.announced) (worker_in_lem s k S.bounds.workers.2 S.bounds.workers.1 more)
      ∙ time_read time (S.announced k more)

  times_are : flush_read_step m.hub.times w k (worker_in m.hub (k % 16)).announced ≡ times_over (set s.workers w after) m.hub.times
  times_are =
      let few = S.bounds.workers.1 in
      let j : k % 16 ≡ k = omega arith in
      let own : times_read (worker_at s w).doing ≡ ts = ap times_read e in
      ap (λ (i : ℕ). set m.hub.times (28 * w + i) (time_of (worker_in m.hub i).announced)) j
      ∙ ap (set m.hub.times (28 * w + k)) time_is
      ∙ ap (λ (i : ℕ). set m.hub.times (28 * w + i) time) (sym (ap length own))
      ∙ part_more 28 (λ y. times_read y.doing) s.workers m.hub.times w after time
      (omega (arith, Z.times, S.bounds.workers.1, S.bounds.workers.2)) (among s S w wb) (omega (arith, ap length own))
      (ap (λ (z : List ℕ). z ++ (time ∷ [])) (sym own)) (times_is s m laid)

  abbrev record_of : ℕ → Worker
  record_of j = record { doing = D.FlushRead (length l) j; announced = announced_rep (worker_at s w).announced; pool = pool_rep (worker_at s w).pool }

  stepped : step_at s w d ≡ record { store = with_worker s w after; answer = Model-as-Answer.Going }
  unfolding step_at flush_read read_times
  stepped =
      cond_yes (leb k s.site.P)
      (record {
        store = with_worker s w (with_doing (worker_at s w) (Model.FlushRead l (ts ++ cond (ltb k s.site.P) (time ∷ []) s.marks)));
        answer = Model-as-Answer.Going;
      })
      (flush_split s w l ts) (le-leb k s.site.P (omega (arith, more)))
      ∙ ap (λ (z : List ℕ). record { store = with_worker s w (with_doing (worker_at s w) (Model.FlushRead l (ts ++ z))); answer = Model-as-Answer.Going })
      (cond_yes (ltb k s.site.P) (time ∷ []) s.marks (lt-ltb k s.site.P more))

  -- the merged list is the same
  kept : m.merged ≡ merged_over (set s.workers w after) m.merged
  unfolding hand_words
  kept = list-kept s S w wb m Z laid d after [] e (sym (append-nil (flat l)))

  pub read_time_sim : Simulates s m w d
  unfolding go_in step_of next_in read_in
  read_time_sim =
      let test : ltb k m.hub.site.p ≡ true = ap (λ (h : Hub). ltb k h.site.p) (hub_is s m laid) ∙ lt-ltb k s.site.P more in
      moved_sim s m w S laid wb d e after s.queue Going _ (queue_in m) _ m.merged stepped
      (ap (next_in m w (record_at s w d)) (cond_yes (ltb k m.hub.site.p) (Read (length l) k) _ test))
      (ap record_of (sym (length-append ts (time ∷ [])))) (queue_kept s m s.queue (queue_in m) (omega arith) (queue_held s m laid)) times_are kept refl
