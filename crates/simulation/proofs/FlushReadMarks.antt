-- Flush (2), behind the last worker: the code's step is the model's. The times of all marks join those of the workers, in the worker's part of the
-- times as on the list.
use mathlib.Core.Path.{◌≡◌, refl, sym, ap, ◌∙◌}
use mathlib.Core.Bool.{true, false, cond}
use mathlib.Core.List.{List, [], ◌∷◌, ◌++◌, append-nil}
use Prim.Native.Nat.{ℕ, ◌+◌, ◌*◌, ◌%◌, ◌<◌}
use native.Mathlib.Nat.{mod-eq_of_lt}
use native.Mathlib.Omega.{arith}
use lib.Dec.{ltb, leb, eqb}
use lib.ListN.{length, set, length-append}
use borrow.Author.Tests.{le-ltb, le-leb, eq-eqb}
use Rattle.lists.specs.Over.{over_at}
use Rattle.model.specs.Store as Model
use Rattle.model.specs.Store.{Store, Range, mark_count, worker_at, with_worker, with_doing}
use Rattle.model.specs.Answer as Model-as-Answer
use Rattle.model.specs.Steps.{step_at, flush_read, flush_split, read_times}
use Rattle.values.specs.declared.Answer.TheVariants.{Going}
use Rattle.worker.specs.declared.Worker.{Worker}
use Rattle.worker.specs.declared.Doing.TheVariants as D
use Rattle.worker.specs.Rep.{times_read, pool_rep, announced_rep}
use Rattle.ranges.specs.Words.{flat}
use Rattle.state.specs.declared.Hub.{Hub}
use Rattle.step.specs.declared.Next.TheVariants.{Read, ReadMarks, Split}
use Rattle.step.specs.Step.{step_of}
use Rattle.simulation.specs.Memory.{Memory, times_over, hand_words, merged_over, write}
use Rattle.simulation.specs.Left.{Sized}
use Rattle.simulation.specs.Shell.{queue_in, all_read_in, next_in, go_in}
use Rattle.simulation.proofs.Laws.{part_joined}
use Rattle.simulation.proofs.Sound.{Sound}
use Rattle.simulation.proofs.Simulates.{Simulates, record_at}
use Rattle.simulation.proofs.Laid.{cond_yes, cond_no, hub_is, times_is, marks_is, among, list-kept}
use Rattle.simulation.proofs.FlushQueue.{queue_held, queue_kept}
use Rattle.simulation.proofs.Moved.{moved_sim}

module _ (s : Store) (m : Memory) (w : ℕ) (l : List Range) (ts : List ℕ) (S : Sound s) (Z : Sized m) (laid : m ≡ write s m) (wb : w < s.site.P)
    (e : (worker_at s w).doing ≡ Model.FlushRead l ts) (all : length ts ≡ s.site.P) where
  abbrev d : Model.Doing
  d = Model.FlushRead l ts

  abbrev k : ℕ
  k = length ts

  abbrev after : Model.Worker
  after = with_doing (worker_at s w) (Model.FlushRead l (ts ++ s.marks))

  workers_is : m.hub.site.p ≡ k
  workers_is = ap (λ (h : Hub). h.site.p) (hub_is s m laid) ∙ sym all

  times_are : over_at (28 * w + m.hub.site.p) m.hub.marks m.hub.times ≡ times_over (set s.workers w after) m.hub.times
  times_are =
      let few = S.bounds.workers.1 in
      let own : times_read (worker_at s w).doing ≡ ts = ap times_read e in
      (λ i. over_at (28 * w + (workers_is ∙ sym (ap length own)) i) (marks_is s m laid i) m.hub.times)
      ∙ part_joined 28 (λ y. times_read y.doing) s.workers m.hub.times w after s.marks
      (omega (arith, Z.times, S.bounds.workers.1, S.bounds.workers.2)) (among s S w wb) (omega (arith, ap length own, all, S.marks))
      (ap (λ (z : List ℕ). z ++ s.marks) (sym own)) (times_is s m laid)

  abbrev record_of : ℕ → Worker
  record_of j = record { doing = D.FlushRead (length l) j; announced = announced_rep (worker_at s w).announced; pool = pool_rep (worker_at s w).pool }

  read_is : (m.hub.site.p + 12) % 256 ≡ length (ts ++ s.marks)
  read_is =
      let few = S.bounds.workers.1 in
      let n : length (ts ++ s.marks) ≡ k + 12 = length-append ts s.marks ∙ ap (λ (j : ℕ). k + j) S.marks in
      let small : (m.hub.site.p + 12) % 256 ≡ m.hub.site.p + 12 = mod-eq_of_lt (omega (arith, workers_is, all)) in
      small ∙ omega (arith, workers_is, n)

  stepped : step_at s w d ≡ record { store = with_worker s w after; answer = Model-as-Answer.Going }
  unfolding step_at flush_read read_times
  stepped =
      cond_yes (leb k s.site.P)
      (record {
        store = with_worker s w (with_doing (worker_at s w) (Model.FlushRead l (ts ++ cond (ltb k s.site.P) ((worker_at s k).announced ∷ []) s.marks)));
        answer = Model-as-Answer.Going;
      })
      (flush_split s w l ts) (le-leb k s.site.P (omega (arith, all)))
      ∙ ap (λ (z : List ℕ). record { store = with_worker s w (with_doing (worker_at s w) (Model.FlushRead l (ts ++ z))); answer = Model-as-Answer.Going })
      (cond_no (ltb k s.site.P) ((worker_at s k).announced ∷ []) s.marks (le-ltb k s.site.P (omega (arith, all))))

  -- the merged list is the same
  kept : m.merged ≡ merged_over (set s.workers w after) m.merged
  unfolding hand_words
  kept = list-kept s S w wb m Z laid d after [] e (sym (append-nil (flat l)))

  pub read_marks_sim : Simulates s m w d
  unfolding go_in step_of next_in all_read_in
  read_marks_sim =
      let less : ltb k m.hub.site.p ≡ false = le-ltb k m.hub.site.p (omega (arith, workers_is)) in
      let same : eqb k m.hub.site.p ≡ true = eq-eqb k m.hub.site.p (sym workers_is) in
      moved_sim s m w S laid wb d e after s.queue Going _ (queue_in m) _ m.merged stepped
      (ap (next_in m w (record_at s w d))
      (cond_no (ltb k m.hub.site.p) (Read (length l) k) _ less ∙ cond_yes (eqb k m.hub.site.p) (ReadMarks (length l)) (Split (length l) k) same))
      (ap record_of read_is)
      (queue_kept s m s.queue (queue_in m) (omega arith) (queue_held s m laid)) times_are kept refl
