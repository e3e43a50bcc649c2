-- Flush (1): the code's step is the model's. The two pools taken are the model's first two, merged they are at most 256 ranges, and the
-- window moves on to the rest of the queue.
use mathlib.Core.Path.{◌≡◌, refl, ap, ◌∙◌}
use mathlib.Core.List.{List, []}
use Prim.Native.Nat.{ℕ, ◌*◌, ◌≤◌, ◌<◌}
use native.Mathlib.Omega.{arith}
use lib.ListN.{length, set, drop}
use Rattle.lists.specs.Over.{over}
use Rattle.model.specs.Store as Model
use Rattle.model.specs.Store.{Store, Range, worker_at, with_doing}
use Rattle.model.specs.Ranges.{first_two}
use Rattle.model.specs.About.{about}
use Rattle.model.specs.Reached.{in_hand}
use Rattle.model.specs.Steps.{step_at, flush_take}
use Rattle.values.specs.declared.Answer.TheVariants.{Going}
use Rattle.arrays.specs.Arrays.{short}
use Rattle.worker.specs.declared.Worker.{Worker}
use Rattle.worker.specs.declared.Doing.TheVariants as D
use Rattle.worker.specs.Rep.{pool_rep, announced_rep, worker_rep}
use Rattle.ranges.specs.Words.{flat}
use Rattle.ranges.proofs.WordLaws.{length-flat}
use Rattle.queue.specs.State.{Queue, Begins, taken, rest}
use Rattle.queue.specs.Rep.{queue_rep, with_window, window_after}
use Rattle.queue.proofs.Rep.{take_rep}
use Rattle.step.specs.Step.{step_of}
use Rattle.flush.specs.Flush.{part_of, with_part}
use Rattle.simulation.specs.Memory.{Memory, hand_words, merged_over, write}
use Rattle.simulation.specs.Left.{Sized}
use Rattle.simulation.specs.Shell.{queue_in, took_in, next_in, go_in}
use Rattle.simulation.proofs.Sound.{Sound}
use Rattle.simulation.proofs.Simulates.{Simulates}
use Rattle.simulation.proofs.Laid.{all_set, among, times-kept, list_put}
use Rattle.simulation.proofs.FlushQueue.{queue_sized, queue_held, pools_few, ranges_few}
use Rattle.simulation.proofs.Moved.{moved_sim}

module _ (s : Store) (m : Memory) (w : ℕ) (S : Sound s) (Z : Sized m) (B : Begins m.hub.window) (laid : m ≡ write s m) (wb : w < s.site.P)
    (e : (worker_at s w).doing ≡ Model.FlushTake) (next : Sound (step_at s w Model.FlushTake).store) where
  abbrev two : List Range
  two = first_two s.queue

  abbrev after : Model.Worker
  after = with_doing (worker_at s w) (Model.FlushRead two [])

  abbrev q : Queue
  q = queue_in m

  few : length two ≤ 256
  unfolding step_at flush_take
  few =
      let z : in_hand (about after.doing).hand ≤ 4 * s.site.B =
      all_set (λ x. in_hand (about x.doing).hand ≤ 4 * s.site.B) s.workers w after (among s S w wb) next.bounds.merged in
      let b = S.bounds.batch.1 in
      omega arith

  took : (taken q ≡ two) × (rest q ≡ queue_rep (drop 2 s.queue) (with_window q (window_after s.queue (drop 2 s.queue) q.window)))
  took =
      let n = S.bounds.slots.1 in
      take_rep s.queue q (queue_sized m Z) B (queue_held s m laid) (omega (arith, pools_few s S)) (omega (arith, ranges_few s S)) few

  abbrev record_of : ℕ → Worker
  record_of n =
      record { doing = D.FlushRead n 0; announced = announced_rep (worker_at s w).announced; pool = pool_rep (worker_at s w).pool }

  record_is : record_of (short (length (taken q))) ≡ worker_rep after
  record_is = let n : short (length (taken q)) ≡ length two = rw took.0 (omega (arith, few)) in ap record_of n

  merged_is : with_part m.merged w (over (flat (taken q)) (part_of m.merged w)) ≡ merged_over (set s.workers w after) m.merged
  unfolding hand_words
  merged_is =
      ap (λ (l : List Range). with_part m.merged w (over (flat l) (part_of m.merged w))) took.0
      ∙ list_put s S w wb m Z laid after (omega (arith, few, length-flat two))

  pub flush_take-sim : Simulates s m w Model.FlushTake
  unfolding step_at flush_take go_in step_of next_in took_in
  flush_take-sim =
      moved_sim s m w S laid wb Model.FlushTake e after (drop 2 s.queue) Going _ (rest q) m.hub.times _ refl refl record_is took.1
      (times-kept s S w wb m Z laid Model.FlushTake after [] e refl) merged_is refl
