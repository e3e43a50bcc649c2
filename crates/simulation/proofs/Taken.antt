-- A step that is taken at once, in memory and in the model: where the code's outcome is that of the model's next store, the step is the model's.
-- Every part that the step leaves is what it was, and the worker's record is the model's in memory.
use mathlib.Core.Path.{◌≡◌, refl, ap, ◌∙◌}
use mathlib.Core.List.{List, [], ◌++◌, map, reverse}
use Prim.Native.Nat.{ℕ, ◌<◌}
use lib.ListN.{length}
use native.Mathlib.Omega.{arith}
use Rattle.lists.specs.Over.{over}
use Rattle.model.specs.Store as Model
use Rattle.model.specs.Store.{Store, worker_at, with_clock, with_slots, with_newest, with_free, with_worker}
use Rattle.model.specs.Steps.{step_at}
use Rattle.values.specs.Meaning.{answer_of}
use Rattle.values.specs.declared.Answer.{Answer}
use Rattle.slots.specs.Slots.{slot_rep}
use Rattle.worker.specs.declared.Worker.{Worker}
use Rattle.worker.specs.Rep.{doing_rep, announced_rep, pool_rep, times_read, worker_rep}
use Rattle.state.specs.declared.Hub.{Hub}
use Rattle.state.specs.State.{with_worker_in, with_clock_in, with_free_in, with_reading_in}
use Rattle.step.specs.declared.Next.TheVariants.{Taken}
use Rattle.announcing.specs.Announcing.{outcome_of}
use Rattle.simulation.specs.Memory.{Memory, hub_rep, in_hand_words, write}
use Rattle.simulation.specs.Left.{Sized}
use Rattle.simulation.specs.Shell.{read_after, taken_in, next_in, finish_in, step_at_in, go_in}
use Rattle.simulation.proofs.Sound.{Sound}
use Rattle.simulation.proofs.Simulates.{Simulates, record_at, simulated}
use Rattle.simulation.proofs.Laid.{write_kept, memory-path, hub_is, queue_is, lens_is, worker-taken, list-kept}

-- the store with worker w's record, the clock, the slots, the newest versions and the free slots replaced
abbrev pub after : Store → ℕ → Model.Worker → ℕ → List Model.Slot → List ℕ → List ℕ → Store
after s w x k l newest free = with_free (with_newest (with_slots (with_clock (with_worker s w x) k) l) newest) free

-- The step at the place d leaves worker w's record x, the clock k, the slots l, the newest versions and the free slots, and answers y.
pub record Takes (s : Store) (m : Memory) (w : ℕ) (d : Model.Doing) (x : Model.Worker) (k : ℕ) (l : List Model.Slot) (newest free : List ℕ)
    (y : Answer) : Type 0 where
  pub code : step_at_in m (record_at s w d) (doing_rep d)
      ≡ record {
        next = Taken (outcome_of (doing_rep x.doing) (announced_rep x.announced) k (length free) y);
        row = over (map slot_rep l) m.slots;
        newest = over newest m.newest;
      }
  pub model : step_at s w d ≡ record { store = after s w x k l newest free; answer = answer_of y }
  pub pool : (worker_at s w).pool ≡ x.pool
  pub times : times_read d ≡ times_read x.doing ++ []
  pub words : in_hand_words d ≡ in_hand_words x.doing ++ []
  pub free_kept : m.free ≡ over (reverse free) m.free

module _ (s : Store) (m : Memory) (w : ℕ) (d : Model.Doing) (S : Sound s) (Z : Sized m) (laid : m ≡ write s m) (wb : w < s.site.P)
    (e : (worker_at s w).doing ≡ d) where
  pub taken-sim : (x : Model.Worker) (k : ℕ) (l : List Model.Slot) (newest free : List ℕ) (y : Answer)
      → Takes s m w d x k l newest free y → Simulates s m w d
  unfolding go_in next_in taken_in
  taken-sim x k l newest free y T =
      let X : Worker = record_at s w d in
      let left : Hub → Worker → Hub = λ h z.
      with_free_in (with_clock_in (with_reading_in (with_worker_in h w z) (read_after h w X (doing_rep x.doing))) k) (length free) in
      let Y : Worker = record { doing = doing_rep x.doing; announced = announced_rep x.announced; pool = X.pool } in
      let record_is : Y ≡ worker_rep x = λ i. record {
        doing = doing_rep x.doing;
        announced = announced_rep x.announced;
        pool = pool_rep (T.pool i);
      } in
      simulated s m w d S laid wb e _ _ T.model (ap (finish_in m w X) T.code)
      (memory-path
      (ap (λ (h : Hub). left h Y) (hub_is s m laid)
      ∙ ap (left (hub_rep s m.hub)) record_is
      ∙ ap (λ (h : Hub). with_free_in (with_clock_in h k) (length free)) (worker-taken s S w wb m Z laid d x [] e T.times))
      refl refl T.free_kept (queue_is s m laid) (lens_is s m laid)
      (list-kept s S w wb m Z laid d x [] e T.words)
      ∙ write_kept s (after s w x k l newest free) m (omega arith))
      refl
