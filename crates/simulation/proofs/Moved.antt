-- A step that leaves the slots, the newest versions and the free slots as they are: put (3) and flush (1) to (3). Where the code leaves worker
-- w's record, the queue and the merged lists of the model's next store, the step is the model's.
use mathlib.Core.Path.{◌≡◌, refl, sym, ap, ◌∙◌}
use mathlib.Core.List.{List}
use Prim.Native.Nat.{ℕ, ◌<◌}
use lib.ListN.{set}
use Rattle.model.specs.Store as Model
use Rattle.model.specs.Store.{Store, Range, worker_at, with_worker, with_queue}
use Rattle.model.specs.Steps.{step_at}
use Rattle.values.specs.Meaning.{answer_of}
use Rattle.values.specs.declared.Answer.{Answer}
use Rattle.worker.specs.declared.Worker.{Worker}
use Rattle.worker.specs.Rep.{doing_rep, worker_rep}
use Rattle.marks.specs.Marks.{read_by}
use Rattle.queue.specs.State.{Queue}
use Rattle.queue.specs.Rep.{queue_rep, with_window, window_after}
use Rattle.state.specs.declared.Hub.{Hub}
use Rattle.state.specs.State.{with_worker_in, with_window_in, with_times_in}
use Rattle.simulation.specs.Memory.{Memory, times_over, read_of, hub_rep, merged_over, write}
use Rattle.simulation.specs.Shell.{queue_in, go_in}
use Rattle.simulation.proofs.Laws.{worker_same}
use Rattle.simulation.proofs.Sound.{Sound}
use Rattle.simulation.proofs.Simulates.{Simulates, record_at, simulated}
use Rattle.simulation.proofs.Laid.{memory-path, hub_is, slots_is, newest_is, free_is}

-- the hub by value with worker w's record, the queue's window and the times replaced
abbrev pub moved_hub : Hub → ℕ → Worker → Queue → List ℕ → Hub
moved_hub h w x q ts = with_times_in (with_window_in (with_worker_in h w x) q.window) ts

-- the memory with worker w's record, the queue, the times and the merged lists replaced
abbrev pub moved_in : Memory → ℕ → Worker → Queue → List ℕ → List ℕ → Memory
moved_in m w x q ts merged =
    record {
      hub = moved_hub m.hub w x q ts;
      slots = m.slots;
      newest = m.newest;
      free = m.free;
      queue = q.queue;
      lens = q.lens;
      merged = merged;
    }

module _ (s : Store) (m : Memory) (w : ℕ) (S : Sound s) (laid : m ≡ write s m) (wb : w < s.site.P) where
  -- the code leaves the record X, the queue q, the times ts and the merged lists g, the model the worker x and the pools ps
  pub moved_sim : (d : Model.Doing) → (worker_at s w).doing ≡ d
      → (x : Model.Worker) (ps : List (List Range)) (y : Answer) (X : Worker) (q : Queue) (ts g : List ℕ)
      → step_at s w d ≡ record { store = with_queue (with_worker s w x) ps; answer = answer_of y }
      → go_in m w (record_at s w d) (doing_rep d) ≡ record { memory = moved_in m w X q ts g; answer = y }
      → X ≡ worker_rep x → q ≡ queue_rep ps (with_window (queue_in m) (window_after s.queue ps m.hub.window))
      → ts ≡ times_over (set s.workers w x) m.hub.times → g ≡ merged_over (set s.workers w x) m.merged
      → read_of x ≡ read_by (doing_rep d) → Simulates s m w d
  moved_sim d e x ps y X q ts g model code own queue times merged reads =
      simulated s m w d S laid wb e _ _ model code
      (memory-path
      (ap (λ (z : Worker). moved_hub m.hub w z q ts) own
      ∙ ap (λ (h : Hub). moved_hub h w (worker_rep x) q ts) (hub_is s m laid)
      ∙ ap (λ (h : Hub). with_times_in (with_window_in h q.window) ts)
      (worker_same s m.hub w x S.bounds.workers.2 S.bounds.workers.1 wb
      (reads ∙ ap (λ (z : Model.Doing). read_by (doing_rep z)) (sym e)))
      ∙ (λ i. with_times_in (with_window_in (hub_rep (with_worker s w x) m.hub) (queue i).window) (times i)))
      (slots_is s m laid) (newest_is s m laid) (free_is s m laid) (ap (λ (z : Queue). z.queue) queue) (ap (λ (z : Queue). z.lens) queue) merged)
      refl
