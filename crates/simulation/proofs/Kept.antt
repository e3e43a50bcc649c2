-- A step that is taken at once and leaves the newest versions and the free slots, as all such steps do but a put that takes a slot. What is to be
-- shown of it is its outcome with the store's numbers, and the row that it leaves.
use mathlib.Core.Path.{◌≡◌, refl, ◌∙◌}
use mathlib.Core.List.{List, [], ◌++◌, map}
use Prim.Native.Nat.{ℕ, ◌<◌}
use lib.ListN.{length}
use Rattle.lists.specs.Over.{over}
use Rattle.model.specs.Store as Model
use Rattle.model.specs.Store.{Store, worker_at}
use Rattle.model.specs.Steps.{step_at}
use Rattle.values.specs.Meaning.{answer_of}
use Rattle.values.specs.declared.Answer.{Answer}
use Rattle.slots.specs.declared.Slot.{Slot}
use Rattle.slots.specs.Slots.{slot_rep}
use Rattle.worker.specs.Rep.{doing_rep, announced_rep, times_read}
use Rattle.step.specs.declared.Next.TheVariants.{Taken}
use Rattle.announcing.specs.Announcing.{outcome_of}
use Rattle.simulation.specs.Memory.{Memory, in_hand_words, write}
use Rattle.simulation.specs.Left.{Sized}
use Rattle.simulation.proofs.Sound.{Sound}
use Rattle.simulation.proofs.Simulates.{Simulates}
use Rattle.simulation.proofs.Laid.{newest_is, free_is}
use Rattle.simulation.proofs.Taken.{after, taken-sim}
use Rattle.simulation.proofs.Found.{step_found, step_is}

module _ (s : Store) (m : Memory) (w : ℕ) (d : Model.Doing)
    (S : Sound s) (Z : Sized m) (laid : m ≡ write s m) (wb : w < s.site.P) (e : (worker_at s w).doing ≡ d) where
  -- worker w goes to the place d' with the time t, and the clock is k
  pub kept_sim : (d' : Model.Doing) (t k : ℕ) (l : List Model.Slot) (y : Answer) {row : List Slot}
      → step_found s m w d ≡ record { next = Taken (outcome_of (doing_rep d') (announced_rep t) k (length s.free) y); row = row; newest = m.newest }
      → row ≡ over (map slot_rep l) m.slots
      → step_at s w d
      ≡ record { store = after s w (record { doing = d'; announced = t; pool = (worker_at s w).pool }) k l s.newest s.free; answer = answer_of y }
      → times_read d ≡ times_read d' ++ [] → in_hand_words d ≡ in_hand_words d' ++ [] → Simulates s m w d
  kept_sim d' t k l y found slots model times words =
      let x : Model.Worker = record { doing = d'; announced = t; pool = (worker_at s w).pool } in
      taken-sim s m w d S Z laid wb e x k l s.newest s.free y
      (record {
        code =
            step_is s m S laid w d
            ∙ found
            ∙ λ i. record {
              next = Taken (outcome_of (doing_rep d') (announced_rep t) k (length s.free) y);
              row = slots i;
              newest = newest_is s m laid i;
            };
        model = model;
        pool = refl;
        times = times;
        words = words;
        free_kept = free_is s m laid;
      })
