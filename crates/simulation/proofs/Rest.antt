-- Flush (5) and the step of an idle worker are the model's: no range is left and the worker is idle; a worker that is idle stays so.
use mathlib.Core.Path.{◌≡◌, refl, sym, ap, ◌∙◌}
use mathlib.Core.List.{List, []}
use Prim.Native.Nat.{ℕ, ◌<◌}
use lib.ListN.{set}
use lib.Seq.{set-get_or}
use Rattle.model.specs.Store as Model
use Rattle.model.specs.Store.{Store, start_worker, worker_at, with_workers, with_doing}
use Rattle.model.specs.Answer as Model-as-Answer
use Rattle.model.specs.Steps.{step_at, flush_free}
use Rattle.values.specs.declared.Answer.TheVariants.{Done, No}
use Rattle.step.specs.Step.{step_of}
use Rattle.simulation.specs.Memory.{Memory, hand_words, write}
use Rattle.simulation.specs.Left.{Sized}
use Rattle.simulation.proofs.Sound.{Sound}
use Rattle.simulation.proofs.Simulates.{Simulates}
use Rattle.simulation.proofs.Laid.{slots_is}
use Rattle.simulation.proofs.Kept.{kept_sim}

module _ (s : Store) (m : Memory) (w : ℕ) (S : Sound s) (Z : Sized m) (laid : m ≡ write s m) (wb : w < s.site.P) where
  pub idle_sim : (worker_at s w).doing ≡ Model.Idle → Simulates s m w Model.Idle
  unfolding step_of step_at hand_words
  idle_sim e =
      let same : s.workers ≡ set s.workers w (with_doing (worker_at s w) Model.Idle) =
      sym (set-get_or s.workers w start_worker) ∙ ap (λ (d : Model.Doing). set s.workers w (with_doing (worker_at s w) d)) e in
      kept_sim s m w Model.Idle S Z laid wb e Model.Idle (worker_at s w).announced s.clock s.slots (No 11) refl (slots_is s m laid)
      (ap (λ (l : List Model.Worker). record { store = with_workers s l; answer = Model-as-Answer.No 11 }) same) refl refl

  pub flush_done_sim : (worker_at s w).doing ≡ Model.FlushFree [] → Simulates s m w (Model.FlushFree [])
  unfolding step_of step_at flush_free hand_words
  flush_done_sim e =
      kept_sim s m w (Model.FlushFree []) S Z laid wb e Model.Idle (worker_at s w).announced s.clock s.slots Done refl
      (slots_is s m laid) refl refl refl
