-- What it means that the code's step is the model's step: on memory in which a store lies, the code leaves the model's next store written over
-- the memory, and gives the model's answer.
use mathlib.Core.Path.{◌≡◌, sym, ap, ◌∙◌}
use Prim.Native.Nat.{ℕ, ◌<◌}
use Rattle.model.specs.Store as Model
use Rattle.model.specs.Store.{Store, up, worker_at, with_doing}
use Rattle.model.specs.Answer.{Stepped}
use Rattle.model.specs.Steps.{step_at}
use Rattle.values.specs.Meaning.{answer_of}
use Rattle.worker.specs.declared.Worker.{Worker}
use Rattle.worker.specs.Rep.{doing_rep, worker_rep}
use Rattle.state.specs.State.{worker_in}
use Rattle.simulation.specs.Memory.{Memory, write, write_hub, Result}
use Rattle.simulation.specs.Shell.{go_in}
use Rattle.simulation.proofs.Laws.{worker_in_lem}
use Rattle.simulation.proofs.Sound.{Sound}

-- the code's step of worker w at the place d
abbrev pub step_in : Memory → ℕ → Model.Doing → Result
step_in m w d = go_in m w (worker_in m.hub w) (doing_rep d)

pub record Simulates (s : Store) (m : Memory) (w : ℕ) (d : Model.Doing) : Type 0 where
  pub memory : (step_in m w d).memory ≡ write_hub (up s) (up (step_at s w d).store) m
  pub answer : answer_of (step_in m w d).answer ≡ (step_at s w d).answer

-- the record that the step finds: the model's, at the place d
abbrev pub record_at : Store → ℕ → Model.Doing → Worker
record_at s w d = worker_rep (with_doing (worker_at s w) d)

-- enough: what the model's step is known to be, what the code's is with the model's record, and that the one is the other
pub simulated : (s : Store) (m : Memory) (w : ℕ) (d : Model.Doing) → Sound s → m ≡ write s m → w < s.site.P → (worker_at s w).doing ≡ d
    → (t : Stepped) (r : Result) → step_at s w d ≡ t → go_in m w (record_at s w d) (doing_rep d) ≡ r
    → r.memory ≡ write_hub (up s) (up t.store) m → answer_of r.answer ≡ t.answer → Simulates s m w d
simulated s m w d S laid wb e t r et er p q =
    let found : worker_in m.hub w ≡ record_at s w d =
    ap (λ (x : Memory). worker_in x.hub w) laid
    ∙ worker_in_lem s w S.bounds.workers.2 S.bounds.workers.1 wb
    ∙ ap (λ (y : Model.Doing). worker_rep (with_doing (worker_at s w) y)) e in
    let does : step_in m w d ≡ r = ap (λ (x : Worker). go_in m w x (doing_rep d)) found ∙ er in
    record {
      memory = ap (λ (z : Result). z.memory) does ∙ p ∙ ap (λ (z : Stepped). write_hub (up s) (up z.store) m) (sym et);
      answer = ap (λ (z : Result). answer_of z.answer) does ∙ q ∙ ap (λ (z : Stepped). z.answer) (sym et);
    }
