-- Flush (2) and (3): the code's step is the model's, the reading of a worker's time while there is one left to read, that of all marks, and then
-- the split.
use mathlib.Core.Path.{◌≡◌}
use mathlib.Core.Logic.{⊎_elim}
use mathlib.Core.List.{List}
use Prim.Native.Nat.{ℕ, ◌<◌}
use native.Mathlib.Omega.{arith}
use lib.ListN.{length}
use Rattle.model.specs.Store as Model
use Rattle.model.specs.Store.{Store, Range, worker_at}
use Rattle.model.specs.Steps.{step_at}
use Rattle.model.proofs.Basic.{eq_cases, lt_cases}
use Rattle.queue.specs.State.{Begins}
use Rattle.simulation.specs.Memory.{Memory, write}
use Rattle.simulation.specs.Left.{Sized}
use Rattle.simulation.proofs.Sound.{Sound}
use Rattle.simulation.proofs.Simulates.{Simulates}
use Rattle.simulation.proofs.FlushReadTime.{read_time_sim}
use Rattle.simulation.proofs.FlushReadMarks.{read_marks_sim}
use Rattle.simulation.proofs.FlushSplit.{split_sim}

pub flush_read-sim : (s : Store) (m : Memory) (w : ℕ) (l : List Range) (ts : List ℕ) → Sound s → Sized m → Begins m.hub.window → m ≡ write s m → w < s.site.P
    → (worker_at s w).doing ≡ Model.FlushRead l ts → Sound (step_at s w (Model.FlushRead l ts)).store → Simulates s m w (Model.FlushRead l ts)
flush_read-sim s m w l ts S Z B laid wb e next =
    ⊎_elim (λ h. read_time_sim s m w l ts S Z laid wb e h.0)
    (λ h. ⊎_elim (λ u. read_marks_sim s m w l ts S Z laid wb e u.0) (λ u. split_sim s m w l ts S Z B laid wb e (omega (arith, h.0, u.0)))
    (eq_cases (length ts) s.site.P))
    (lt_cases (length ts) s.site.P)
