-- What it means that the code does with a record what the model does, and a refused record: it changes nothing.
use mathlib.Core.Path.{◌≡◌, refl}
use Prim.Native.Nat.{ℕ}
use Rattle.model.specs.Rules.{Given}
use Rattle.model.specs.Store as Model
use Rattle.model.specs.Answer.{Applied}
use Rattle.model.specs.Apply.{refuse}
use Rattle.values.specs.Meaning.{answer_of}
use Rattle.gate.specs.Gate.{Decided}
use Rattle.std.specs.Prelude.{Err as Refuse}
use Rattle.simulation.specs.Memory.{Memory, write_hub}
use Rattle.simulation.specs.Shell.{obey_in}

-- what the model makes of a record, a, on the hub h, is what the code leaves and answers that carries out the decision g on the memory m,
-- with the list lent
pub record Follows (given : Given) (h : Model.Hub) (m : Memory) (g : Decided) (a : Applied) : Type 0 where
  pub memory : (obey_in m given g).memory ≡ write_hub h a.hub m
  pub answer : answer_of (obey_in m given g).answer ≡ a.answer

-- refusal k, of a hub of the model that lies in the memory
pub refused : {given : Given} (h : Model.Hub) (m : Memory) (k : ℕ) → m ≡ write_hub h h m → Follows given h m (Refuse k) (refuse h k)
unfolding obey_in
refused h m k laid = record { memory = laid; answer = refl }
