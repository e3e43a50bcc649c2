-- The theorems that rest on every step: the contracts of the public functions. Proved elsewhere for any proof that each step of the code is the
-- model's, and here for the one in proofs/Steps.antt.
use mathlib.Core.List.{List}
use Prim.Native.Nat.{ℕ}
use Rattle.model.specs.Rules.{Given}
use Rattle.simulation.specs.Memory.{Memory}
use Rattle.simulation.specs.Left.{Sized}
use Rattle.simulation.specs.Shell.{done_of}
use Rattle.simulation.specs.Public.{Does}
use Rattle.simulation.specs.Loop.{RanAll}
use Rattle.simulation.specs.Buffer.{Applies}
use Rattle.simulation.proofs.Bytes.{Bytes}
use Rattle.simulation.proofs.Assembly as Assembly
use Rattle.simulation.proofs.Applied as Applied
use Rattle.simulation.proofs.Steps.{steps}

-- for one record
pub does : (m : Memory) (given : Given) (b : List ℕ) → Sized m → Bytes b → Does m given b (done_of m given b).answer (done_of m given b).memory
does = Assembly.does steps

-- for a buffer
pub applies : (m : Memory) (given : Given) (bytes kinds numbers : List ℕ) (n : ℕ) (m' : Memory) (kinds' numbers' : List ℕ) → Sized m → Bytes bytes
    → RanAll m given bytes kinds numbers n m' kinds' numbers' → Applies m given bytes kinds numbers n m' kinds' numbers'
applies = Applied.applies steps
