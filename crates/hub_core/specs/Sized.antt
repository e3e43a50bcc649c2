-- The loop, on memory whose arrays are as long as their types say.
use Rattle.std.specs.Prelude.{ℕ, List}
use Rattle.model.specs.Rules.{Given}
use Rattle.values.specs.declared.Answer.{Answer}
use Rattle.simulation.specs.Memory.{Memory}
use Rattle.simulation.specs.Left.{Sized}
use Rattle.simulation.specs.Loop.{Ran}

-- it ran for n records, and y is the last answer
pub record RanSized (m : Memory) (given : Given) (bytes kinds numbers : List ℕ) (n : ℕ) (m' : Memory) (kinds' numbers' : List ℕ)
    (y : Answer) : Type 0 where
  pub sized : Sized m
  pub ran : Ran m given bytes kinds numbers n m' kinds' numbers' y
