-- What the calls for records promise, on the memory that is lent: one record, and the records of a buffer.
use Rattle.std.specs.Prelude.{◌≡◌, ℕ, List}
use Rattle.model.specs.Rules.{Given}
use Rattle.values.specs.declared.Answer.TheVariants.{Ok}
use Rattle.called.specs.declared.Called.{Called}
use Rattle.simulation.specs.Memory.{Memory}
use Rattle.simulation.specs.Left.{Sized}
use Rattle.simulation.specs.Shell.{done_of}
use Rattle.simulation.specs.Public.{Does}
use Rattle.simulation.specs.Buffer.{Applies}

-- A record of the bytes b, with what is given for a setup, met the memory m; r was given back, and the memory m' was left.
pub record OneApplied (m : Memory) (given : Given) (b : List ℕ) (r : Called) (m' : Memory) : Type 0 where
  -- the arrays are as long as their types say
  pub sized : Sized m
  pub does : Does m given b r.answer m'
  -- what is done and answered, in the words of the code
  pub memory : m' ≡ (done_of m given b).memory
  pub answer : r.answer ≡ (done_of m given b).answer
  pub count : r.count ≡ 1

-- The records of the bytes met the memory m, as many as there is room for; r was given back, and the memory m' and the two rows were left.
pub record AllApplied (m : Memory) (given : Given) (bytes kinds numbers : List ℕ) (r : Called) (m' : Memory)
    (kinds' numbers' : List ℕ) : Type 0 where
  pub sized : Sized m
  pub applies : Applies m given bytes kinds numbers r.count m' kinds' numbers'
  -- the answers stand in the rows
  pub answer : r.answer ≡ Ok
