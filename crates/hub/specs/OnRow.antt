-- What a call on a lent row of slots promises.
use Rattle.std.specs.Prelude.{◌≡◌, List, ℕ, drop}
use Rattle.model.specs.Rules.{Given}
use Rattle.values.specs.declared.Answer.{Answer}
use Rattle.simulation.specs.Memory.{Memory, cut}
use Rattle.simulation.specs.Public.{Does}
use Rattle.tables.specs.Tables.{GivesTable}
use Rattle.called.specs.declared.Called.{Called}
use Rattle.calls.specs.declared.Call.{Call}
use Rattle.calls.specs.declared.Call.TheVariants.{Record, Records, Give}
use Rattle.calls.specs.Calls.{Performed}

-- what is said of one record, or of a table, with the whole row
abbrev pub WithRow : Call → Memory → Given → List ℕ → Answer → Memory → Type 0
WithRow Record m given bytes y m' = Does m given bytes y m'
WithRow Records m given bytes y m' = Unit {0}
WithRow (Give table) m given bytes y m' = GivesTable table m bytes y m'

-- The call `what` on the memory m, whose row has any length: it keeps to the first 2048 slots (H8.7).
pub record OnRow (what : Call) (m : Memory) (given : Given) (bytes kinds numbers : List ℕ) (r : Called) (m' : Memory)
    (kinds' numbers' : List ℕ) : Type 0 where
  pub performed : Performed what (cut m) given bytes kinds numbers r (cut m') kinds' numbers'
  -- the rest of the row is as it was
  pub rest : drop 2048 m'.slots ≡ drop 2048 m.slots
  pub whole : WithRow what m given bytes r.answer m'
