-- What the call that gives a table promises, on the memory that is lent.
use Rattle.std.specs.Prelude.{◌≡◌, List, ℕ}
use Rattle.values.specs.declared.Answer.{Answer}
use Rattle.called.specs.declared.Called.{Called}
use Rattle.simulation.specs.Memory.{Memory}
use Rattle.simulation.specs.Tables.{Gives}
use Rattle.tables.specs.declared.Table.{Table}
use Rattle.tables.specs.declared.Table.TheVariants.{Rights}

-- a table of these bytes was given on the memory m, was answered y and left the memory m': by the table
abbrev pub GivesTable : Table → Memory → List ℕ → Answer → Memory → Type 0
GivesTable Rights m bytes y m' = Gives m bytes y m'

-- r was given back
pub record TableGiven (table : Table) (m : Memory) (bytes : List ℕ) (r : Called) (m' : Memory) : Type 0 where
  pub gives : GivesTable table m bytes r.answer m'
  -- no record was applied
  pub count : r.count ≡ 0
