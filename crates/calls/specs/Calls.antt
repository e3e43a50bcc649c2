-- What a call promises on the memory that is lent, by what it asks.
use Rattle.std.specs.Prelude.{◌≡◌, List, ℕ}
use Rattle.model.specs.Rules.{Given}
use Rattle.simulation.specs.Memory.{Memory}
use Rattle.simulation.specs.Demands as Demands
use Rattle.simulation.specs.Demands.{CallIn, ForRecord, ForRecords, ForTable}
use Rattle.called.specs.declared.Called.{Called}
use Rattle.records.specs.Records.{OneApplied, AllApplied}
use Rattle.tables.specs.declared.Table.TheVariants.{Rights}
use Rattle.tables.specs.Tables.{TableGiven}
use Rattle.calls.specs.declared.Call.{Call}
use Rattle.calls.specs.declared.Call.TheVariants.{Record, Records, Give}

-- By what is asked. A call that answers no list of records leaves the two rows as they were.
abbrev pub DoneBy : Call → Memory → Given → List ℕ → List ℕ → List ℕ → Called → Memory → List ℕ → List ℕ → Type 0
DoneBy Record m given bytes kinds numbers r m' kinds' numbers' = OneApplied m given bytes r m' × (kinds' ≡ kinds) × (numbers' ≡ numbers)
DoneBy Records m given bytes kinds numbers r m' kinds' numbers' = AllApplied m given bytes kinds numbers r m' kinds' numbers'
DoneBy (Give table) m given bytes kinds numbers r m' kinds' numbers' = TableGiven table m bytes r m' × (kinds' ≡ kinds) × (numbers' ≡ numbers)

-- The call `what` met the memory m, with what is given for a setup, the bytes and the two rows; r was given back, and the memory m' and the
-- rows were left.
pub record Performed (what : Call) (m : Memory) (given : Given) (bytes kinds numbers : List ℕ) (r : Called) (m' : Memory)
    (kinds' numbers' : List ℕ) : Type 0 where
  pub done : DoneBy what m given bytes kinds numbers r m' kinds' numbers'

-- ---- the call as the demands have it
abbrev pub as_call : Call → Given → List ℕ → List ℕ → List ℕ → Called → Memory → List ℕ → List ℕ → CallIn
as_call Record given bytes kinds numbers r m' kinds' numbers' = ForRecord given bytes r.answer m'
as_call Records given bytes kinds numbers r m' kinds' numbers' = ForRecords given bytes kinds numbers r.count kinds' numbers' m'
as_call (Give Rights) given bytes kinds numbers r m' kinds' numbers' = ForTable bytes r.answer m'

-- Every call is one of those of which the demands speak (simulation/specs/Demands.antt). Proved in proofs/InDemands.antt.
abbrev pub InDemands : Type 0
InDemands =
    (what : Call) (m : Memory) (given : Given) (bytes kinds numbers : List ℕ) (r : Called) (m' : Memory) (kinds' numbers' : List ℕ)
    → Performed what m given bytes kinds numbers r m' kinds' numbers'
    → Demands.Called m (as_call what given bytes kinds numbers r m' kinds' numbers')
