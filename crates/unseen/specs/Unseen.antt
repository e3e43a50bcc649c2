-- Who may not read a register sees nothing of the values put to it (H15.7), of what the code answers: two runs of calls on the same memory, each a
-- list of calls in any mix as their contracts have them (`Calls`), that differ only in values put to one register. Proved in proofs/Unseen.antt.
use Rattle.std.specs.Prelude.{◌≡◌, ◌⊎◌, List, ℕ, ◌≤◌}
use Rattle.model.specs.Store.{Reading, last_status}
use Rattle.model.specs.Rules.{twelve_digits}
use Rattle.model.specs.Record.{Put, Begin, Decoded, Asks, decode}
use Rattle.model.specs.Demand.{Exchange}
use Rattle.two_runs.specs.TwoRuns.{Pairwise, SameTo, WithoutRead}
use Rattle.state.specs.State.{standing}
use Rattle.simulation.specs.Memory.{Memory}
use Rattle.simulation.specs.Holds.{Decided}
use Rattle.simulation.specs.Demands.{CallIn, Calls, exchanges}

-- What differs: both records begin a put of the same worker to register r, each of a value of at most twelve digits (H7.9) with any status that there
-- is (H16.1).
pub record OtherValue (r : ℕ) (d d' : Decoded) : Type 0 where
  pub worker : ℕ
  pub first : Reading
  pub second : Reading
  pub puts : d ≡ Asks (Begin worker (Put r first))
  pub puts' : d' ≡ Asks (Begin worker (Put r second))
  pub few : first.count ≤ twelve_digits
  pub few' : second.count ≤ twelve_digits
  pub known : first.status ≤ last_status
  pub known' : second.status ≤ last_status

-- Else the records are the same, and the same is given for a setup.
pub record Differ (r : ℕ) (e e' : Exchange) : Type 0 where
  pub given : e.given ≡ e'.given
  pub bytes : (e.bytes ≡ e'.bytes) ⊎ OtherValue r (decode e.bytes) (decode e'.bytes)

-- Who sees nothing: on memory that records left, or that is not set up and on which a setup may come among the records, every worker to whom the table
-- that stands gives no read on register r. It gets the same answers throughout, at the same records.
abbrev pub Unseen : Type 0
Unseen =
    (m : Memory) → Decided m
    → (cs ds : List CallIn) → Calls m cs → Calls m ds
    → (r : ℕ) → Pairwise (Differ r) (exchanges cs) (exchanges ds)
    → (w : ℕ) → WithoutRead (standing m.hub) w r
    → Pairwise (SameTo w) (exchanges cs) (exchanges ds)
