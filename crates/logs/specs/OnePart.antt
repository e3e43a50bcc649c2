-- What is printed for one part of the input, and what is left, on memory on which everything is decided: what the model makes of its records.
-- Proved in proofs/Whole.antt from the contract `Logs` of the call for a part.
use Rattle.std.specs.Prelude.{◌≡◌, List, ℕ, ◌*◌, ◌≤◌, length, take}
use Rattle.model.specs.Store.{Hub}
use Rattle.model.specs.Rules.{Given, in_force, all_under}
use Rattle.model.specs.Record.{records_of}
use Rattle.model.specs.Apply.{hub_after, answers_to}
use Rattle.model.specs.Log.{lines}
use Rattle.simulation.specs.Memory.{Memory}
use Rattle.simulation.specs.Holds.{Holds, memory_after}
use Rattle.simulation.specs.Records.{records_in}
use Rattle.lines.specs.Written.{longest}
use Rattle.logs.specs.Part.{Logs}

-- there is room for every record of a part
pub record Room (bytes text kinds numbers : List ℕ) : Type 0 where
  pub for_text : longest * records_in bytes ≤ length text
  pub for_kinds : records_in bytes ≤ length kinds
  pub for_numbers : records_in bytes ≤ length numbers

-- A call for a part on the memory m, with a list and the number of its first record: any text and any two rows are lent with room for every record, the
-- memory m' is left, n records were applied, and `printed` is the text that was written.
pub record Call (m : Memory) (given : Given) (bytes : List ℕ) (first : ℕ) (printed : List ℕ) (n : ℕ) (m' : Memory) : Type 0 where
  pub text : List ℕ
  pub kinds : List ℕ
  pub numbers : List ℕ
  pub room : Room bytes text kinds numbers
  pub used : ℕ
  pub text' : List ℕ
  pub kinds' : List ℕ
  pub numbers' : List ℕ
  pub logs : Logs m given bytes first text kinds numbers n used m' text' kinds' numbers'
  pub prints : printed ≡ take used text'

-- What the model makes of the records of a part, from its hub h on.
pub record LoggedAs (h : Hub) (m : Memory) (given : Given) (bytes : List ℕ) (first : ℕ) (printed : List ℕ) (n : ℕ) (m' : Memory) : Type 0 where
  -- Every record is applied.
  pub count : n ≡ records_in bytes
  -- The text has the line of each record, with the model's answer (H10.1 to H10.4).
  pub text : printed ≡ lines first (answers_to h (all_under (in_force given) (records_of bytes)))
  -- The memory is as the model leaves it,
  pub memory : m' ≡ memory_after h (all_under (in_force given) (records_of bytes)) m
  -- and holds the model's next hub, so that everything is decided for the next part too.
  pub holds : Holds (hub_after h (all_under (in_force given) (records_of bytes))) m'

abbrev pub OnePart : Type 0
OnePart =
    (h : Hub) (m : Memory) (given : Given) (bytes : List ℕ) (first : ℕ) (printed : List ℕ) (n : ℕ) (m' : Memory)
    → Holds h m
    → Call m given bytes first printed n m'
    → LoggedAs h m given bytes first printed n m'
