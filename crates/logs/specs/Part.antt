-- A part of the input logged: the contract of the call for a part, on any memory.
use Rattle.std.specs.Prelude.{◌≡◌, List, ℕ, ◌*◌, ◌/◌, length, take}
use Rattle.model.specs.Rules.{Given}
use Rattle.lists.specs.Over.{over}
use Rattle.simulation.specs.Memory.{Memory}
use Rattle.simulation.specs.Buffer.{Applies}
use Rattle.lines.specs.Written.{longest, lines_from}

-- the bytes of the records for whose lines there is room in the text, sixteen bytes a record (H3.1) and 70 a line
abbrev pub in_room : List ℕ → List ℕ → List ℕ
in_room bytes text = take (16 * (length text / longest)) bytes

-- A part of the input met the memory m, with the list lent; its first record has the number `first`. The memory m' was left, n records were applied, and `used`
-- bytes of text were written.
pub record Logs (m : Memory) (given : Given) (bytes : List ℕ) (first : ℕ) (text kinds numbers : List ℕ) (n used : ℕ) (m' : Memory)
    (text' kinds' numbers' : List ℕ) : Type 0 where
  -- As many records were applied as there is room for, and their answers written over the two rows.
  pub applied : Applies m given (in_room bytes text) kinds numbers n m' kinds' numbers'
  -- The text begins with the lines of these answers, and its other bytes keep their contents.
  pub written : text' ≡ over (lines_from first kinds' numbers' n) text
  pub bytes_used : used ≡ length (lines_from first kinds' numbers' n)
