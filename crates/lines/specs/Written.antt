-- Log lines in lent memory: where they are written, what is left behind and how many bytes they have.
use Rattle.std.specs.Prelude.{◌≡◌, Bool, cond, List, [], ◌∷◌, ◌++◌, map, ℕ, zero, suc, ◌+◌, ◌-◌, ◌*◌, ◌/◌, ◌%◌, ◌≤◌, ◌<◌, min, leb, length, get_or}
use Rattle.lists.specs.Over.{over, over_at}
use Rattle.model.specs.Log.{lines}
use Rattle.values.specs.declared.Answer.{Answer}
use Rattle.values.specs.Meaning.{answer_of}
use Rattle.answers.specs.Numbers.{kind_of, number_of}
use Rattle.lines.specs.Words.{line_from}
use Rattle.lines.specs.Digits.{tens_of}

-- e is the memory d with the text p written from index i on, and j is the index after the text
pub record Appended (p : List ℕ) (i : ℕ) (d e : List ℕ) (j : ℕ) : Type 0 where
  pub memory : e ≡ over_at i p d
  pub next : j ≡ i + length p

-- e is the memory d with the text p written from index i on and at most eight bytes spilled after it, and j is the index after the text
pub record Spills (p : List ℕ) (i : ℕ) (d e : List ℕ) (j : ℕ) : Type 0 where
  pub spilled : List ℕ
  pub few : length spilled ≤ 8
  pub memory : e ≡ over_at i (p ++ spilled) d
  pub next : j ≡ i + length p

-- no line is longer: twenty digits, a space, `value -` with twenty digits, a space, twenty digits, and the line's end. A status of one byte has three
-- digits at most.
abbrev pub longest : ℕ
longest = 70

-- the longest line fits from index `at` on
unfoldable pub room : List ℕ → ℕ → Bool
room out at = leb (at + longest) (length out)

-- the memory after the line of record n with an answer of this kind and number: the line from index `at` on, or as it was where there
-- is no room
unfoldable pub written_line : List ℕ → ℕ → ℕ → ℕ → ℕ → List ℕ
written_line out at n kind number = cond (room out at) (over_at at (line_from n kind number) out) out

-- the index after the line, or `at` where there is no room
unfoldable pub after_line : List ℕ → ℕ → ℕ → ℕ → ℕ → ℕ
after_line out at n kind number = cond (room out at) (at + length (line_from n kind number)) at

-- e is the memory d after the line of record n from index i on, and j is the index after the line
pub record LineAppended (n kind number : ℕ) (i : ℕ) (d e : List ℕ) (j : ℕ) : Type 0 where
  pub memory : e ≡ written_line d i n kind number
  pub next : j ≡ after_line d i n kind number

-- memory with lines at its start, and how many bytes they have
pub record Written : Type 0 where
  pub memory : List ℕ
  pub used : ℕ

-- one line more
unfoldable pub next_line : Written → ℕ → ℕ → ℕ → Written
next_line w n kind number =
    record { memory = written_line w.memory w.used n kind number; used = after_line w.memory w.used n kind number }

-- how many answers are written of those asked for: no more than the buffer has
abbrev pub counted : ℕ → List ℕ → List ℕ → ℕ
counted count kinds numbers = min count (min (length kinds) (length numbers))

-- the lines of the first k answers of a buffer, written from the start of `out`; the first record has number n
unfoldable pub written_lines : List ℕ → ℕ → List ℕ → List ℕ → ℕ → Written
written_lines out n kinds numbers zero = record { memory = out; used = 0 }
written_lines out n kinds numbers (suc k) = next_line (written_lines out n kinds numbers k) (n + k) (get_or kinds k 0) (get_or numbers k 0)

-- The lines of the first `count` answers of a buffer, or of all where it has fewer, were written from the start of `out`, which is out' then;
-- they have `used` bytes.
pub record LinesWritten (out : List ℕ) (n : ℕ) (kinds numbers : List ℕ) (count used : ℕ) (out' : List ℕ) : Type 0 where
  pub bytes : used ≡ (written_lines out n kinds numbers (counted count kinds numbers)).used
  pub memory : out' ≡ (written_lines out n kinds numbers (counted count kinds numbers)).memory
  pub inside : used ≤ length out'

-- The lines of the first k answers of a buffer were written from the start of `out`, which is out' then, and end at index `at`. Bytes
-- spilled after them, and are covered by the next `sure` lines, of at least five bytes each: these are among the first `most`, and there is
-- room for them.
pub record Partly (out : List ℕ) (n : ℕ) (kinds numbers : List ℕ) (most : ℕ) (out' : List ℕ) (at k : ℕ) : Type 0 where
  pub spilled : List ℕ
  pub sure : ℕ
  pub near : sure ≤ 2
  pub few : length spilled ≤ 5 * sure
  pub within : k + sure ≤ most
  pub fits : at + longest * sure ≤ length out
  pub kept : length out' ≡ length out
  pub memory : out' ≡ over_at at spilled (written_lines out n kinds numbers k).memory
  pub used : at ≡ (written_lines out n kinds numbers k).used

-- The lines of the answers from k to `end`: the numbers of their records, from first + k on, have the same tens, whose digits are `tens`, and last
-- digits from `last` on; two more lines follow them among the first `most`; and memory that is `long` bytes long has room for all of these
-- from index `at` on.
pub record OneTen (first most long : ℕ) (tens : List ℕ) (last at k end : ℕ) : Type 0 where
  pub shown : tens ≡ tens_of ((first + k) / 10)
  pub digit : last ≡ 48 + (first + k) % 10
  pub ten : last + (end - k) ≤ 58
  pub more : end + 2 ≤ most
  pub room : at + longest * (end - k + 2) ≤ long

------------------------------------------------------------------------
-- The text where there is room

-- the lines of the first k answers of a buffer; the first record has number n
unfoldable pub lines_from : ℕ → List ℕ → List ℕ → ℕ → List ℕ
lines_from n kinds numbers zero = []
lines_from n kinds numbers (suc k) = lines_from n kinds numbers k ++ line_from (n + k) (get_or kinds k 0) (get_or numbers k 0)

-- a text at the start of `out`, and its length
abbrev pub at_start : List ℕ → List ℕ → Written
at_start text out = record { memory = over text out; used = length text }

-- where `out` has room for the longest line for each answer, every line is written, and the bytes after them keep their contents
abbrev pub WholeText : Type 0
WholeText =
    (out : List ℕ) (n : ℕ) (kinds numbers : List ℕ) (k : ℕ)
    → longest * k ≤ length out
    → written_lines out n kinds numbers k ≡ at_start (lines_from n kinds numbers k) out

-- the first k of f 0, f 1, ..
unfoldable pub first_of : {A : Type 0} → (ℕ → A) → ℕ → List A
first_of f zero = []
first_of f (suc k) = first_of f k ++ (f k ∷ [])

-- where the buffer has the kinds and the numbers of these answers, the lines are the model's for them
abbrev pub ModelText : Type 0
ModelText =
    (n : ℕ) (kinds numbers : List ℕ) (f : ℕ → Answer) (k : ℕ)
    → ((i : ℕ) → i < k → get_or kinds i 0 ≡ kind_of (f i))
    → ((i : ℕ) → i < k → get_or numbers i 0 ≡ number_of (f i))
    → lines_from n kinds numbers k ≡ lines n (map answer_of (first_of f k))
