-- What is printed for a whole file: the joined texts of its parts are the model's log of the file. This is the statement to read; it is proved
-- in proofs/Whole.antt, and what the program brings to it in proofs/Pieces.antt.
use Rattle.std.specs.Prelude.{◌≡◌, false, cond, ℕ, ◌+◌, ◌%◌, length, take, drop}
use mathlib.Core.List.{List, [], ◌∷◌, ◌++◌, map, flatten}
use Rattle.model.specs.Rules.{Given, in_force}
use Rattle.model.specs.Rights.{table_of, table_fits}
use Rattle.model.specs.Answer.{Ok, No}
use Rattle.model.specs.Log.{log_of}
use Rattle.values.specs.declared.Answer.{Answer}
use Rattle.values.specs.Meaning.{answer_of}
use Rattle.slots.specs.Slots.{slot_of}
use Rattle.slots.specs.declared.Slot.{Slot}
use Rattle.state.specs.State.{empty_hub}
use Rattle.simulation.specs.Memory.{Memory, memory, lent_in}
use Rattle.simulation.specs.Left.{Sized, ready}
use Rattle.simulation.specs.Tables.{Gives}
use Rattle.logs.specs.OnePart.{Call}
use Rattle.input_parts.specs.Whole.{whole_records}

-- a part of a file: its bytes, the text that was printed for it, how many records it had, and the memory after it
pub record Part : Type 0 where
  pub bytes : List ℕ
  pub printed : List ℕ
  pub count : ℕ
  pub after : Memory

-- the parts of a file handed in one after the other, all with the same list, from the memory m and the number n on: each meets the memory as
-- the last one left it, and has the number of its first record. A call takes a number of 64 bits, so fewer than 2^64 records come before the last part.
unfoldable pub HandedIn : Given → Memory → ℕ → List Part → Type 0
HandedIn given m n [] = Unit {0}
HandedIn given m n (p ∷ ps) = Call m given p.bytes n p.printed p.count p.after × HandedIn given p.after (n + p.count) ps

-- a list of parts is cut between records: every part but the last is a multiple of sixteen bytes
unfoldable pub CutBetweenRecords : List (List ℕ) → Type 0
CutBetweenRecords [] = Unit {0}
CutBetweenRecords (p ∷ []) = Unit {0}
CutBetweenRecords (p ∷ q ∷ ps) = (length p % 16 ≡ 0) × CutBetweenRecords (q ∷ ps)

-- Any file, cut anywhere between records and handed in part by part with any list, from memory that does not count as set up: what was printed is,
-- put together, the model's log of the file, with the table of rights that stands in the memory.
abbrev pub WholeFile : Type 0
WholeFile =
    (m : Memory) (given : Given) (ps : List Part)
    → ready m ≡ false
    → CutBetweenRecords (map (λ p. p.bytes) ps)
    → HandedIn given m 0 ps
    → flatten (map (λ p. p.printed) ps) ≡ log_of (in_force given) (lent_in m) (flatten (map (λ p. p.bytes) ps))

------------------------------------------------------------------------
-- How `hublog` meets this

-- The memory that it starts with does not count as set up: its hub has no worker, no register and no slot.
abbrev pub StartsBlank : Type 0
StartsBlank =
    (slots : List Slot) (newest free queue lens merged : List ℕ)
    → ready (memory empty_hub slots newest free queue lens merged) ≡ false

-- A table of any bytes may be given to it: then the memory does not count as set up either, and the table that stands is that one where it is accepted,
-- and none where it gets 24.
abbrev pub StartsWith : Type 0
StartsWith =
    (slots : List Slot) (newest free queue lens merged bytes : List ℕ) (y : Answer) (m : Memory) → Sized (memory empty_hub slots newest free queue lens merged)
    → Gives (memory empty_hub slots newest free queue lens merged) bytes y m
    → (ready m ≡ false) × (lent_in m ≡ record { row = map slot_of slots; table = cond (table_fits bytes) (table_of bytes) [] })
    × (answer_of y ≡ cond (table_fits bytes) Ok (No 24))

-- the last part: what is kept at the end of the input, if there is any
abbrev pub last_part : List ℕ → List (List ℕ)
last_part [] = []
last_part (x ∷ kept) = (x ∷ kept) ∷ []

-- The parts that it makes of what its reads bring (`to_log`, `keep_rest`): the whole records of what was kept and what comes are a part, and the
-- rest is kept.
unfoldable pub parts_of : List ℕ → List (List ℕ) → List (List ℕ)
parts_of kept [] = last_part kept
parts_of kept (r ∷ rs) =
    let b = kept ++ r in
    take (whole_records (length b)) b ∷ parts_of (drop (whole_records (length b)) b) rs

-- Whatever the reads bring, what was printed for these parts is, put together, the model's log of what was read.
abbrev pub AnyReads : Type 0
AnyReads =
    (m : Memory) (given : Given) (ps : List Part) (rs : List (List ℕ))
    → ready m ≡ false
    → map (λ p. p.bytes) ps ≡ parts_of [] rs
    → HandedIn given m 0 ps
    → flatten (map (λ p. p.printed) ps) ≡ log_of (in_force given) (lent_in m) (flatten rs)
