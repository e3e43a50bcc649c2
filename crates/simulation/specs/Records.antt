-- The records of a buffer.
use Rattle.std.specs.Prelude.{List, ℕ, ◌+◌, ◌*◌, ◌/◌, min, length, take, drop}

-- H3.5: record k, or as much of it as is left
abbrev pub record_at : List ℕ → ℕ → List ℕ
record_at bytes k = take 16 (drop (16 * k) bytes)

-- H3.6: a rest of 1 to 15 bytes is one more record
abbrev pub records_in : List ℕ → ℕ
records_in bytes = (length bytes + 15) / 16

-- as many records as the bytes have and as there is room for answers
abbrev pub count_of : List ℕ → List ℕ → List ℕ → ℕ
count_of bytes kinds numbers = min (records_in bytes) (min (length kinds) (length numbers))
