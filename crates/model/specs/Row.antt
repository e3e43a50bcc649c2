-- The read-out row, H9 of docs/HUB.md, and its refusals 4, 7 and 25.
use Rattle.std.specs.Prelude.{cond, List, [], ◌∷◌, ◌++◌, ℕ, zero, suc, ◌+◌, ◌*◌, ◌/◌, ◌%◌, ltb, leb, length, take, drop}
use Rattle.std.proofs.Math.Option.{none, some}
use Rattle.model.specs.Store.{Reading, last_status, Content}

-- H3.2: the n bytes of a number, the least first
abbrev pub bytes_of : ℕ → ℕ → List ℕ
bytes_of zero x = []
bytes_of (suc n) x = (x % 256) ∷ bytes_of n (x / 256)

-- H9.4, H16.7: the sixteen bytes of a row
abbrev pub row_bytes : ℕ → ℕ → Reading → List ℕ
row_bytes r t x = bytes_of 2 r ++ bytes_of 1 x.status ++ (0 ∷ []) ++ bytes_of 4 t ++ bytes_of 8 x.count

pub data RowAnswer : Type 0 where
  Written : RowAnswer
  -- there is no reading to write
  RowNone : RowAnswer
  -- the refusal's number, 4, 7 or 25
  RowNo : ℕ → RowAnswer

-- what is answered, and the lent buffer after it
pub record RowWritten : Type 0 where
  pub answer : RowAnswer
  pub buffer : List ℕ

-- H9.4: the row from byte 16 × register on; the other bytes stay. H16.8: 25 for a status above 2. H9.6: without a reading, which has no status,
-- nothing is written.
abbrev pub row_for : ℕ → ℕ → Content → List ℕ → RowWritten
row_for r t none buf = record { answer = RowNone; buffer = buf }
row_for r t (some x) buf =
    cond (leb x.status last_status)
    (record { answer = Written; buffer = take (16 * r) buf ++ row_bytes r t x ++ drop (16 * r + 16) buf })
    (record { answer = RowNo 25; buffer = buf })

-- H9.2: 4 for a register not below 256. H9.3: else 7 for a buffer shorter than 16 × (register + 1). H9.5: after a refusal all bytes stay.
unfoldable pub write_row : ℕ → ℕ → Content → List ℕ → RowWritten
write_row r t x buf =
    cond (ltb r 256) (cond (ltb (length buf) (16 * (r + 1))) (record { answer = RowNo 7; buffer = buf }) (row_for r t x buf))
    (record { answer = RowNo 4; buffer = buf })
