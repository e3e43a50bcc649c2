-- Rows in EN 13757-3 digits: H14 of docs/HUB.md. The two forms of a stored row, a buffer of rows given either, refusals 6, 16 and 22;
-- and what is proved of them in proofs/Digits.antt.
use Rattle.std.specs.Prelude.{◌≡◌, Bool, true, cond, ◌&&◌, List, [], ◌∷◌, ◌++◌, ℕ, zero, suc, ◌+◌, ◌*◌, ◌/◌, ◌%◌, ◌<◌, leb, eqb, length, get_or, take, drop}
use Rattle.model.specs.Rules.{twelve_digits}
use Rattle.model.specs.Record.{number}
use Rattle.model.specs.Row.{bytes_of}

------------------------------------------------------------------------
-- H14.2: numbers in bytes of two decimal digits, least significant byte first

-- H14.2: the byte of a number below 100, the tens in its high half
abbrev pub bcd_byte : ℕ → ℕ
bcd_byte x = 16 * (x / 10) + x % 10

-- H14.2: the n bytes of a number
abbrev pub bcd_of : ℕ → ℕ → List ℕ
bcd_of zero x = []
bcd_of (suc n) x = bcd_byte (x % 100) ∷ bcd_of n (x / 100)

-- H14.2: the number of a byte
abbrev pub of_bcd_byte : ℕ → ℕ
of_bcd_byte b = 10 * (b / 16) + b % 16

-- H14.2: the number in the n bytes from index i on
abbrev pub bcd_number : List ℕ → ℕ → ℕ → ℕ
bcd_number b i zero = 0
bcd_number b i (suc n) = of_bcd_byte (get_or b i 0) + 100 * bcd_number b (suc i) n

-- H14.2: both digits of a byte are at most nine
abbrev pub is_bcd_byte : ℕ → Bool
is_bcd_byte b = leb (b / 16) 9 && leb (b % 16) 9

-- H14.2: so are those of the n bytes from index i on
abbrev pub is_bcd : List ℕ → ℕ → ℕ → Bool
is_bcd b i zero = true
is_bcd b i (suc n) = is_bcd_byte (get_or b i 0) && is_bcd b (suc i) n

------------------------------------------------------------------------
-- One row

-- H14.1: the forms of a row. Both have sixteen bytes and the same first eight.
pub data Form : Type 0 where
  -- H9.4: the value in the last eight bytes, least byte first
  Old : Form
  -- H14.3
  New : Form

-- H14.3: the data information field (DIF), twelve digits, and the value information field (VIF), watt-hours
abbrev pub dif : ℕ
dif = 0x0E

abbrev pub vif : ℕ
vif = 0x03

-- H14.6: a row may be given the new form if its value has at most twelve digits. H14.7: It may be given the old one if it has the DIF, the
-- VIF and digits of the new one.
unfoldable pub may_be : Form → List ℕ → Bool
may_be New row = leb (number row 8 8) twelve_digits
may_be Old row = eqb (get_or row 8 0) dif && eqb (get_or row 9 0) vif && is_bcd row 10 6

-- H14.3, H14.4: a row in the form; its first eight bytes are kept
unfoldable pub in_form : Form → List ℕ → List ℕ
in_form New row = take 8 row ++ (dif ∷ vif ∷ bcd_of 6 (number row 8 8))
in_form Old row = take 8 row ++ bytes_of 8 (bcd_number row 10 6)

-- H14.6, H14.7: the refusal where a row may not be given the form
abbrev pub refusal_for : Form → ℕ
refusal_for New = 16
refusal_for Old = 22

------------------------------------------------------------------------
-- A buffer of rows

-- H14.6, H14.7: each of the first n rows may be given the form
unfoldable pub all_may_be : Form → ℕ → List ℕ → Bool
all_may_be to zero buf = true
all_may_be to (suc n) buf = may_be to (take 16 buf) && all_may_be to n (drop 16 buf)

-- H14.8: the first n rows in the form, the bytes behind them as they were
unfoldable pub all_in_form : Form → ℕ → List ℕ → List ℕ
all_in_form to zero buf = buf
all_in_form to (suc n) buf = in_form to (take 16 buf) ++ all_in_form to n (drop 16 buf)

-- H14.5 to H14.8
pub data RowsAnswer : Type 0 where
  Converted : RowsAnswer
  -- the refusal's number, 6, 16 or 22
  RowsNo : ℕ → RowsAnswer

-- what is answered, and the lent buffer after it
pub record RowsConverted : Type 0 where
  pub answer : RowsAnswer
  pub buffer : List ℕ

-- H14.5: 6 for a buffer that is no whole number of rows. H14.6, H14.7: else 16 or 22 where one of its rows may not be given the form.
-- H14.8: else every row is given it. After a refusal every byte is as it was.
unfoldable pub convert : Form → List ℕ → RowsConverted
convert to buf =
    let n = length buf / 16 in
    record {
      answer = cond (eqb (length buf % 16) 0) (cond (all_may_be to n buf) Converted (RowsNo (refusal_for to))) (RowsNo 6);
      buffer = cond (eqb (length buf % 16) 0) (cond (all_may_be to n buf) (all_in_form to n buf) buf) buf;
    }

-- H14.5: from the old form to the new, and back
abbrev pub to_new : List ℕ → RowsConverted
to_new = convert New

abbrev pub to_old : List ℕ → RowsConverted
to_old = convert Old

------------------------------------------------------------------------
-- What is proved

-- each entry is a byte
abbrev pub Bytes : List ℕ → Type 0
Bytes buf = (i : ℕ) → get_or buf i 0 < 256

-- what the one move leaves the other one accepts, and it leaves the same bytes again
abbrev pub Back : (List ℕ → RowsConverted) → (List ℕ → RowsConverted) → Type 0
Back there back =
    (buf : List ℕ) → Bytes buf → (there buf).answer ≡ Converted
    → ((back (there buf).buffer).answer ≡ Converted) × ((back (there buf).buffer).buffer ≡ buf)

-- H14.9: there and back, from either form
abbrev pub ThereAndBack : Type 0
ThereAndBack = Back to_new to_old × Back to_old to_new

-- H14.10: each row keeps its first eight bytes, whatever the answer is
abbrev pub HeadsKept : Type 0
HeadsKept =
    (to : Form) (buf : List ℕ) (i : ℕ) → take 8 (drop (16 * i) (convert to buf).buffer) ≡ take 8 (drop (16 * i) buf)

-- H16.9: the status in row i of a buffer, in either form
abbrev pub status_in : List ℕ → ℕ → ℕ
status_in buf i = get_or buf (16 * i + 2) 0

-- H16.9: each row keeps its status, whatever that is and whatever the answer is
abbrev pub StatusesKept : Type 0
StatusesKept = (to : Form) (buf : List ℕ) (i : ℕ) → status_in (convert to buf).buffer i ≡ status_in buf i

-- an example: register 7, corrected, time 258, 123456789012 Wh, in either form
abbrev pub old_row : List ℕ
old_row = 7 ∷ 0 ∷ 2 ∷ 0 ∷ 2 ∷ 1 ∷ 0 ∷ 0 ∷ 0x14 ∷ 0x1A ∷ 0x99 ∷ 0xBE ∷ 0x1C ∷ 0 ∷ 0 ∷ 0 ∷ []

abbrev pub new_row : List ℕ
new_row = 7 ∷ 0 ∷ 2 ∷ 0 ∷ 2 ∷ 1 ∷ 0 ∷ 0 ∷ 0x0E ∷ 0x03 ∷ 0x12 ∷ 0x90 ∷ 0x78 ∷ 0x56 ∷ 0x34 ∷ 0x12 ∷ []

abbrev pub RowExample : Type 0
RowExample = ((to_new old_row).buffer ≡ new_row) × ((to_old new_row).buffer ≡ old_row)
