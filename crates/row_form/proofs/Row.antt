-- The bytes of a row as they are read and written.
use mathlib.Core.Path.{◌≡◌, ap, ◌∙◌}
use mathlib.Core.List.{List, [], ◌∷◌, ◌++◌, append_assoc, append-nil}
use Prim.Native.Nat.{ℕ, zero, suc, ◌+◌, ◌-◌, ◌*◌, ◌/◌, ◌%◌, ◌^◌, ◌≤◌, ◌<◌}
use native.Mathlib.Nat.{pow-succ'}
use native.Mathlib.Omega.{arith}
use lib.ListN.{length, take, drop, set, get_or, length-set, length-drop, drop_of_length-le}
use lib.Seq.{take-suc-set, take_all, drop-cons}
use borrow.Rule.Slice.PartMut.{put_mid}
use Rattle.std.specs.List.{list_all}
use Rattle.model.specs.Digits.{dif, vif, bcd_byte, bcd_of, of_bcd_byte, bcd_number, is_bcd_byte, is_bcd}

-- a number of bytes that are read from the last on, below twice a power of a hundred, and one byte more
pub grown : (x b k : ℕ) → x + 2 ≤ 2 * 100 ^ k → b < 166 → 100 * x + b + 2 ≤ 2 * 100 ^ suc k
grown x b k h f = omega (arith, pow-succ' 100 k, h, f)

pub read_on : (row : List ℕ) (x b i : ℕ) → 10 < i → i ≤ 16 → x ≡ bcd_number row i (16 - i) → b ≡ of_bcd_byte (get_or row (i - 1) 0)
    → 100 * x + b ≡ bcd_number row (i - 1) (16 - (i - 1))
read_on row x b i h k e f =
    let s : 16 - (i - 1) ≡ suc (16 - i) = omega arith in
    let t : suc (i - 1) ≡ i = omega arith in
    rw (s, t, e, f) (omega arith)

-- bytes that are written from the first on, and one byte more
pub write_on : (bytes : List ℕ) (x rest i : ℕ) → length bytes ≡ 6 → i < 6 → take i bytes ++ bcd_of (6 - i) rest ≡ bcd_of 6 x
    → take (i + 1) (set bytes i (bcd_byte (rest % 100))) ++ bcd_of (6 - (i + 1)) (rest / 100) ≡ bcd_of 6 x
write_on bytes x rest i l h e =
    let s : 6 - i ≡ suc (6 - (i + 1)) = omega arith in
    let t : i + 1 ≡ suc i = omega arith in
    ap (λ (p : List ℕ). p ++ bcd_of (6 - (i + 1)) (rest / 100)) (rw t (take-suc-set bytes i (bcd_byte (rest % 100)) (omega arith)))
    ∙ append_assoc (take i bytes) (bcd_byte (rest % 100) ∷ []) (bcd_of (6 - (i + 1)) (rest / 100)) ∙ (rw s at e)

-- the part from place i on
pub part-from : (row : List ℕ) (i : ℕ) → take (length row - i) (drop i row) ≡ drop i row
part-from row i = take_all (length row - i) (drop i row) (omega (arith, length-drop i row))

-- each of the bytes from place i on holds digits
pub all-bcd : (row : List ℕ) (n i : ℕ) → length row ≡ i + n → list_all is_bcd_byte (drop i row) ≡ is_bcd row i n
all-bcd row zero i h = ap (list_all is_bcd_byte) (drop_of_length-le row {i = i} (omega arith))
all-bcd row (suc n) i h = rw (drop-cons row i 0 (omega arith), all-bcd row n (suc i) (omega arith))

-- bytes written over the last ones
pub over_last : (i : ℕ) (row p : List ℕ) → i ≤ length row → put_mid i (length row - i) row p ≡ take i row ++ p
over_last i row p h =
    let e : drop (length row - i) (drop i row) ≡ [] = drop_of_length-le (drop i row) {i = length row - i} (omega (arith, length-drop i row)) in
    rw (e, append-nil p)

pub put-new : (row p : List ℕ) → length row ≡ 16
    → put_mid 10 (length (set (set row 8 dif) 9 vif) - 10) (set (set row 8 dif) 9 vif) p ≡ take 8 row ++ (dif ∷ vif ∷ p)
put-new row p l =
    let e : length (set row 8 dif) ≡ 16 = length-set row 8 dif ∙ l in
    let f : length (set (set row 8 dif) 9 vif) ≡ 16 = length-set (set row 8 dif) 9 vif ∙ e in
    over_last 10 (set (set row 8 dif) 9 vif) p (omega (arith, f))
    ∙ rw (
      take-suc-set (set row 8 dif) 9 vif (omega arith),
      take-suc-set row 8 dif (omega arith),
    )
    (append_assoc (take 8 row ++ (dif ∷ [])) (vif ∷ []) p ∙ append_assoc (take 8 row) (dif ∷ []) (vif ∷ p))
