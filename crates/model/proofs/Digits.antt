-- Rows in EN 13757-3 digits: there and back gives the same bytes (H14.9), and heads are kept (H14.10). A number written in places to a
-- base is read again, and bytes that hold places are written again: laws by induction over the count of bytes, which bytes of a binary and
-- bytes of a decimal number both obey. A row goes there and back by them, and a buffer row by row.
use mathlib.Core.Path.{subst, ◌≡◌, refl, sym, ap, ◌∙◌}
use mathlib.Core.Logic.{⊎_elim}
use mathlib.Core.Bool.{Bool, true, false, cond, ◌&&◌, and-eq-true_iff}
use mathlib.Core.List.{List, [], ◌∷◌, ◌++◌, append_assoc}
use Prim.Native.Nat.{ℕ, zero, suc, ◌+◌, ◌*◌, ◌/◌, ◌%◌, ◌^◌, ◌≤◌, ◌<◌}
use native.Mathlib.Nat.{add_comm, mul_comm, pow-zero, pow-succ', eq-or-lt_of_le, mod-lt, mod-add-div, mod-eq_of_lt}
use native.Mathlib.Nat.{div-lt_iff_lt-mul, div-eq_of_lt, add-mul-div_left, add-mul-mod_self_left}
use native.Mathlib.Omega.{arith}
use borrow.Author.Tests.{leb-true, le-leb, eqb-true}
use lib.Arith.{digits_lt}
use lib.Dec.{leb, eqb}
use lib.ListN.{length, get_or, take, drop, length-append, length-take, length-drop, take-append-drop, get_or-eq_default}
use lib.Seq.{append_snoc, get_or_at, get_or-take, get_or-drop, drop-cons, drop_at, drop-drop, drop-append-add}
use lib.Seq.{take_at, take_all, take-take, take-append-le, length-take-le}
use Rattle.model.specs.Rules.{twelve_digits}
use Rattle.model.specs.Record.{number}
use Rattle.model.specs.Row.{bytes_of}
use Rattle.model.specs.Digits.{bcd_byte, bcd_of, of_bcd_byte, bcd_number, is_bcd_byte, is_bcd}
use Rattle.model.specs.Digits.{Form, Old, New, dif, vif, may_be, in_form, refusal_for, all_may_be, all_in_form}
use Rattle.model.specs.Digits.{Converted, RowsNo, convert, Bytes, Back, ThereAndBack, HeadsKept, status_in, StatusesKept, RowExample}
use Rattle.model.proofs.Basic.{lt_cases, cond_both}

------------------------------------------------------------------------
-- Places: base B, what is written for a place, and what is read off a byte

abbrev places_of : ℕ → (ℕ → ℕ) → ℕ → ℕ → List ℕ
places_of B write zero x = []
places_of B write (suc n) x = write (x % B) ∷ places_of B write n (x / B)

abbrev value_in : ℕ → (ℕ → ℕ) → List ℕ → ℕ → ℕ → ℕ
value_in B read b i zero = 0
value_in B read b i (suc n) = read (get_or b i 0) + B * value_in B read b (suc i) n

module _ (B : ℕ) (some : 0 < B) (write read : ℕ → ℕ) where
  -- what was written behind k bytes is read again
  value_places : ((d : ℕ) → d < B → read (write d) ≡ d)
      → (n x : ℕ) (p : List ℕ) (k : ℕ) → length p ≡ k → x < B ^ n → value_in B read (p ++ places_of B write n x) k n ≡ x
  value_places same zero x p k e h = omega (arith, pow-zero B, h)
  value_places same (suc n) x p k e h =
      let y : ℕ = write (x % B) in
      let l : length (p ++ (y ∷ [])) ≡ suc k = omega (arith, length-append p (y ∷ [])) in
      let less : x / B < B ^ n = (div-lt_iff_lt-mul some).1 (rw (mul_comm (B ^ n) B, ← pow-succ' B n) h) in
      let rest : value_in B read (p ++ (y ∷ places_of B write n (x / B))) (suc k) n ≡ x / B =
      rw (← append_snoc p y (places_of B write n (x / B))) (value_places same n (x / B) (p ++ (y ∷ [])) (suc k) l less) in
      rw (get_or_at p y (places_of B write n (x / B)) 0 k e, same (x % B) (mod-lt x some), rest) (mod-add-div x B)

  module _ (b : List ℕ) where
    -- bytes that hold places to the base are below a power of it,
    value-below : (n i : ℕ) → ((j : ℕ) → i ≤ j → j < i + n → read (get_or b j 0) < B) → value_in B read b i n < B ^ n
    value-below zero i ok = omega (arith, pow-zero B)
    value-below (suc n) i ok =
        let r : ℕ = read (get_or b i 0) in
        let v : ℕ = value_in B read b (suc i) n in
        rw (pow-succ' B n, mul_comm B (B ^ n), mul_comm B v, add_comm r (v * B))
        (digits_lt (value-below n (suc i) (λ j f t. ok j (omega arith) (omega arith))) (ok i (omega arith) (omega arith)))

    -- and what was read off them is written again
    places-value : (n i : ℕ) → i + n ≤ length b
        → ((j : ℕ) → i ≤ j → j < i + n → read (get_or b j 0) < B)
        → ((j : ℕ) → i ≤ j → j < i + n → write (read (get_or b j 0)) ≡ get_or b j 0)
        → places_of B write n (value_in B read b i n) ≡ take n (drop i b)
    places-value zero i h ok same = refl
    places-value (suc n) i h ok same =
        let r : ℕ = read (get_or b i 0) in
        let v : ℕ = value_in B read b (suc i) n in
        let less : r < B = ok i (omega arith) (omega arith) in
        let m : (r + B * v) % B ≡ r = add-mul-mod_self_left r B v ∙ mod-eq_of_lt less in
        let d : (r + B * v) / B ≡ v = add-mul-div_left r v some ∙ ap (λ (t : ℕ). t + v) (div-eq_of_lt less) ∙ omega arith in
        let w : i < length b = omega arith in
        rw (m, d, same i (omega arith) (omega arith), drop-cons b i 0)
        (ap (λ (l : List ℕ). get_or b i 0 ∷ l)
        (places-value n (suc i) (omega arith) (λ j f t. ok j (omega arith) (omega arith)) (λ j f t. same j (omega arith) (omega arith))))

------------------------------------------------------------------------
-- Bytes of two decimal digits

bcd_read : (d : ℕ) → d < 100 → of_bcd_byte (bcd_byte d) ≡ d
bcd_read d h = omega arith

bcd_is : (d : ℕ) → d < 100 → is_bcd_byte (bcd_byte d) ≡ true
bcd_is d h =
    let t : bcd_byte d / 16 ≤ 9 = omega arith in
    let o : bcd_byte d % 16 ≤ 9 = omega arith in
    rw (le-leb (bcd_byte d / 16) 9 t, le-leb (bcd_byte d % 16) 9 o)

-- both parts of a test that holds
both : (s t : Bool) → s && t ≡ true → (s ≡ true) × (t ≡ true)
both s t h = (and-eq-true_iff s t).0 h

bcd_below : (b : ℕ) → is_bcd_byte b ≡ true → of_bcd_byte b < 100
bcd_below b h =
    let k = both (leb (b / 16) 9) (leb (b % 16) 9) h in
    omega (arith, leb-true (b / 16) 9 k.0, leb-true (b % 16) 9 k.1)

bcd_written : (b : ℕ) → is_bcd_byte b ≡ true → bcd_byte (of_bcd_byte b) ≡ b
bcd_written b h =
    let k = both (leb (b / 16) 9) (leb (b % 16) 9) h in
    omega (arith, leb-true (b / 16) 9 k.0, leb-true (b % 16) 9 k.1)

is_bcd-at : (b : List ℕ) (n i : ℕ) → is_bcd b i n ≡ true → (j : ℕ) → i ≤ j → j < i + n → is_bcd_byte (get_or b j 0) ≡ true
is_bcd-at b zero i h j f t = absurd (omega arith)
is_bcd-at b (suc n) i h j f t =
    let k = both (is_bcd_byte (get_or b i 0)) (is_bcd b (suc i) n) h in
    ⊎_elim (λ e. rw (← e) k.0) (λ l. is_bcd-at b n (suc i) k.1 j l (omega arith)) (eq-or-lt_of_le f)

is_bcd-places : (n x : ℕ) (p : List ℕ) (k : ℕ) → length p ≡ k → is_bcd (p ++ bcd_of n x) k n ≡ true
is_bcd-places zero x p k e = refl
is_bcd-places (suc n) x p k e =
    let y : ℕ = bcd_byte (x % 100) in
    let l : length (p ++ (y ∷ [])) ≡ suc k = omega (arith, length-append p (y ∷ [])) in
    rw (get_or_at p y (bcd_of n (x / 100)) 0 k e, bcd_is (x % 100) (omega arith))
    (subst (λ (m : List ℕ). is_bcd m (suc k) n ≡ true) (append_snoc p y (bcd_of n (x / 100)))
    (is_bcd-places n (x / 100) (p ++ (y ∷ [])) (suc k) l))

------------------------------------------------------------------------
-- One row

-- eight bytes behind the first eight are the rest of a row
behind_head : (row : List ℕ) → length row ≡ 16 → take 8 row ++ take 8 (drop 8 row) ≡ row
behind_head row l =
    rw (take_all 8 (drop 8 row) (rw (length-drop 8 row) (omega arith))) (take-append-drop 8 row)

-- A row of bytes that may be given a form may be given the other one again, and then has the same bytes.
abbrev RowBack : Form → Form → Type 0
RowBack to back =
    (row : List ℕ) → length row ≡ 16 → Bytes row → may_be to row ≡ true
    → (may_be back (in_form to row) ≡ true) × (in_form back (in_form to row) ≡ row)

new_old : RowBack New Old
unfolding may_be in_form
new_old row l bytes h =
    let x : ℕ = number row 8 8 in
    let small : x ≤ twelve_digits = leb-true x twelve_digits h in
    let new : List ℕ = take 8 row ++ (dif ∷ vif ∷ bcd_of 6 x) in
    let p : List ℕ = take 8 row ++ (dif ∷ []) in
    let q : List ℕ = take 8 row ++ (dif ∷ vif ∷ []) in
    let eight : length (take 8 row) ≡ 8 = length-take-le 8 row (omega arith) in
    let nine : length p ≡ 9 = omega (arith, length-append (take 8 row) (dif ∷ [])) in
    let ten : length q ≡ 10 = omega (arith, length-append (take 8 row) (dif ∷ vif ∷ [])) in
    let digits : q ++ bcd_of 6 x ≡ new = append_assoc (take 8 row) (dif ∷ vif ∷ []) (bcd_of 6 x) in
    let d : get_or new 8 0 ≡ dif = get_or_at (take 8 row) dif (vif ∷ bcd_of 6 x) 0 8 eight in
    let v : get_or new 9 0 ≡ vif = rw (← append_snoc (take 8 row) dif (vif ∷ bcd_of 6 x)) (get_or_at p vif (bcd_of 6 x) 0 9 nine) in
    let i : is_bcd new 10 6 ≡ true = rw (← digits) (is_bcd-places 6 x q 10 ten) in
    let n : bcd_number new 10 6 ≡ x =
    rw (← digits) (value_places 100 (omega arith) bcd_byte of_bcd_byte bcd_read 6 x q 10 ten (omega arith)) in
    let b : bytes_of 8 x ≡ take 8 (drop 8 row) =
    places-value 256 (omega arith) (λ (y : ℕ). y) (λ (y : ℕ). y) row 8 8 (omega arith) (λ j f t. bytes j) (λ j f t. refl) in
    (rw (d, v, i), rw (take_at (take 8 row) (dif ∷ vif ∷ bcd_of 6 x) 8 eight, n, b) (behind_head row l))

old-new : RowBack Old New
unfolding may_be in_form
old-new row l bytes h =
    let x : ℕ = bcd_number row 10 6 in
    let t = both (eqb (get_or row 8 0) dif && eqb (get_or row 9 0) vif) (is_bcd row 10 6) h in
    let u = both (eqb (get_or row 8 0) dif) (eqb (get_or row 9 0) vif) t.0 in
    let is = is_bcd-at row 6 10 t.1 in
    let below : (j : ℕ) → 10 ≤ j → j < 10 + 6 → of_bcd_byte (get_or row j 0) < 100 = λ j a z. bcd_below (get_or row j 0) (is j a z) in
    let small : x < 100 ^ 6 = value-below 100 (omega arith) bcd_byte of_bcd_byte row 6 10 below in
    let e : length (take 8 row) ≡ 8 = length-take-le 8 row (omega arith) in
    let n : number (take 8 row ++ bytes_of 8 x) 8 8 ≡ x =
    value_places 256 (omega arith) (λ (y : ℕ). y) (λ (y : ℕ). y) (λ d k. refl) 8 x (take 8 row) 8 e (omega arith) in
    let digits : bcd_of 6 x ≡ take 6 (drop 10 row) =
    places-value 100 (omega arith) bcd_byte of_bcd_byte row 6 10 (omega arith) below (λ j a z. bcd_written (get_or row j 0) (is j a z)) in
    let i : 8 < length row = omega arith in
    let k : 9 < length row = omega arith in
    let rest : take 8 (drop 8 row) ≡ dif ∷ vif ∷ bcd_of 6 x =
    rw (drop-cons row 8 0 i, drop-cons row 9 0 k, eqb-true (get_or row 8 0) dif u.0, eqb-true (get_or row 9 0) vif u.1, digits) in
    (rw n (le-leb x twelve_digits (omega arith)), rw (take_at (take 8 row) (bytes_of 8 x) 8 e, n, ← rest) (behind_head row l))

pub length-in_form : (to : Form) (row : List ℕ) → length row ≡ 16 → length (in_form to row) ≡ 16
unfolding in_form
length-in_form New row l = omega (arith, length-append (take 8 row) (dif ∷ vif ∷ bcd_of 6 (number row 8 8)), length-take-le 8 row (omega arith))
length-in_form Old row l = omega (arith, length-append (take 8 row) (bytes_of 8 (bcd_number row 10 6)), length-take-le 8 row (omega arith))

head_in_form : (to : Form) (row : List ℕ) → length row ≡ 16 → take 8 (in_form to row) ≡ take 8 row
unfolding in_form
head_in_form New row l = take_at (take 8 row) _ 8 (length-take-le 8 row (omega arith))
head_in_form Old row l = take_at (take 8 row) _ 8 (length-take-le 8 row (omega arith))

------------------------------------------------------------------------
-- A buffer of n rows

-- its first row and the others
module _ (n : ℕ) (buf : List ℕ) (l : length buf ≡ 16 * suc n) where
  length-first : length (take 16 buf) ≡ 16
  length-first = length-take-le 16 buf (omega arith)

  length-others : length (drop 16 buf) ≡ 16 * n
  length-others = length-drop 16 buf ∙ omega arith

length-all_in_form : (to : Form) (n : ℕ) (buf : List ℕ) → length buf ≡ 16 * n → length (all_in_form to n buf) ≡ length buf
unfolding all_in_form
length-all_in_form to zero buf l = refl
length-all_in_form to (suc n) buf l =
    omega (
      arith,
      length-append (in_form to (take 16 buf)) (all_in_form to n (drop 16 buf)),
      length-in_form to (take 16 buf) (length-first n buf l),
      length-all_in_form to n (drop 16 buf) (length-others n buf l),
      length-others n buf l,
    )

bytes_take : (n : ℕ) (buf : List ℕ) → Bytes buf → Bytes (take n buf)
bytes_take n buf bytes i =
    ⊎_elim (λ u. rw (get_or-take n buf i 0 u.0) (bytes i))
    (λ u. rw (get_or-eq_default (take n buf) 0 {n = i} (omega (arith, length-take n buf))) (omega arith)) (lt_cases i n)

all_back : (to back : Form) → RowBack to back → (n : ℕ) (buf : List ℕ) → length buf ≡ 16 * n → Bytes buf → all_may_be to n buf ≡ true
    → (all_may_be back n (all_in_form to n buf) ≡ true) × (all_in_form back n (all_in_form to n buf) ≡ buf)
unfolding all_may_be all_in_form
all_back to back one zero buf l bytes h = (refl, refl)
all_back to back one (suc n) buf l bytes h =
    let row : List ℕ = take 16 buf in
    let t = both (may_be to row) (all_may_be to n (drop 16 buf)) h in
    let e : length (in_form to row) ≡ 16 = length-in_form to row (length-first n buf l) in
    let of_row : Bytes row = bytes_take 16 buf bytes in
    let of_others : Bytes (drop 16 buf) = λ i. rw (get_or-drop 16 buf i 0) (bytes (16 + i)) in
    let r = one row (length-first n buf l) of_row t.0 in
    let o = all_back to back one n (drop 16 buf) (length-others n buf l) of_others t.1 in
    let first : take 16 (in_form to row ++ all_in_form to n (drop 16 buf)) ≡ in_form to row = take_at (in_form to row) _ 16 e in
    let others : drop 16 (in_form to row ++ all_in_form to n (drop 16 buf)) ≡ all_in_form to n (drop 16 buf) = drop_at (in_form to row) _ 16 e in
    (rw (first, others, r.0, o.0), rw (first, others, r.1, o.1) (take-append-drop 16 buf))

-- where rows are converted, the buffer is a whole number of rows, and each of them may be given the form
converted : (s t : Bool) (k : ℕ) → cond s (cond t Converted (RowsNo k)) (RowsNo 6) ≡ Converted → (s ≡ true) × (t ≡ true)
converted true true k h = (refl, refl)
converted true false k h = let z : ◌≡◌ {A = ℕ} 0 1 = cc in absurd (omega arith)
converted false t k h = let z : ◌≡◌ {A = ℕ} 0 1 = cc in absurd (omega arith)

goes_back : (to back : Form) → RowBack to back → Back (convert to) (convert back)
unfolding convert
goes_back to back one buf bytes h =
    let n : ℕ = length buf / 16 in
    let t = converted (eqb (length buf % 16) 0) (all_may_be to n buf) (refusal_for to) h in
    let whole : length buf % 16 ≡ 0 = eqb-true (length buf % 16) 0 t.0 in
    let l : length buf ≡ 16 * n = omega arith in
    let a = all_back to back one n buf l bytes t.1 in
    rw (t.0, t.1, length-all_in_form to n buf l, t.0, a.0) (refl, a.1)

pub there_and_back : ThereAndBack
there_and_back = (goes_back New Old new_old, goes_back Old New old-new)

all_heads : (to : Form) (n : ℕ) (buf : List ℕ) → length buf ≡ 16 * n → (i : ℕ)
    → take 8 (drop (16 * i) (all_in_form to n buf)) ≡ take 8 (drop (16 * i) buf)
unfolding all_in_form
all_heads to zero buf l i = refl
all_heads to (suc n) buf l zero =
    let k : 8 ≤ length (in_form to (take 16 buf)) = omega (arith, length-in_form to (take 16 buf) (length-first n buf l)) in
    take-append-le 8 (in_form to (take 16 buf)) _ k ∙ head_in_form to (take 16 buf) (length-first n buf l) ∙ take-take 8 16 buf (omega arith)
all_heads to (suc n) buf l (suc i) =
    let row : List ℕ = in_form to (take 16 buf) in
    let e : 16 * suc i ≡ length row + 16 * i = omega (arith, length-in_form to (take 16 buf) (length-first n buf l)) in
    let f : 16 * suc i ≡ 16 + 16 * i = omega arith in
    ap (λ (k : ℕ). take 8 (drop k (row ++ all_in_form to n (drop 16 buf)))) e
    ∙ ap (take 8) (drop-append-add row (all_in_form to n (drop 16 buf)) (16 * i))
    ∙ all_heads to n (drop 16 buf) (length-others n buf l) i
    ∙ ap (take 8) (drop-drop (16 * i) 16 buf ∙ ap (λ (k : ℕ). drop k buf) (sym f))

pub heads_kept : HeadsKept
unfolding convert
heads_kept to buf i =
    let n : ℕ = length buf / 16 in
    let Kept : List ℕ → Type 0 = λ after. take 8 (drop (16 * i) after) ≡ take 8 (drop (16 * i) buf) in
    cond_both Kept (eqb (length buf % 16) 0) _ buf
    (λ whole. cond_both Kept (all_may_be to n buf) _ buf
    (λ may. all_heads to n buf (omega (arith, eqb-true (length buf % 16) 0 whole)) i) (λ no. refl))
    (λ part. refl)

pub statuses-kept : StatusesKept
statuses-kept to buf i =
    sym (second (convert to buf).buffer) ∙ ap (λ (l : List ℕ). get_or l 2 0) (heads_kept to buf i) ∙ second buf
  where
    -- the status is byte 2 of the first eight
    second : (l : List ℕ) → get_or (take 8 (drop (16 * i) l)) 2 0 ≡ status_in l i
    second l = get_or-take 8 (drop (16 * i) l) 2 0 (omega arith) ∙ get_or-drop (16 * i) l 2 0

pub row_example : RowExample
unfolding convert all_may_be all_in_form may_be in_form
row_example = (refl, refl)
