-- Laws of numbers in bytes: a number is put together from two parts, and bytes are zero where their number is. By induction
-- on the count of bytes.
use mathlib.Core.Path.{◌≡◌, refl, sym, ap, ◌∙◌}
use mathlib.Core.Bool.{Bool, cond, ◌&&◌, and_assoc}
use mathlib.Core.List.{List}
use Prim.Native.Nat.{ℕ, zero, suc, ◌+◌, ◌-◌, ◌*◌, ◌^◌, ◌≤◌, ◌<◌}
use native.Mathlib.Nat.{add-zero, zero-add, suc-add, add_assoc, mul-add, mul_assoc, pow-succ', one-mul}
use native.Mathlib.Omega.{arith}
use borrow.Author.Tests.{ne_eqb, le-leb, lt-leb}
use lib.Dec.{leb, eqb, eqb-suc-zero}
use lib.ListN.{length, get_or, take, drop}
use Rattle.std.proofs.lemmas.List.{get_or-take, get_or-drop}
use Rattle.std.specs.Int.{Width, from_le_bytes, byte_worth, sum_through, byte_len}
use Rattle.std.specs.Prelude.{Option, MatchOption}
use Rattle.std.proofs.Common.{Some, None}
use native.Mathlib.Nat.{mul_comm}
use Rattle.model.specs.Record.{number, zeros}

-- a number is zero where its first byte and the rest are
sum-zero : (x y : ℕ) → eqb (x + 256 * y) 0 ≡ eqb x 0 && eqb y 0
sum-zero zero zero = refl
sum-zero zero (suc y) = ne_eqb (0 + 256 * suc y) 0 (λ e. absurd (omega (arith, e))) ∙ sym (eqb-suc-zero y)
sum-zero (suc x) y =
    ne_eqb (suc x + 256 * y) 0 (λ e. absurd (omega (arith, e))) ∙ ap (λ (t : Bool). t && eqb y 0) (sym (eqb-suc-zero x))

module _ (b : List ℕ) where
  -- a number is read where its bytes are there
  pub number-there : (i n : ℕ) → i + n ≤ length b → cond (leb (i + n) (length b)) (number b i n) 0 ≡ number b i n
  number-there i n h = rw (le-leb (i + n) (length b) h)

  -- the number in m + n bytes from those in the first m and in the next n
  number-parts : (i m n : ℕ) → number b i m + 256 ^ m * number b (i + m) n ≡ number b i (m + n)
  number-parts i zero n = simp (add-zero, zero-add, one-mul)
  number-parts i (suc m) n =
      let s : i + suc m ≡ suc i + m = omega arith in
      rw (suc-add m n, ← number-parts (suc i) m n, s, pow-succ', mul_assoc, mul-add, add_assoc)

  -- bytes are zero where their number is,
  pub number-zero : (i n : ℕ) → eqb (number b i n) 0 ≡ zeros b i n
  unfolding zeros
  number-zero i zero = refl
  number-zero i (suc n) = sum-zero (get_or b i 0) (number b (suc i) n) ∙ ap (λ (t : Bool). eqb (get_or b i 0) 0 && t) (number-zero (suc i) n)

  -- and m + n bytes where the first m and the next n are
  pub zeros-parts : (i m n : ℕ) → zeros b i m && zeros b (i + m) n ≡ zeros b i (m + n)
  unfolding zeros
  zeros-parts i zero n = rw (add-zero, zero-add)
  zeros-parts i (suc m) n =
      let s : i + suc m ≡ suc i + m = omega arith in
      rw (suc-add m n, ← zeros-parts (suc i) m n, s, and_assoc)

-- What is made of the n bytes from place i on, least first, is the number there
module _ (b : List ℕ) (i : ℕ) where
  sum-number : (f : ℕ → ℕ) (k : ℕ) → ((j : ℕ) → j ≤ k → f j ≡ byte_worth j (get_or b (i + j) 0)) → sum_through f k ≡ number b i (suc k)
  sum-number f zero h = h 0 (omega arith) ∙ rw add-zero (omega arith)
  sum-number f (suc k) h =
      let e = sum-number f k (λ j l. h j (omega arith)) in
      let s : suc k + 1 ≡ suc (suc k) = omega arith in
      let x = get_or b (i + suc k) 0 in
      let last : x * 256 ^ suc k ≡ 256 ^ suc k * (x + 0) = rw (add-zero x) (mul_comm x (256 ^ suc k)) in
      rw (e, h (suc k) (omega arith), last) (number-parts b i (suc k) 1 ∙ ap (number b i) s)

  worth : (n j : ℕ) → j < n → byte_worth j (get_or (take n (drop i b)) j 0) ≡ byte_worth j (get_or b (i + j) 0)
  worth n j h = ap (byte_worth j) (get_or-take n (drop i b) j 0 h ∙ get_or-drop i b j 0)

  from-there : (w : Width) (n : ℕ) → n ≡ suc (byte_len w - 1) → from_le_bytes w (take n (drop i b)) ≡ number b i n
  from-there w n e =
      let k = byte_len w - 1 in
      rw e (sum-number (λ j. byte_worth j (get_or (take (suc k) (drop i b)) j 0)) k (λ j h. worth (suc k) j (omega arith)))

  -- and 0 where there are fewer
  pub read : (w : Width) (n : ℕ) (o : Option (List ℕ)) (r : ℕ) → n ≡ suc (byte_len w - 1)
      → MatchOption o (length b < i + n) (λ x. (x ≡ take n (drop i b)) × (i + n ≤ length b)) → MatchOption o (r ≡ 0) (λ x. r ≡ from_le_bytes w x)
      → r ≡ cond (leb (i + n) (length b)) (number b i n) 0
  read w n None r e h m = rw (lt-leb (i + n) (length b) h) m
  read w n (Some x) r e h m = rw (le-leb (i + n) (length b) h.1) (m ∙ ap (from_le_bytes w) h.0 ∙ from-there w n e)
