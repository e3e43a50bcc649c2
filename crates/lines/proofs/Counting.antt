-- The number of a line, kept as its last digit and the digits of its tens.
use mathlib.Core.Path.{◌≡◌, refl, ap, ◌∙◌}
use mathlib.Core.Bool.{Bool, true, false, cond}
use mathlib.Core.List.{List, [], ◌∷◌, ◌++◌}
use Prim.Native.Nat.{ℕ, zero, suc, ◌+◌, ◌-◌, ◌/◌, ◌%◌, ◌^◌, ◌≤◌, ◌<◌}
use native.Mathlib.Omega.{arith}
use borrow.Author.Tests.{lt-ltb, le-ltb, ltb-true, ltb-false}
use lib.Dec.{ltb}
use lib.ListN.{length, take, drop}
use lib.Seq.{take_at}
use Rattle.lists.specs.Over.{over_at}
use Rattle.model.specs.Log.{digits, decimal}
use Rattle.lines.specs.Digits.{Spelled, tens_of}
use Rattle.lines.specs.Written.{Appended}
use Rattle.lines.proofs.Decimal.{spelled_decimal}

-- a digit more may be asked for than there are
pub digits_more : (f x : ℕ) → x < 10 ^ suc f → digits (suc f) x ≡ digits f x
unfolding digits
digits_more zero x h = rw (lt-ltb x 10 h)
digits_more (suc f) x h = rw (digits_more f (x / 10) (omega arith))

-- a number is its tens and its last digit
pub split : (x : ℕ) → tens_of (x / 10) ++ ((48 + x % 10) ∷ []) ≡ decimal x
unfolding tens_of decimal digits
split x = by (ltb x 10) refl
  where
    by : (b : Bool) → ltb x 10 ≡ b
        → cond (ltb (x / 10) 1) [] (digits 18 (x / 10)) ++ ((48 + x % 10) ∷ [])
        ≡ cond b ((48 + x % 10) ∷ []) (digits 18 (x / 10) ++ ((48 + x % 10) ∷ []))
    by true e = let h = ltb-true x 10 e in rw (lt-ltb (x / 10) 1 (omega arith))
    by false e = let h = ltb-false x 10 e in rw (le-ltb (x / 10) 1 (omega arith))

-- the digits of the tens at the start of `head`, and the last digit
pub record Counting (x : ℕ) (places : List ℕ) (start : ℕ) (head : List ℕ) (n last : ℕ) : Type 0 where
  pub tens : Spelled (x / 10) places start
  pub shown : take n head ≡ tens_of (x / 10)
  pub digit : last ≡ 48 + x % 10

-- the digits of the tens were written
pub tens_none : (x : ℕ) (l : List ℕ) → x < 10 → take 0 l ≡ tens_of (x / 10)
unfolding tens_of
tens_none x l h = rw (lt-ltb (x / 10) 1 (omega arith))

pub tens_some : (q : ℕ) {places head head' : List ℕ} {start n : ℕ} → 1 ≤ q → q < 10000000000000000000 → Spelled q places start
    → Appended (drop start places) 0 head head' n → take n head' ≡ tens_of q
unfolding tens_of over_at decimal
tens_some q {places} {head} {head'} {start} {n} h g s w =
    let p = drop start places in
    rw (le-ltb q 1 h) (ap (take n) w.memory ∙ take_at p (drop (0 + length p) head) n (omega (arith, w.next))
    ∙ spelled_decimal s ∙ digits_more 18 q g)

module _ {x : ℕ} {places : List ℕ} {start : ℕ} {head : List ℕ} {n last : ℕ} (c : Counting x places start head n last) where
  pub counting_text : take n head ++ (last ∷ []) ≡ decimal x
  counting_text = rw (c.shown, c.digit) (split x)

  -- the next number whose last digit is 0, with one added to the tens
  pub counting_next : {places' head' : List ℕ} {start' n' y : ℕ} → y ≡ x + (58 - last) → x < 10000000000000000000
      → ((q : ℕ) → Spelled q places start → Spelled (q + 1) places' start')
      → Appended (drop start' places') 0 head head' n' → Counting y places' start' head' n' 48
  counting_next {places'} {head'} {start'} {n'} {y} e g u w =
      let z : y ≡ x + (10 - x % 10) = omega (arith, e, c.digit) in
      let f : y / 10 ≡ x / 10 + 1 = omega (arith, z) in
      let s : Spelled (y / 10) places' start' = rw f (u (x / 10) c.tens) in
      record { tens = s; shown = tens_some (y / 10) (omega (arith, f)) (omega (arith, f, g)) s w; digit = omega (arith, z) }
