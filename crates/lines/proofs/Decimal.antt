-- A number in decimal: its digits are the last ones of twenty places, from the first that is shown on.
use mathlib.Core.Path.{◌≡◌, refl, ap, ◌∙◌}
use mathlib.Core.Bool.{Bool, true, false, cond}
use mathlib.Core.List.{List, [], ◌∷◌, ◌++◌}
use Prim.Native.Nat.{ℕ, zero, suc, ◌+◌, ◌/◌, ◌%◌, ◌≤◌}
use native.Mathlib.Numerals.{add-one}
use native.Mathlib.Omega.{arith}
use lib.Dec.{ltb}
use lib.ListN.{length, drop, replicate, length-append, replicate-append-replicate}
use lib.Seq.{drop_at, drop-append-le}
use Rattle.model.specs.Log.{digits, decimal}
use Rattle.lines.specs.Digits.{last_digits, first_shown, Spelled}

length_digits : (f x : ℕ) → length (digits f x) ≤ f + 1
unfolding digits
length_digits zero x = omega arith
length_digits (suc f) x = by (ltb x 10) (digits f (x / 10)) (length_digits f (x / 10))
  where
    by : (b : Bool) (l : List ℕ) → length l ≤ f + 1 → length (cond b ((48 + x % 10) ∷ []) (l ++ ((48 + x % 10) ∷ []))) ≤ suc f + 1
    by true l h = omega arith
    by false l h = rw length-append (omega arith)

pub length-decimal : (x : ℕ) → length (decimal x) ≤ 20
unfolding decimal
length-decimal x = length_digits 19 x

digits-least : (f x : ℕ) → 1 ≤ length (digits f x)
unfolding digits
digits-least zero x = omega arith
digits-least (suc f) x = by (ltb x 10) (digits f (x / 10))
  where
    by : (b : Bool) (l : List ℕ) → 1 ≤ length (cond b ((48 + x % 10) ∷ []) (l ++ ((48 + x % 10) ∷ [])))
    by true l = omega arith
    by false l = rw length-append (omega arith)

pub decimal-least : (x : ℕ) → 1 ≤ length (decimal x)
unfolding decimal
decimal-least x = digits-least 19 x

pub length-last_digits : (k x : ℕ) → length (last_digits k x) ≡ k
unfolding last_digits
length-last_digits zero x = refl
length-last_digits (suc k) x = length-append (last_digits k (x / 10)) ((48 + x % 10) ∷ []) ∙ rw (length-last_digits k (x / 10)) (add-one k)

pub last_digits-zero : (k : ℕ) → last_digits k 0 ≡ replicate k 48
unfolding last_digits
last_digits-zero zero = refl
last_digits-zero (suc k) = rw (last_digits-zero k) (replicate-append-replicate k 1 48 ∙ rw (add-one k))

pub first_shown-le : (k x : ℕ) → first_shown k x ≤ k
unfolding first_shown
first_shown-le zero x = omega arith
first_shown-le (suc k) x = by (ltb x 10) (first_shown-le k (x / 10))
  where
    by : (b : Bool) {m : ℕ} → m ≤ k → cond b k m ≤ suc k
    by true h = omega arith
    by false h = omega arith

digits-shown : (f x : ℕ) → drop (first_shown (suc f) x) (last_digits (suc f) x) ≡ digits f x
unfolding first_shown last_digits digits
digits-shown zero x = by (ltb x 10)
  where
    by : (b : Bool) → drop (cond b 0 0) ((48 + x % 10) ∷ []) ≡ (48 + x % 10) ∷ []
    by true = refl
    by false = refl
digits-shown (suc f) x = by (ltb x 10) (digits-shown f (x / 10))
  where
    last : List ℕ
    last = (48 + x % 10) ∷ []

    before : List ℕ
    before = last_digits (suc f) (x / 10)

    by : (b : Bool) {l : List ℕ} → drop (first_shown (suc f) (x / 10)) before ≡ l
        → drop (cond b (suc f) (first_shown (suc f) (x / 10))) (before ++ last) ≡ cond b last (l ++ last)
    by true e = drop_at before last (suc f) (length-last_digits (suc f) (x / 10))
    by false e =
        let h : first_shown (suc f) (x / 10) ≤ length before = omega (arith, length-last_digits (suc f) (x / 10), first_shown-le (suc f) (x / 10)) in
        drop-append-le (first_shown (suc f) (x / 10)) before last h ∙ ap (λ (l : List ℕ). l ++ last) e

module _ {x : ℕ} {places : List ℕ} {start : ℕ} (s : Spelled x places start) where
  pub spelled_decimal : drop start places ≡ decimal x
  unfolding decimal
  spelled_decimal = rw (s.shown, s.last) (digits-shown 19 x)

  pub spelled_length : length places ≡ 20
  spelled_length = ap length s.last ∙ length-last_digits 20 x

  pub spelled_start : start ≤ 20
  spelled_start = omega (arith, s.shown, first_shown-le 20 x)
