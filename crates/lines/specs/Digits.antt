-- A number's digits in twenty places, zeros before them.
use Rattle.std.specs.Prelude.{◌≡◌, cond, List, [], ◌∷◌, ◌++◌, ℕ, zero, suc, ◌+◌, ◌/◌, ◌%◌, ltb}
use Rattle.model.specs.Log.{digits}

-- the last k digits of x
unfoldable pub last_digits : ℕ → ℕ → List ℕ
last_digits zero x = []
last_digits (suc k) x = last_digits k (x / 10) ++ ((48 + x % 10) ∷ [])

-- the place of the first digit that is shown, of the last k digits of x: the zeros before x's own digits are not
unfoldable pub first_shown : ℕ → ℕ → ℕ
first_shown zero x = 0
first_shown (suc k) x = cond (ltb x 10) k (first_shown k (x / 10))

-- the twenty places hold the last twenty digits of x, and those from place `start` on are x in decimal
pub record Spelled (x : ℕ) (places : List ℕ) (start : ℕ) : Type 0 where
  pub last : places ≡ last_digits 20 x
  pub shown : start ≡ first_shown 20 x

-- the digits before the last of a number whose tens are q: none where there are no tens
unfoldable pub tens_of : ℕ → List ℕ
tens_of q = cond (ltb q 1) [] (digits 18 q)

-- the digit of x at a unit, or nothing where x is below it
unfoldable pub lead_of : ℕ → ℕ → List ℕ
lead_of x unit = cond (ltb x unit) [] ((48 + x / unit % 10) ∷ [])
