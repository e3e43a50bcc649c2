-- An answer's two numbers stand for that answer: a remainder of a number below the divisor is the number.
use mathlib.Core.Path.{◌≡◌, refl, ap}
use Prim.Native.Nat.{ℕ, ◌+◌, ◌*◌, ◌/◌, ◌%◌, ◌<◌}
use native.Mathlib.Omega.{arith}
use native.Mathlib.Nat.{mod-eq_of_lt}
use Rattle.values.specs.declared.Answer.TheVariants.{Ok, Going, Freed, At, Value, None, Below, Done, No}
use Rattle.answers.specs.Numbers.{answer_with, answer_from, Faithful}

-- a kind and a status, put together, are taken apart
parted : (k s n : ℕ) → k < 256 → answer_from (k + 256 * s) n ≡ answer_with k s n
parted k s n h =
    let e : (k + 256 * s) % 256 ≡ k = omega arith in
    let f : (k + 256 * s) / 256 ≡ s = omega arith in
    rw (e, f)

pub faithful : Faithful
faithful Ok h = refl
faithful Going h = refl
faithful (Freed c) h = ap Freed (mod-eq_of_lt h)
faithful (At t) h = ap At (mod-eq_of_lt h)
faithful (Value x) h = parted 4 x.status x.count (omega arith)
faithful None h = refl
faithful (Below x) h = parted 7 x.status x.count (omega arith)
faithful Done h = refl
faithful (No k) h = ap No (mod-eq_of_lt h)
