-- The bytes of a number, the least first, as `to_le_bytes` gives them.
use mathlib.Core.Path.{◌≡◌, refl, ap, ◌∙◌, sym}
use mathlib.Core.List.{List, ◌∷◌}
use Prim.Native.Nat.{ℕ, zero, suc, ◌*◌, ◌/◌, ◌%◌, ◌^◌}
use Rattle.std.proofs.Math.Nat.{mul_comm, pow-succ', div-one, div-div-eq-div-mul}
use Rattle.std.specs.Int.{byte_at, bytes_low_first}
use Rattle.model.specs.Row.{bytes_of}

module _ (x : ℕ) where
  same_byte : (i : ℕ) → byte_at i x ≡ x / 256 ^ i % 256
  same_byte zero = ap (λ (y : ℕ). y % 256) (sym (div-one x))
  same_byte (suc i) = refl

  from_place : (i k : ℕ) → bytes_low_first i k x ≡ bytes_of k (x / 256 ^ i)
  from_place i zero = refl
  from_place i (suc k) =
      let e : x / 256 ^ suc i ≡ x / 256 ^ i / 256 = sym (div-div-eq-div-mul x (256 ^ i) 256 ∙ ap (λ (m : ℕ). x / m) (mul_comm (256 ^ i) 256 ∙ sym (pow-succ' 256 i))) in
      rw (same_byte i, from_place (suc i) k, e)

  pub le_bytes : (k : ℕ) → bytes_low_first 0 k x ≡ bytes_of k x
  le_bytes k = from_place 0 k ∙ ap (bytes_of k) (div-one x)
