-- The loop that writes a number's digits into places that hold zeros, from the last on. The digits still to be written, before those
-- that are, are all twenty; where none but zeros are left, they stand there already.
use mathlib.Core.Path.{◌≡◌, refl, sym, ap, ◌∙◌}
use mathlib.Core.List.{List, ◌∷◌, ◌++◌}
use Prim.Native.Nat.{ℕ, zero, suc, ◌+◌, ◌-◌, ◌/◌, ◌%◌, ◌≤◌, ◌<◌}
use native.Mathlib.Nat.{div-eq_of_lt}
use native.Mathlib.Omega.{arith}
use borrow.Author.Tests.{lt-ltb, le-ltb}
use lib.ListN.{length, take, drop, replicate, set, length-set, take-append-drop}
use lib.Seq.{append_snoc, take-take, take-set-le, set_split, drop_at, length-take-le}
use Rattle.lines.specs.Digits.{last_digits, first_shown, Spelled}
use Rattle.lines.proofs.Decimal.{last_digits-zero}

-- before a turn: the last i digits of `rest` are still to be written
pub record Spelling (d : List ℕ) (x i rest : ℕ) : Type 0 where
  pub within : i ≤ 20
  pub kept : length d ≡ 20
  pub zeros : take i d ≡ replicate i 48
  pub left : last_digits i rest ++ drop i d ≡ last_digits 20 x
  pub first : first_shown i rest ≡ first_shown 20 x

fewer_zeros : (k : ℕ) → take {A = ℕ} k (replicate (suc k) 48) ≡ replicate k 48
fewer_zeros zero = refl
fewer_zeros (suc k) = ap (λ (l : List ℕ). 48 ∷ l) (fewer_zeros k)

-- a digit is written
module _ (d : List ℕ) (x i rest : ℕ) (s : Spelling d x i rest) (h : 0 < i) where
  after : List ℕ
  after = set d (i - 1) (48 + rest % 10)

  left_after : last_digits (i - 1) (rest / 10) ++ drop (i - 1) after ≡ last_digits 20 x
  unfolding after last_digits
  left_after =
      let e : i ≡ suc (i - 1) = omega arith in
      let b : i - 1 < length d = omega (arith, s.within, s.kept) in
      let f : drop (i - 1) (set d (i - 1) (48 + rest % 10)) ≡ (48 + rest % 10) ∷ drop (suc (i - 1)) d =
      rw set_split (drop_at (take (i - 1) d) _ (i - 1) (length-take-le (i - 1) d (omega arith))) in
      rw f (sym (append_snoc (last_digits (i - 1) (rest / 10)) (48 + rest % 10) (drop (suc (i - 1)) d)) ∙ rw e at s.left)

  zeros-after : take (i - 1) after ≡ replicate (i - 1) 48
  unfolding after
  zeros-after =
      let e : i ≡ suc (i - 1) = omega arith in
      take-set-le (i - 1) d (i - 1) (48 + rest % 10) (omega arith)
      ∙ sym (take-take (i - 1) (suc (i - 1)) d (omega arith))
      ∙ ap (take (i - 1)) (rw e at s.zeros)
      ∙ fewer_zeros (i - 1)

  -- and digits are left
  pub spelling_turn : 10 ≤ rest → Spelling (set d (i - 1) (48 + rest % 10)) x (i - 1) (rest / 10)
  unfolding after first_shown
  spelling_turn l =
      let e : i ≡ suc (i - 1) = omega arith in
      record {
        within = omega (arith, s.within);
        kept = length-set d (i - 1) (48 + rest % 10) ∙ s.kept;
        zeros = zeros-after;
        left = left_after;
        first = rw (le-ltb rest 10 l) at (rw e at s.first);
      }

  -- and only zeros are left
  pub spelling_last : rest < 10 → Spelled x (set d (i - 1) (48 + rest % 10)) (i - 1)
  unfolding after first_shown
  spelling_last l =
      let e : i ≡ suc (i - 1) = omega arith in
      record {
        last = sym (take-append-drop (i - 1) after) ∙ ap (λ (p : List ℕ). p ++ drop (i - 1) after)
            (zeros-after ∙ sym (last_digits-zero (i - 1)) ∙ ap (last_digits (i - 1)) (sym (div-eq_of_lt l))) ∙ left_after;
        shown = rw (lt-ltb rest 10 l) at (rw e at s.first);
      }

-- no place is left
pub spelling_end : (d : List ℕ) (x i rest : ℕ) → Spelling d x i rest → i ≡ 0 → Spelled x d i
unfolding last_digits first_shown
spelling_end d x i rest s h = record { last = rw h at s.left; shown = h ∙ rw h at s.first }
