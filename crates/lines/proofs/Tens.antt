-- The loop that writes the lines of one ten.
use mathlib.Core.Path.{◌≡◌, subst, ap, ◌∙◌}
use mathlib.Core.List.{List, [], ◌∷◌, ◌++◌}
use Prim.Native.Nat.{ℕ, ◌+◌, ◌-◌, ◌*◌, ◌/◌, ◌%◌, ◌≤◌, ◌<◌}
use native.Mathlib.Omega.{arith}
use lib.ListN.{length, get_or, length-append}
use Rattle.model.specs.Log.{decimal}
use Rattle.lines.specs.Digits.{tens_of}
use Rattle.lines.specs.Words.{tail_from}
use Rattle.lines.specs.Written.{Spills, Partly, OneTen, longest}
use Rattle.lines.proofs.Counting.{split}
use Rattle.lines.proofs.Filling.{partly-spill}
use Rattle.lines.proofs.Rows.{line-parts, tail_length}

-- the digits of the tens and a last digit are those of a number of the ten
number : (x j : ℕ) (tens : List ℕ) (last : ℕ) → tens ≡ tens_of (x / 10) → last ≡ 48 + x % 10 + j → x % 10 + j ≤ 9 → tens ++ (last ∷ []) ≡ decimal (x + j)
number x j tens last s d h =
    let e : (x + j) / 10 ≡ x / 10 = omega arith in
    let f : last ≡ 48 + (x + j) % 10 = omega arith in
    rw (s, ← e, f) (split (x + j))

module _ (kinds numbers tens : List ℕ) (digit begun from end : ℕ) (out₀ : List ℕ) where
  -- before the line of answer k
  pub record Tenth (out : List ℕ) (last at k : ℕ) : Type 0 where
    pub lower : from ≤ k
    pub upper : k ≤ end
    pub kept : length out ≡ length out₀
    pub digits : last ≡ digit + (k - from)
    pub room : at ≤ begun + longest * (k - from)
    pub partly : (d : List ℕ) (first most : ℕ) → Partly d first kinds numbers most out₀ begun from
        → OneTen first most (length d) tens digit begun from end → Partly d first kinds numbers most out at k

  pub tenth_turn : {out out' : List ℕ} {last at at' k : ℕ} → Tenth out last at k → k < end → length tens ≤ 8 → length out' ≡ length out
      → Spills (tens ++ (last ∷ []) ++ tail_from (get_or kinds k 0) (get_or numbers k 0)) at out out' at' → Tenth out' (last + 1) at' (k + 1)
  tenth_turn {out} {out'} {last} {at} {at'} {k} T h short l w =
      let tail : List ℕ = tail_from (get_or kinds k 0) (get_or numbers k 0) in
      let long : length (tens ++ (last ∷ []) ++ tail) ≤ longest =
      omega (arith, length-append (tens ++ (last ∷ [])) tail, length-append tens (last ∷ []), tail_length (get_or kinds k 0) (get_or numbers k 0), short) in
      record {
        lower = omega (arith, T.lower);
        upper = omega arith;
        kept = l ∙ T.kept;
        digits = omega (arith, T.digits, T.lower);
        room = omega (arith, w.next, long, T.room, T.lower);
        partly = λ d first most p t.
            let j : first + from + (k - from) ≡ first + k = omega (arith, T.lower) in
            let shown : tens ++ (last ∷ []) ≡ decimal (first + k) =
            rw j at (number (first + from) (k - from) tens last t.shown (omega (arith, T.digits, t.digit)) (omega (arith, t.digit, t.ten, h, T.lower))) in
            let line = ap (λ (x : List ℕ). x ++ tail) shown ∙ line-parts (first + k) (get_or kinds k 0) (get_or numbers k 0) in
            partly-spill d first kinds numbers most (T.partly d first most p t) (omega (arith, t.more, h)) (omega (arith, T.room, t.room, h, T.lower)) l
            (subst (λ (x : List ℕ). Spills x at out out' at') line w);
      }
