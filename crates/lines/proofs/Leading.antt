-- The loop that writes a number's digits from the first on, without a branch: zeros before them spill.
use mathlib.Core.Path.{◌≡◌, refl, sym, ap, subst, ◌∙◌}
use mathlib.Core.Bool.{Bool, true, false, cond}
use mathlib.Core.List.{List, [], ◌∷◌, ◌++◌, append-nil}
use Prim.Native.Nat.{ℕ, zero, suc, ◌+◌, ◌*◌, ◌/◌, ◌%◌, ◌^◌, ◌≤◌, ◌<◌}
use native.Mathlib.Nat.{div-eq_of_lt, div-le_self, div-div-eq-div-mul, div-one, le-div_iff_mul-le, not-le_of_lt}
use native.Mathlib.Omega.{arith}
use borrow.Author.Tests.{lt-ltb, le-ltb, ltb-true, ltb-false}
use lib.Dec.{ltb}
use lib.ListN.{length}
use Rattle.model.specs.Log.{digits, decimal}
use Rattle.lines.specs.Digits.{tens_of, lead_of}
use Rattle.lines.specs.Written.{Appended, Spills}
use Rattle.lines.proofs.Appending.{over_at-nil}
use Rattle.lines.proofs.Counting.{digits_more, split}
use Rattle.lines.proofs.Spilling.{spills_none, spills_then}

-- a digit more of q: it is the last, or there is none
digit_more : (q : ℕ) → 1 ≤ q → q < 1000000000000000000 → tens_of (q / 10) ++ ((48 + q % 10) ∷ []) ≡ tens_of q
unfolding tens_of digits
digit_more q h g =
    let more : digits 18 (q / 10) ≡ digits 17 (q / 10) = digits_more 17 (q / 10) (omega arith) in
    rw (le-ltb q 1 h) (by (ltb q 10) refl more)
  where
    by : (b : Bool) {l m : List ℕ} → ltb q 10 ≡ b → l ≡ m
        → cond (ltb (q / 10) 1) [] l ++ ((48 + q % 10) ∷ []) ≡ cond b ((48 + q % 10) ∷ []) (m ++ ((48 + q % 10) ∷ []))
    by true e f = let h = ltb-true q 10 e in rw (lt-ltb (q / 10) 1 (omega arith))
    by false e f = let h = ltb-false q 10 e in rw (le-ltb (q / 10) 1 (omega arith), f)

-- the digits down to a unit
lead_more : (x u : ℕ) → 1 ≤ u → x < 100000000 → tens_of (x / u / 10) ++ lead_of x u ≡ tens_of (x / u)
unfolding lead_of
lead_more x u h g = by (ltb x u) refl
  where
    by : (b : Bool) → ltb x u ≡ b → tens_of (x / u / 10) ++ cond b [] ((48 + x / u % 10) ∷ []) ≡ tens_of (x / u)
    by true e = let z = div-eq_of_lt (ltb-true x u e) in rw z (append-nil (tens_of (0 / 10)))
    by false e = digit_more (x / u) ((le-div_iff_mul-le h).1 (omega (arith, ltb-false x u e))) (omega (arith, div-le_self x u))

-- a zero before x's digits, or a digit
pub lead_none : (x u : ℕ) {d e : List ℕ} {i j : ℕ} → x < u → Appended ((48 + x / u % 10) ∷ []) i d e j → Spills (lead_of x u) i d e i
unfolding lead_of
lead_none x u h w = rw (lt-ltb x u h) (record { spilled = (48 + x / u % 10) ∷ []; few = omega arith; memory = w.memory; next = omega arith })

pub lead_some : (x u : ℕ) {d e : List ℕ} {i j : ℕ} → u ≤ x → Appended ((48 + x / u % 10) ∷ []) i d e j → Spills (lead_of x u) i d e j
unfolding lead_of
lead_some x u h w = rw (le-ltb x u h) (spills_none w)

-- before a turn: the digits above the unit are written
pub record Leading (x at : ℕ) (d e : List ℕ) (end unit : ℕ) : Type 0 where
  pub i : ℕ
  pub power : unit ≡ 10 ^ i
  pub small : x < 100000000
  pub kept : length e ≡ length d
  pub inside : at + 8 ≤ length d
  pub short : end + i ≤ at + 7
  pub written : Spills (tens_of (x / unit / 10)) at d e end

pub leading_start : (x at : ℕ) (d : List ℕ) → x < 100000000 → at + 8 ≤ length d → Leading x at d d at 10000000
unfolding tens_of
leading_start x at d h g =
    let z : x / 10000000 / 10 ≡ 0 = omega arith in
    record {
      i = 7;
      power = refl;
      small = h;
      kept = refl;
      inside = g;
      short = omega arith;
      written = rw z (record { spilled = []; few = omega arith; memory = sym (over_at-nil d at); next = omega arith });
    }

module _ {x at : ℕ} {d e : List ℕ} {end unit : ℕ} (l : Leading x at d e end unit) where
  pub leading_unit : 1 ≤ unit
  leading_unit = subst (λ (n : ℕ). 1 ≤ n) (sym l.power) (by l.i)
    where
      by : (i : ℕ) → 1 ≤ 10 ^ i
      by zero = omega arith
      by (suc i) = omega (arith, by i)

  pub leading_turn : {f : List ℕ} {end' : ℕ} → 1 < unit → length f ≡ length e → Spills (lead_of x unit) end e f end' → end' ≤ end + 1
      → Leading x at d f end' (unit / 10)
  leading_turn {f} {end'} h k w b = by l.i l.power l.short
    where
      by : (i : ℕ) → unit ≡ 10 ^ i → end + i ≤ at + 7 → Leading x at d f end' (unit / 10)
      by zero p s = absurd (not-le_of_lt h (omega (arith, p)))
      by (suc i) p s =
          let u : unit ≡ unit / 10 * 10 = omega (arith, p) in
          let q : x / (unit / 10) / 10 ≡ x / unit = div-div-eq-div-mul x (unit / 10) 10 ∙ ap (λ (n : ℕ). x / n) (sym u) in
          let t : tens_of (x / unit / 10) ++ lead_of x unit ≡ tens_of (x / (unit / 10) / 10) =
          lead_more x unit leading_unit l.small ∙ ap tens_of (sym q) in
          record {
            i = i;
            power = omega (arith, p);
            small = l.small;
            kept = k ∙ l.kept;
            inside = l.inside;
            short = omega arith;
            written = subst (λ (p : List ℕ). Spills p at d f end') t (spills_then (omega (arith, l.inside)) l.written w);
          }

  pub leading_end : {f : List ℕ} {n : ℕ} → unit ≤ 1 → Appended ((48 + x % 10) ∷ []) end e f n → Spills (decimal x) at d f n
  leading_end {f} {n} h w =
      let u : unit ≡ 1 = omega (arith, leading_unit) in
      let q : x / unit / 10 ≡ x / 10 = ap (λ (n : ℕ). x / n / 10) u ∙ ap (λ (n : ℕ). n / 10) (div-one x) in
      let t : tens_of (x / unit / 10) ++ ((48 + x % 10) ∷ []) ≡ decimal x = ap (λ (n : ℕ). tens_of n ++ ((48 + x % 10) ∷ [])) q ∙ split x in
      subst (λ (p : List ℕ). Spills p at d f n) t (spills_then (omega (arith, l.inside)) l.written (spills_none w))
