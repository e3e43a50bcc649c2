-- Where bytes are cut into records: a whole record as sixteen bytes, and how long what is left behind the last one is.
use Rattle.std.specs.Prelude.{◌≡◌, ℕ, ◌+◌, ◌-◌, ◌*◌, ◌<◌, ◌≤◌, List, length, take, drop}
use mathlib.Core.Path.{ap, sym, subst, ◌∙◌}
use native.Mathlib.Omega.{arith}
use lib.ListN.{length-drop}
use lib.Seq.{length-take-le, take_all}
use Rattle.simulation.specs.Records.{record_at}

-- sixteen
pub cut-whole : (l : List ℕ) (i : ℕ) → take (i + 16 - i) (drop i l) ≡ take 16 (drop i l)
cut-whole l i = let sixteen : i + 16 - i ≡ 16 = omega arith in ap (λ (m : ℕ). take m (drop i l)) sixteen

pub whole_long : (l : List ℕ) (i : ℕ) → i + 16 ≤ length l → length (take (i + 16 - i) (drop i l)) ≡ 16
whole_long l i h = let e : i + 16 - i ≡ 16 = omega arith in length-take-le (i + 16 - i) (drop i l) (omega (arith, h, length-drop i l)) ∙ e

-- behind the whole records
pub rest-short : (l : List ℕ) (k : ℕ) → length l < 16 * k + 16 → length (record_at l k) < 16
rest-short l k h =
    let left : length (drop (16 * k) l) < 16 = omega (arith, h, length-drop (16 * k) l) in
    let all : record_at l k ≡ drop (16 * k) l = take_all 16 (drop (16 * k) l) (omega (arith, left)) in
    subst (λ (b : List ℕ). length b < 16) (sym all) left
