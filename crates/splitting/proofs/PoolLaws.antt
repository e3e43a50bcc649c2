-- Laws of a local pool's ranges written as words: one range more is three stores.
use mathlib.Core.Path.{◌≡◌, refl, ap}
use mathlib.Core.List.{List, [], ◌∷◌, ◌++◌}
use Prim.Native.Nat.{ℕ, zero, suc, ◌+◌, ◌*◌, ◌<◌}
use native.Mathlib.Nat.{add-zero, zero-add, suc-add}
use native.Mathlib.Omega.{arith}
use lib.ListN.{length}
use Rattle.lists.specs.Over.{over}
use Rattle.lists.proofs.Over.{over-nil}
use Rattle.ranges.specs.Words.{flat, put_at}
use Rattle.ranges.proofs.WordLaws.{over-put}
use Rattle.worker.specs.declared.Pool.{Pool}
use Rattle.worker.specs.Pool.{range_in, ranges_from}

-- one range more at the end
ranges_more : (q : Pool) (i n : ℕ) → ranges_from q i (n + 1) ≡ ranges_from q i n ++ (range_in q (i + n) ∷ [])
unfolding ranges_from
ranges_more q i zero = rw (add-zero i)
ranges_more q i (suc n) =
    let s : i + suc n ≡ suc i + n = omega arith in
    rw (suc-add n 1, s, ranges_more q (suc i) n)

pub length-ranges : (q : Pool) (i n : ℕ) → length (ranges_from q i n) ≡ n
unfolding ranges_from
length-ranges q i zero = refl
length-ranges q i (suc n) = ap suc (length-ranges q (suc i) n)

-- before the first turn
pub no_ranges : (q : Pool) (d : List ℕ) → d ≡ over (flat (ranges_from q 0 0)) d
unfolding ranges_from
no_ranges q d = rw over-nil

-- a turn
pub one_range : (q : Pool) (d s : List ℕ) (i : ℕ) → s ≡ over (flat (ranges_from q 0 i)) d → 3 * i + 2 < length d
    → put_at s i (range_in q i) ≡ over (flat (ranges_from q 0 (i + 1))) d
one_range q d s i e h =
    rw (e, ranges_more q 0 i, zero-add i) (over-put (ranges_from q 0 i) d i (range_in q i) (length-ranges q 0 i) h)
