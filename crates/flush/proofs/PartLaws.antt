-- Laws of a worker's part of the merged lists: lent on as a part of the slice, it comes back in its place.
use mathlib.Core.Path.{◌≡◌}
use mathlib.Core.List.{List, ◌++◌}
use Prim.Native.Nat.{ℕ, ◌+◌, ◌-◌, ◌*◌}
use native.Mathlib.Omega.{arith}
use lib.ListN.{length, take, drop}
use lib.Seq.{drop-drop}
use Rattle.lists.specs.Over.{over}
use Rattle.ranges.specs.Words.{flat}
use Rattle.queue.specs.State.{Queue, taken, rest, Took}
use Rattle.flush.specs.Flush.{part_of, with_part}

module _ (m : List ℕ) (w : ℕ) where
  -- the part as it is lent, and the whole as it comes back
  abbrev pub lent : List ℕ
  lent = take (768 * w + 768 - 768 * w) (drop (768 * w) m)

  abbrev pub back : List ℕ → List ℕ
  back part = take (768 * w) m ++ (part ++ drop (768 * w + 768 - 768 * w) (drop (768 * w) m))

  pub lent-part : lent ≡ part_of m w
  lent-part = let e : 768 * w + 768 - 768 * w ≡ 768 = omega arith in rw e

  pub back_part : (part : List ℕ) → back part ≡ with_part m w part
  back_part part = let e : 768 * w + (768 * w + 768 - 768 * w) ≡ 768 * w + 768 = omega arith in rw (drop-drop, e)

  -- what taking pools leaves in the part
  pub took-part : (q q' : Queue) (part : List ℕ) (count : ℕ) → Took q q' lent part count
      → (count ≡ length (taken q)) × ((q' ≡ rest q) × (back part ≡ with_part m w (over (flat (taken q)) (part_of m w))))
  took-part q q' part count t = (t.counted, (t.left, rw (back_part part, t.written, lent-part)))
