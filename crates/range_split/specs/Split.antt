-- A finger in the times of a split, two ranges exchanged, and what the split leaves behind.
use Rattle.std.specs.Prelude.{◌≡◌, List, reverse, ℕ, ◌+◌, ◌-◌, ◌≤◌, ◌<◌, length, get_or}
use Rattle.lists.specs.Over.{over}
use Rattle.model.specs.Store.{Range}
use Rattle.model.specs.Ranges.{needed_of, needless_of}
use Rattle.ranges.specs.Words.{range_at, flat, put_at}
use Rattle.range_split.specs.declared.Finger.{Finger}

-- What a finger in times says of those beside it: `behind` is one more than the last one behind it, or 0, and `next` is at most the one at it.
pub record Beside (ts : List ℕ) (f : Finger) : Type 0 where
  pub within : f.at ≤ length ts
  pub none : f.at ≡ 0 → f.behind ≡ 0
  pub last : 0 < f.at → f.behind ≡ get_or ts (f.at - 1) 0 + 1
  pub next : f.at < length ts → f.next ≤ get_or ts f.at 0

-- the ranges at places i and k exchanged
abbrev pub swap_at : List ℕ → ℕ → ℕ → List ℕ
swap_at s i k = put_at (put_at s i (range_at s k)) k (range_at s i)

-- The ranges l, split by the times ts: how many are needless is answered; the needless ones stay at the front of m, the one to be
-- freed first last of them; the needed ones go to the front of out. m₀ and out₀ are the memory before.
pub record Parted (ts : List ℕ) (l : List Range) (m₀ m out₀ out : List ℕ) (r : ℕ) : Type 0 where
  pub count : r ≡ length (needless_of ts l)
  pub needless : m ≡ over (flat (reverse (needless_of ts l))) m₀
  pub needed : out ≡ over (flat (needed_of ts l)) out₀
