-- The queue of pools in lent memory: what a pool pushed at its end and the pools taken from its front make of it.
use Rattle.std.specs.Prelude.{◌≡◌, Bool, cond, ◌&&◌, List, [], ℕ, ◌+◌, ◌-◌, ◌*◌, ◌≤◌, min, ltb, leb, length, take, drop, get_or, set}
use Rattle.lists.specs.Over.{over, over_at, shifted}
use Rattle.model.specs.Store.{Range}
use Rattle.model.specs.Ranges.{merge}
use Rattle.values.specs.declared.Window.{Window}
use Rattle.ranges.specs.Words.{ranges_at, flat}

-- the words of all ranges, one pool after the other, the pools' lengths, and the window in which both lie
pub record Queue : Type 0 where
  pub queue : List ℕ
  pub lens : List ℕ
  pub window : Window

-- the queue in two pieces of memory
abbrev pub pools_in : List ℕ → List ℕ → Window → Queue
pools_in queue lens w = record { queue = queue; lens = lens; window = w }

-- The window begins in the first half of the memory, and no pool before it was empty.
pub record Begins (w : Window) : Type 0 where
  pub first : w.first ≤ w.from
  pub from : w.from ≤ 2048

-- a window lies in the memory
unfoldable pub lies : Window → Bool
lies w = leb w.first 2048 && leb w.pools 2048 && (leb w.from 2048 && leb w.queued 2048)

------------------------------------------------------------------------
-- A pool more

-- there is room for a pool of n ranges, which is not empty
unfoldable pub room : Window → ℕ → Bool
room w n = lies w && ltb 0 n && (ltb w.pools 2048 && leb (w.queued + n) 2048)

-- src's first n ranges as a pool at the end; an empty pool is not queued, nor one without room
unfoldable pub pushed : Queue → List ℕ → ℕ → Queue
pushed q src n =
    let w = q.window in
    cond (room w n) (record {
      queue = over_at (3 * (w.from + w.queued)) (take (3 * n) src) q.queue;
      lens = set q.lens (w.first + w.pools) n;
      window = record { first = w.first; pools = w.pools + 1; from = w.from; queued = w.queued + n };
    }) q

------------------------------------------------------------------------
-- Up to two pools less

-- the length of pool i; a pool that is not there has the length 0
abbrev pub length_at : List ℕ → Window → ℕ → ℕ
length_at lens w i = get_or (take w.pools (drop w.first lens)) i 0

-- the lengths of the first and the second pool
abbrev pub first_length : Queue → ℕ
first_length q = length_at q.lens q.window 0

abbrev pub second_length : Queue → ℕ
second_length q = length_at q.lens q.window 1

-- how many ranges the two have together
abbrev pub first_ranges : Queue → ℕ
first_ranges q = first_length q + second_length q

-- the window lies in the memory, and the first two lengths are those of a queue whose first two pools have at most 256 ranges
unfoldable pub may_take : Queue → Bool
may_take q = lies q.window && (leb (first_ranges q) q.window.queued && leb (first_ranges q) 256)

-- H5.15: the first two pools, merged
unfoldable pub taken : Queue → List Range
taken q =
    cond (may_take q)
    (merge (ranges_at q.queue q.window.from (first_length q)) (ranges_at q.queue (q.window.from + first_length q) (second_length q)))
    []

-- the queue without its first two pools, of r ranges: the window begins behind them, or, where that is past range 2048, what is left moves
-- to the front
unfoldable pub moved_on : Queue → ℕ → Queue
moved_on q r =
    let w = q.window in
    cond (leb (w.from + r) 2048) (record {
      queue = q.queue;
      lens = q.lens;
      window = record { first = w.first + min 2 w.pools; pools = w.pools - 2; from = w.from + r; queued = w.queued - r };
    }) (record {
      queue = shifted q.queue (3 * (w.from + r)) (3 * (w.from + w.queued));
      lens = shifted q.lens (w.first + min 2 w.pools) (w.first + w.pools);
      window = record { first = 0; pools = w.pools - 2; from = 0; queued = w.queued - r };
    })

unfoldable pub rest : Queue → Queue
rest q = cond (may_take q) (moved_on q (first_ranges q)) q

-- what taking makes of the queue q₀ and of the memory for the merged list, and how many ranges that has
pub record Took (q₀ q : Queue) (merged₀ merged : List ℕ) (count : ℕ) : Type 0 where
  pub counted : count ≡ length (taken q₀)
  pub written : merged ≡ over (flat (taken q₀)) merged₀
  pub left : q ≡ rest q₀
