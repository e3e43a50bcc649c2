-- The model's queue, a list of pools, in the queue's memory.
use Rattle.std.specs.Prelude.{cond, List, [], ◌∷◌, ◌++◌, map, ℕ, ◌+◌, ◌-◌, ◌*◌, leb, length, take}
use Rattle.lists.specs.Over.{over_at}
use Rattle.model.specs.Store.{Range}
use Rattle.values.specs.declared.Window.{Window}
use Rattle.ranges.specs.Words.{flat}
use Rattle.queue.specs.State.{Queue}

-- the ranges of all pools, one pool after the other
abbrev pub joined_ranges : List (List Range) → List Range
joined_ranges [] = []
joined_ranges (p ∷ ps) = p ++ joined_ranges ps

-- the window of the pools ps that begins at length `first` and at range `from`
abbrev pub window_at : List (List Range) → ℕ → ℕ → Window
window_at ps first from = record { first = first; pools = length ps; from = from; queued = length (joined_ranges ps) }

-- q's memory with the pools ps where its window begins: q holds the pools ps where it is queue_rep ps q
abbrev pub queue_rep : List (List Range) → Queue → Queue
queue_rep ps q =
    let w = q.window in
    record {
      queue = over_at (3 * w.from) (flat (joined_ranges ps)) q.queue;
      lens = over_at w.first (map length ps) q.lens;
      window = window_at ps w.first w.from;
    }

-- the same memory with another window
abbrev pub with_window : Queue → Window → Queue
with_window q w = record { queue = q.queue; lens = q.lens; window = w }

-- The window w of the queue ps once that has become qs. It begins where it did where no pool was taken, else behind the pools that were,
-- or, where that is past range 2048, at the front.
unfoldable pub window_after : List (List Range) → List (List Range) → Window → Window
window_after ps qs w =
    let gone = take (length ps - length qs) ps in
    let from = w.from + length (joined_ranges gone) in
    cond (leb (length ps) (length qs))
    (window_at qs w.first w.from)
    (cond (leb from 2048) (window_at qs (w.first + length gone) from) (window_at qs 0 0))
