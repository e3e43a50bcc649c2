-- Whether the pools of the queue are in range (H8.3): their ranges and their lengths, in the window.
use Rattle.std.specs.Prelude.{Bool, true, ◌&&◌, List, ℕ, zero, suc, ◌+◌, ◌*◌, leb, eqb, get_or}
use Rattle.values.specs.declared.Window.{Window}
use Rattle.scans.specs.Scans.{slots_below}

-- each of the k pools whose lengths stand from place i on has 1 to so many ranges
unfoldable pub lens_fit : List ℕ → ℕ → ℕ → ℕ → Bool
lens_fit lens i most zero = true
lens_fit lens i most (suc k) = lens_fit lens i most k && (leb 1 (get_or lens (i + k) 0) && leb (get_or lens (i + k) 0) most)

-- how many ranges they have together
unfoldable pub lens_sum : List ℕ → ℕ → ℕ → ℕ
lens_sum lens i zero = 0
lens_sum lens i (suc k) = lens_sum lens i k + get_or lens (i + k) 0

-- the window lies in the memory, the slots are below n, each pool has 1 to 2b ranges, and all have as many as are queued
unfoldable pub pools_fit : Window → List ℕ → List ℕ → ℕ → ℕ → Bool
pools_fit w queue lens b n =
    leb (w.first + w.pools) 4096
    && (leb (w.from + w.queued) 4096 && slots_below queue w.from n w.queued
    && lens_fit lens w.first (2 * b) w.pools
    && eqb (lens_sum lens w.first w.pools) w.queued)
