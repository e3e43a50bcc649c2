-- A local pool, H1.19: a count and at most 64 ranges.
use Rattle.std.specs.Prelude.{List, [], ◌∷◌, ℕ, zero, suc, get_or}
use Rattle.model.specs.Store.{Range}
use Rattle.pools.specs.Placed.{placed, one_more}
use Rattle.worker.specs.declared.Pool.{Pool}

-- H5.12: the pool with one range more; unchanged where it is full
abbrev pub appended : Pool → ℕ → ℕ → ℕ → Pool
appended q slot low high =
    record {
      slots = placed q.slots q.len slot;
      lows = placed q.lows q.len low;
      highs = placed q.highs q.len high;
      len = one_more q.len;
    }

-- the i-th range of a pool
abbrev pub range_in : Pool → ℕ → Range
range_in q i = record { slot = get_or q.slots i 0; low = get_or q.lows i 0; high = get_or q.highs i 0 }

-- n ranges of a pool from the i-th on
unfoldable pub ranges_from : Pool → ℕ → ℕ → List Range
ranges_from q i zero = []
ranges_from q i (suc n) = range_in q i ∷ ranges_from q (suc i) n

-- the ranges of a pool: the first len
abbrev pub ranges_in : Pool → List Range
ranges_in q = ranges_from q 0 q.len
