-- Scans of numbers that lie in lent memory: whether each of the first k is below a bound.
use Rattle.std.specs.Prelude.{Bool, true, ◌&&◌, List, ℕ, zero, suc, ◌+◌, ◌*◌, ltb, get_or}
use Rattle.model.specs.Totals.{register_of, row_at}

-- the first k numbers are below n
unfoldable pub below_to : List ℕ → ℕ → ℕ → Bool
below_to l n zero = true
below_to l n (suc k) = below_to l n k && ltb (get_or l k 0) n

-- the slots of the k ranges from place i on are below n
unfoldable pub slots_below : List ℕ → ℕ → ℕ → ℕ → Bool
slots_below words i n zero = true
slots_below words i n (suc k) = slots_below words i n k && ltb (get_or words (3 * (i + k)) 0) n

-- the registers of the first k rows of totals are below v
unfoldable pub rows_below : List ℕ → ℕ → ℕ → Bool
rows_below rows v zero = true
rows_below rows v (suc k) = rows_below rows v k && ltb (register_of (row_at rows k)) v
