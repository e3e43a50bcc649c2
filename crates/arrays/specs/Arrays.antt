-- The lent arrays of slots: each entry is a slot as a number of sixteen bits.
use Rattle.std.specs.Prelude.{List, ℕ, zero, suc, ◌%◌, set}

-- a number as a slot of sixteen bits
abbrev pub short : ℕ → ℕ
short i = i % 65536

-- the first k entries are f 0, f 1 and so on
unfoldable pub fill_to : List ℕ → (ℕ → ℕ) → ℕ → List ℕ
fill_to d f zero = d
fill_to d f (suc k) = set (fill_to d f k) k (f k)
