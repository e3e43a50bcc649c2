-- Whether the numbers that a worker's place names are in range (H8.3).
use Rattle.std.specs.Prelude.{Option, Some, None, Bool, true, ◌&&◌, ◌||◌, ℕ, ◌+◌, ◌*◌, ltb, leb, eqb}
use Rattle.model.specs.Store.{mark_count}
use Rattle.model.specs.Rules.{twelve_digits}
use Rattle.worker.specs.declared.Purpose.{Purpose}
use Rattle.worker.specs.declared.Purpose.TheVariants.{Single, Marked, Totaling}
use Rattle.places.specs.declared.Facts.{Facts}

-- a register, a slot or a mark, if there is one, is below n
abbrev pub named_below : Option ℕ → ℕ → Bool
named_below None n = true
named_below (Some i) n = ltb i n

-- a sum has at most 31 values of twelve digits: a group has at most 32 rows, and the sums are of those before the row
abbrev pub sum_fits : ℕ → Bool
sum_fits sum = leb sum (31 * twelve_digits)

-- a total is at one of k rows, and its sums are in range
abbrev pub purpose_fits : Purpose → ℕ → Bool
purpose_fits Single k = true
purpose_fits (Marked m) k = true
purpose_fits (Totaling g i j plus minus) k = ltb i k && (sum_fits plus && sum_fits minus)

-- the times read are those of at most p workers, or of all of them and of all marks (H13.2)
abbrev pub read_fits : ℕ → ℕ → Bool
read_fits j p = leb j p || eqb j (p + mark_count)

-- registers below V, slots below N, as many times read as there are steps for, a total at one of k rows, and marks below 12
unfoldable pub place_fits : Facts → ℕ → ℕ → ℕ → ℕ → Bool
place_fits y p v n k =
    named_below y.register v && named_below y.slot n && (read_fits y.read p && purpose_fits y.purpose k)
    && named_below y.mark mark_count
