-- Ranges in lent memory: three words each, the slot, the low and the high, one range after the other.
use Rattle.std.specs.Prelude.{List, [], ◌∷◌, ℕ, zero, suc, ◌+◌, ◌*◌, get_or, set}
use Rattle.model.specs.Store.{Range}
use Rattle.ranges.specs.declared.Range as Code

-- a range as the code has it
abbrev pub range_of : Code.Range → Range
range_of ρ = record { slot = ρ.slot; low = ρ.low; high = ρ.high }

-- the range at place i
abbrev pub range_at : List ℕ → ℕ → Range
range_at s i = record { slot = get_or s (3 * i) 0; low = get_or s (3 * i + 1) 0; high = get_or s (3 * i + 2) 0 }

-- the n ranges from place i on: memory, place, how many
abbrev pub ranges_at : List ℕ → ℕ → ℕ → List Range
ranges_at s i zero = []
ranges_at s i (suc n) = range_at s i ∷ ranges_at s (suc i) n

-- ranges as words
abbrev pub flat : List Range → List ℕ
flat [] = []
flat (ρ ∷ l) = ρ.slot ∷ ρ.low ∷ ρ.high ∷ flat l

-- the range at place k replaced
abbrev pub put_at : List ℕ → ℕ → Range → List ℕ
put_at s k ρ = set (set (set s (3 * k) ρ.slot) (3 * k + 1) ρ.low) (3 * k + 2) ρ.high
