-- The whole records of a block of the input.
use Rattle.std.specs.Prelude.{ℕ, ◌*◌, ◌/◌}

-- how many of n bytes are whole records
abbrev pub whole_records : ℕ → ℕ
whole_records n = 16 * (n / 16)
