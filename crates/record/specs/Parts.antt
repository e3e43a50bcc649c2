-- A part of the model's `decode` that the decoder has a function for.
use Rattle.std.specs.Prelude.{cond, List, ℕ}
use Rattle.model.specs.Record.{command_of, unused_zero, Decoded, Asks, Refuses}

-- the command of operation k, or refusal 2 where a byte that it does not use is not zero
abbrev pub checked_of : List ℕ → ℕ → Decoded
checked_of b k = cond (unused_zero b (command_of b k)) (Asks (command_of b k)) (Refuses 2)
