-- Refusals by their numbers, where a function gives something or refuses.
use Rattle.std.specs.Prelude.{ℕ, Result, Ok, Err}
use Rattle.values.specs.declared.Refusal.{Refusal}
use Rattle.values.specs.Meaning.{refusal_number}

-- what is given, or the number of the refusal
abbrev pub numbered : {A : Type 0} → Result A Refusal → Result A ℕ
numbered (Ok x) = Ok x
numbered (Err k) = Err (refusal_number k)

-- what a test says: the number of the refusal, 0 where there is none
abbrev pub number_or_0 : Result (Unit {0}) Refusal → ℕ
number_or_0 (Ok x) = 0
number_or_0 (Err k) = refusal_number k
