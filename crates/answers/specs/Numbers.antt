-- An answer as two numbers, its kind and what its line shows after the word, and the answer that two numbers stand for.
use Rattle.std.specs.Prelude.{◌≡◌, ℕ, zero, suc, ◌+◌, ◌*◌, ◌/◌, ◌%◌, ◌<◌}
use Rattle.values.specs.declared.Answer.{Answer}
use Rattle.values.specs.declared.Answer.TheVariants.{Ok, Going, Freed, At, Value, None, Below, Done, No}

-- the kinds, in the order of H10.3; a total below zero and no reading come last. H16.5: to that of a value 256 times its status is added.
abbrev pub kind_of : Answer → ℕ
kind_of Ok = 0
kind_of Going = 1
kind_of (Freed c) = 2
kind_of (At t) = 3
kind_of (Value x) = 4 + 256 * x.status
kind_of None = 8
kind_of (Below x) = 7 + 256 * x.status
kind_of Done = 5
kind_of (No k) = 6

-- the slot, the time, the reading, how far below zero, or the refusal; 0 for an answer that is a word alone
abbrev pub number_of : Answer → ℕ
number_of Ok = 0
number_of Going = 0
number_of (Freed c) = c
number_of (At t) = t
number_of (Value x) = x.count
number_of None = 0
number_of (Below x) = x.count
number_of Done = 0
number_of (No k) = k

-- the answer of a kind without a status, of a status and a number: of a slot, a time and a refusal as many bits count as these have, and every
-- further kind is a refusal
abbrev pub answer_with : ℕ → ℕ → ℕ → Answer
answer_with zero k n = Ok
answer_with (suc zero) k n = Going
answer_with (suc (suc zero)) k n = Freed (n % 65536)
answer_with (suc (suc (suc zero))) k n = At (n % 4294967296)
answer_with (suc (suc (suc (suc zero)))) k n = Value (record { count = n; status = k })
answer_with (suc (suc (suc (suc (suc zero))))) k n = Done
answer_with (suc (suc (suc (suc (suc (suc zero)))))) k n = No (n % 256)
answer_with (suc (suc (suc (suc (suc (suc (suc zero))))))) k n = Below (record { count = n; status = k })
answer_with (suc (suc (suc (suc (suc (suc (suc (suc zero)))))))) k n = None
answer_with (suc (suc (suc (suc (suc (suc (suc (suc (suc j))))))))) k n = No (n % 256)

-- every pair of numbers stands for an answer
abbrev pub answer_from : ℕ → ℕ → Answer
answer_from k n = answer_with (k % 256) (k / 256) n

-- the numbers in an answer are in the range of their types
abbrev pub InRange : Answer → Type 0
InRange Ok = Unit {0}
InRange Going = Unit {0}
InRange (Freed c) = c < 65536
InRange (At t) = t < 4294967296
InRange (Value x) = Unit {0}
InRange None = Unit {0}
InRange (Below x) = Unit {0}
InRange Done = Unit {0}
InRange (No k) = k < 256

-- an answer's two numbers stand for that answer
abbrev pub Faithful : Type 0
Faithful = (a : Answer) → InRange a → answer_from (kind_of a) (number_of a) ≡ a
