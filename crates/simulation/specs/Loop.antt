-- What the loop over the records does, on any memory: the contract of the functions behind the public ones. It says of each record what the code
-- does to memory (specs/Shell.antt).
use Rattle.std.specs.Prelude.{◌≡◌, Bool, true, false, ◌||◌, List, ℕ, zero, suc, set}
use Rattle.model.specs.Rules.{Given}
use Rattle.values.specs.declared.Answer.{Answer}
use Rattle.values.specs.declared.Answer.TheVariants.{Ok}
use Rattle.answers.specs.Numbers.{kind_of, number_of}
use Rattle.gate.specs.Gate.{Decided}
use Rattle.gate.specs.declared.Gate.TheVariants.{Make, Start, Go}
use Rattle.std.specs.Prelude.{Ok as Grants, Err as Refuse}
use Rattle.simulation.specs.Memory.{Memory}
use Rattle.simulation.specs.Left.{ready}
use Rattle.simulation.specs.Shell.{gate_in, done_as}
use Rattle.simulation.specs.Records.{record_at, count_of}

-- a setup was accepted
abbrev pub makes : Decided → Bool
makes (Refuse k) = false
makes (Grants (Make p v n k)) = true
makes (Grants (Start w d)) = false
makes (Grants (Go w)) = false

-- whether the memory counts as set up, the memory, the answers so far as two rows of numbers, the kind of answer k and its number, and the
-- last of them, `Ok` before the first
pub record State : Type 0 where
  pub up : Bool
  pub memory : Memory
  pub kinds : List ℕ
  pub numbers : List ℕ
  pub last : Answer

-- record k has the bytes b; what is given is looked at by a setup alone
unfoldable pub next : State → Given → ℕ → List ℕ → State
next s given k b =
    record {
      up = s.up || makes (gate_in s.up s.memory given b);
      memory = (done_as s.up s.memory given b).memory;
      kinds = set s.kinds k (kind_of (done_as s.up s.memory given b).answer);
      numbers = set s.numbers k (number_of (done_as s.up s.memory given b).answer);
      last = (done_as s.up s.memory given b).answer;
    }

-- after the first k records of the bytes
unfoldable pub after : State → Given → List ℕ → ℕ → State
after s given bytes zero = s
after s given bytes (suc k) = next (after s given bytes k) given k (record_at bytes k)

-- before the first record: memory is tested once
abbrev pub before : Memory → List ℕ → List ℕ → State
before m kinds numbers = record { up = ready m; memory = m; kinds = kinds; numbers = numbers; last = Ok }

-- The first n records of the bytes, with what is given for a setup, met the memory m; the memory m' was left, and the answers were written over the two rows, y the
-- last of them.
pub record Ran (m : Memory) (given : Given) (bytes kinds numbers : List ℕ) (n : ℕ) (m' : Memory) (kinds' numbers' : List ℕ) (y : Answer) : Type 0 where
  pub memory : m' ≡ (after (before m kinds numbers) given bytes n).memory
  pub answer_kinds : kinds' ≡ (after (before m kinds numbers) given bytes n).kinds
  pub answer_numbers : numbers' ≡ (after (before m kinds numbers) given bytes n).numbers
  pub last : y ≡ (after (before m kinds numbers) given bytes n).last

-- as many records as the bytes have and as there is room for answers
pub record RanAll (m : Memory) (given : Given) (bytes kinds numbers : List ℕ) (n : ℕ) (m' : Memory) (kinds' numbers' : List ℕ) : Type 0 where
  pub count : n ≡ count_of bytes kinds numbers
  pub last : Answer
  pub ran : Ran m given bytes kinds numbers n m' kinds' numbers' last
