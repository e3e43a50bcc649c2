-- The contract of the public function that applies the records of a buffer.
use Rattle.std.specs.Prelude.{◌≡◌, Bool, false, ◌||◌, List, [], ◌∷◌, map, ℕ, get_or}
use Rattle.model.specs.Rules.{Given}
use Rattle.lists.specs.Over.{over}
use Rattle.model.specs.Store.{Hub, up_from}
use Rattle.model.specs.Record.{SetUp, Begin, Step, Decoded, Asks, Refuses, decode}
use Rattle.model.specs.Answer.{said}
use Rattle.model.specs.Demand.{Exchange}
use Rattle.values.specs.Meaning.{answer_of}
use Rattle.values.specs.declared.Answer.{Answer}
use Rattle.answers.specs.Numbers.{kind_of, number_of, answer_from}
use Rattle.simulation.specs.Memory.{Memory}
use Rattle.simulation.specs.Left.{ready}
use Rattle.simulation.specs.Holds.{Holds, Decided, AsModel}
use Rattle.simulation.specs.Public.{OnAny, exchange_of}
use Rattle.simulation.specs.Records.{record_at, count_of}
use Rattle.simulation.specs.Loop.{RanAll}

-- the answer that the two numbers at k stand for
abbrev pub answer_at : List ℕ → List ℕ → ℕ → Answer
answer_at kinds numbers k = answer_from (get_or kinds k 0) (get_or numbers k 0)

-- record k of the bytes, with what was given for a setup, and its answer
abbrev pub exchange_at : Given → List ℕ → List ℕ → List ℕ → ℕ → Exchange
exchange_at given bytes kinds numbers k = exchange_of given (record_at bytes k) (answer_at kinds numbers k)

-- A record that reads as d sets the hub up: it is a setup, and `ok` says that it was answered so.
unfoldable pub sets_up : Decoded → Bool → Bool
sets_up (Asks (SetUp z)) ok = ok
sets_up (Asks (Begin w o)) ok = false
sets_up (Asks (Step w)) ok = false
sets_up (Refuses k) ok = false

-- Records one after the other on any memory, and their answers. Memory is tested before the first (H8.8): `up` says whether it counted as set up then
-- or a setup was accepted since.
unfoldable pub EachOnAny : Bool → Memory → List (List ℕ) → List Answer → Memory → Type 0
EachOnAny up m [] [] m' = m' ≡ m
EachOnAny up m [] (y ∷ ys) m' = ⊥
EachOnAny up m (b ∷ bs) [] m' = ⊥
EachOnAny up m (b ∷ bs) (y ∷ ys) m' =
    (x : Memory) × OnAny up m b y x × EachOnAny (up || sets_up (decode b) (said (answer_of y)).ok) x bs ys m'

-- The records of the bytes, any bytes, with what is given for a setup, met the memory m, the first n of them, as many as there is room for; their answers were written over the
-- two rows, and the memory m' was left.
pub record Applies (m : Memory) (given : Given) (bytes kinds numbers : List ℕ) (n : ℕ) (m' : Memory) (kinds' numbers' : List ℕ) : Type 0 where
  pub count : n ≡ count_of bytes kinds numbers
  pub answers : List Answer
  pub answer_kinds : kinds' ≡ over (map kind_of answers) kinds
  pub answer_numbers : numbers' ≡ over (map number_of answers) numbers
  -- Memory that holds a hub of the model: what the model does is done, and the numbers of an answer stand for it. This is demand 2 (H6.2).
  pub as_model : (h : Hub) → Holds h m → AsModel h m (map (exchange_at given bytes kinds' numbers') (up_from 0 n)) m'
  pub read_back : Decided m → map (answer_at kinds' numbers') (up_from 0 n) ≡ answers
  -- Any memory: demand 1 (H6.1), and what the loop does.
  pub on_any : EachOnAny (ready m) m (map (record_at bytes) (up_from 0 n)) answers m'
  pub ran : RanAll m given bytes kinds numbers n m' kinds' numbers'
