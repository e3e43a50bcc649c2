-- What billing may rely on (H13.10): from a mark to its release every marked read of a register shows the same, whatever was put, collected, opened
-- or closed since. It is stated of the calls of a history, with the records at which they were finished, and proved in theorem/proofs/MonthEnd.antt of every
-- history that has an order as demand 3 has it.
use Rattle.std.specs.Prelude.{◌≡◌, List, [], map, ℕ, ◌<◌, length}
use Rattle.model.specs.Store.{Content}
use Rattle.model.specs.Answer.{Answer}
use Rattle.model.specs.Record.{Operation, Release, MarkedRead}
use Rattle.model.specs.Demand.{Event, exchange, FinishedAt, Call, call_at, history, Demand3}

-- one of the calls asked for this, and was finished at record n with answer a
abbrev pub Finished : List Call → Operation → ℕ → Answer → Type 0
Finished h o n a = (i : ℕ) × (i < length h) × ((call_at h i).operation ≡ o) × ((call_at h i).ending ≡ FinishedAt n a)

-- between the records n and k a release of mark m was finished
abbrev pub ReleasedBetween : List Call → ℕ → ℕ → ℕ → Type 0
ReleasedBetween h m n k = (i : ℕ) × (a : Answer) × (n < i) × (i < k) × Finished h (Release m) i a

-- Two marked reads of register r and mark m, finished at the records n and k, between which the mark was not released, have the same answer.
abbrev pub SameFigures : List Call → Type 0
SameFigures h =
    (r m n k : ℕ) (a b : Answer) → Finished h (MarkedRead r m) n a → Finished h (MarkedRead r m) k b
    → n < k → (ReleasedBetween h m n k → ⊥) → a ≡ b

-- so it is of the calls of all events of which demand 3 holds
abbrev pub MonthEnd : Type 0
MonthEnd = (rows : List ℕ) (start : ℕ → Content) (es : List Event) → Demand3 rows start es → SameFigures (history 0 (map exchange es) [])
