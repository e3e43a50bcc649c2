-- The decision on a record: the refusal that it meets, or what is to be done. The record is the model's; the rest is what memory has.
use Rattle.std.specs.Prelude.{Bool, cond, ◌&&◌, Result, Ok, Err, List, ℕ, ltb, leb}
use Rattle.model.specs.Record.{SetUp, Begin, Step, Decoded, Asks, Refuses, list_fits}
use Rattle.model.specs.Apply.{in_ranges}
use Rattle.gate.specs.declared.Gate.{Gate}
use Rattle.gate.specs.declared.Gate.TheVariants.{Make, Go}
use Rattle.gate.specs.Gate.{seen_of, begin_gate}

-- 5: the sizes and the clock are in their ranges, and the row is long enough for n slots
abbrev pub sizes_ok : ℕ → ℕ → ℕ → ℕ → ℕ → Bool
sizes_ok p v n k long = in_ranges (record { P = p; V' = v; N = n; clock = k }) && leb n long

-- 5: and the list that comes with it is one that a setup accepts
abbrev pub setup_ok : ℕ → ℕ → ℕ → ℕ → ℕ → List ℕ → Bool
setup_ok p v n k long list = sizes_ok p v n k long && list_fits v list

-- What is to be done with a record that was read: 9 or 5 of a setup, with the list that comes with it; 8, then those of a begin; 8 or 3 of a step.
-- `up` says that the memory counts as set up, `idle` and `has` that the worker is idle and has a time; `rows` are the rows of totals, `marks` the
-- times of the marks, `reading` says which mark each worker reads, and `table` has the rows of rights.
unfoldable pub gate_of : Decoded → Bool → ℕ → ℕ → ℕ → Bool → Bool → List ℕ → List ℕ → List ℕ → List ℕ → List ℕ → Result Gate ℕ
gate_of (Asks (SetUp z)) up p v long idle has list rows marks reading table =
    cond up (Err 9)
    (cond (setup_ok z.P z.V' z.N z.clock long list) (Ok (Make z.P z.V' z.N z.clock)) (Err 5))
gate_of (Asks (Begin w o)) up p v long idle has list rows marks reading table =
    cond up (begin_gate p (seen_of v rows table idle has marks reading) w o) (Err 8)
gate_of (Asks (Step w)) up p v long idle has list rows marks reading table = cond up (cond (ltb w p) (Ok (Go w)) (Err 3)) (Err 8)
gate_of (Refuses k) up p v long idle has list rows marks reading table = Err k
