-- What the hub answers to a record: H10.3, and the refusals of H7.
use Rattle.std.specs.Prelude.{Bool, true, false, ℕ}
use Rattle.std.proofs.Math.Option.{Option, none, some}
use Rattle.model.specs.Store.{Reading, Store, Hub}

pub data Answer : Type 0 where
  -- H2.14, H4.1: set up or begun
  Ok : Answer
  -- H5.2
  Going : Answer
  -- H5.28: the slot
  Freed : ℕ → Answer
  -- H5.34: the snapshot's time
  At : ℕ → Answer
  -- H5.37, H5.39
  Value : Reading → Answer
  -- H5.37, H5.39: there is no reading
  None : Answer
  -- H12.8: a total below zero, by so much
  Below : Reading → Answer
  -- H5.3
  Done : Answer
  -- H7: the refusal's number
  No : ℕ → Answer

-- What is asked of an answer: one definition, a line for each answer.
pub record Said : Type 0 where
  -- set up or begun
  pub ok : Bool
  -- H6.8: given to a step, it ends the operation; all answers do but `going` and `freed S`
  pub ends : Bool
  -- the slot that is freed
  pub freed : Option ℕ
  -- the number of the refusal
  pub refusal : Option ℕ

abbrev pub said : Answer → Said
said Ok = record { ok = true; ends = true; freed = none; refusal = none }
said Going = record { ok = false; ends = false; freed = none; refusal = none }
said (Freed c) = record { ok = false; ends = false; freed = some c; refusal = none }
said (At t) = record { ok = false; ends = true; freed = none; refusal = none }
said (Value x) = record { ok = false; ends = true; freed = none; refusal = none }
said None = record { ok = false; ends = true; freed = none; refusal = none }
said (Below x) = record { ok = false; ends = true; freed = none; refusal = none }
said Done = record { ok = false; ends = true; freed = none; refusal = none }
said (No k) = record { ok = false; ends = true; freed = none; refusal = some k }

-- what a step leaves and answers
pub record Stepped : Type 0 where
  pub store : Store
  pub answer : Answer

-- what a record leaves and is answered
pub record Applied : Type 0 where
  pub hub : Hub
  pub answer : Answer
