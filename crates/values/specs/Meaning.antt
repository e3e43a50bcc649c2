-- What the values mean: for each case of an enum, the answer of H10.3 with its number, as the model has them.
use Rattle.std.specs.Prelude.{Option, Some, None, ℕ}
use Rattle.std.proofs.Math.Option.{none, some}
use Rattle.model.specs.Store as Model
use Rattle.model.specs.Answer as Model-as-Answer
use Rattle.values.specs.declared.Reading.{Reading}
use Rattle.values.specs.declared.Refusal.{Refusal}
use Rattle.values.specs.declared.Refusal.TheVariants.{
  UnknownOperation,
  UnusedByte,
  UnknownWorker,
  OutOfRange,
  SetupNotAccepted,
  CutOff,
  RowTooShort,
  NotSetUp,
  AlreadySetUp,
  Busy,
  Idle,
  SnapshotOpen,
  NoSnapshot,
  NoFreeSlot,
  ClockAtEnd,
  ValueTooLarge,
  UnknownGroup,
  TotalTooLarge,
  MarkInUse,
  MarkEmpty,
  MarkBeingRead,
  NotDigits,
  NotAllowed,
  TableNotAccepted,
  UnknownStatus,
}
use Rattle.values.specs.declared.Answer.{Answer}
use Rattle.values.specs.declared.Answer.TheVariants.{Ok, Going, Freed, At, Value, None as NoReading, Below, Done, No}

abbrev pub reading_of : Reading → Model.Reading
reading_of x = record { count = x.count; status = x.status }

-- what a version holds in the code: no reading, where it is from setup, or the one that a put brought
abbrev pub Content : Type 0
Content = Option Reading

-- the same as the model has it, and back
abbrev pub content_of : Content → Model.Content
content_of None = none
content_of (Some x) = some (reading_of x)

abbrev pub content_rep : Model.Content → Content
content_rep none = None
content_rep (some x) = Some (record { count = x.count; status = x.status })

-- a slot, a time, a reading, or the number of the refusal
abbrev pub answer_of : Answer → Model-as-Answer.Answer
answer_of Ok = Model-as-Answer.Ok
answer_of Going = Model-as-Answer.Going
answer_of (Freed c) = Model-as-Answer.Freed c
answer_of (At t) = Model-as-Answer.At t
answer_of (Value x) = Model-as-Answer.Value (reading_of x)
answer_of NoReading = Model-as-Answer.None
answer_of (Below x) = Model-as-Answer.Below (reading_of x)
answer_of Done = Model-as-Answer.Done
answer_of (No k) = Model-as-Answer.No k

-- the number of a refusal in H7
abbrev pub refusal_number : Refusal → ℕ
refusal_number UnknownOperation = 1
refusal_number UnusedByte = 2
refusal_number UnknownWorker = 3
refusal_number OutOfRange = 4
refusal_number SetupNotAccepted = 5
refusal_number CutOff = 6
refusal_number RowTooShort = 7
refusal_number NotSetUp = 8
refusal_number AlreadySetUp = 9
refusal_number Busy = 10
refusal_number Idle = 11
refusal_number SnapshotOpen = 12
refusal_number NoSnapshot = 13
refusal_number NoFreeSlot = 14
refusal_number ClockAtEnd = 15
refusal_number ValueTooLarge = 16
refusal_number UnknownGroup = 17
refusal_number TotalTooLarge = 18
refusal_number MarkInUse = 19
refusal_number MarkEmpty = 20
refusal_number MarkBeingRead = 21
refusal_number NotDigits = 22
refusal_number NotAllowed = 23
refusal_number TableNotAccepted = 24
refusal_number UnknownStatus = 25
