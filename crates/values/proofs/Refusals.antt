-- No refusal has the number 0, which stands for none.
use mathlib.Core.Path.{◌≡◌, refl}
use mathlib.Core.Bool.{false}
use lib.Dec.{eqb}
use Rattle.values.specs.declared.Refusal.{Refusal}
use Rattle.values.specs.declared.Refusal.TheVariants.{UnknownOperation, UnusedByte, UnknownWorker, OutOfRange, SetupNotAccepted, CutOff, RowTooShort, NotSetUp, AlreadySetUp, Busy, Idle, SnapshotOpen, NoSnapshot, NoFreeSlot, ClockAtEnd, ValueTooLarge, UnknownGroup, TotalTooLarge, MarkInUse, MarkEmpty, MarkBeingRead, NotDigits, NotAllowed, TableNotAccepted, UnknownStatus}
use Rattle.values.specs.Meaning.{refusal_number}

pub not-none : (k : Refusal) → eqb (refusal_number k) 0 ≡ false
not-none UnknownOperation = refl
not-none UnusedByte = refl
not-none UnknownWorker = refl
not-none OutOfRange = refl
not-none SetupNotAccepted = refl
not-none CutOff = refl
not-none RowTooShort = refl
not-none NotSetUp = refl
not-none AlreadySetUp = refl
not-none Busy = refl
not-none Idle = refl
not-none SnapshotOpen = refl
not-none NoSnapshot = refl
not-none NoFreeSlot = refl
not-none ClockAtEnd = refl
not-none ValueTooLarge = refl
not-none UnknownGroup = refl
not-none TotalTooLarge = refl
not-none MarkInUse = refl
not-none MarkEmpty = refl
not-none MarkBeingRead = refl
not-none NotDigits = refl
not-none NotAllowed = refl
not-none TableNotAccepted = refl
not-none UnknownStatus = refl
