-- Slots copied from one row into another.
use Rattle.std.specs.Prelude.{List, ℕ, zero, suc, set}
use Rattle.slots.specs.declared.Slot.{Slot}
use Rattle.versions.specs.Versions.{slot_at_in}

-- the first n slots are copied from one row into another
unfoldable pub copied_to : List Slot → List Slot → ℕ → List Slot
copied_to slots onto zero = onto
copied_to slots onto (suc n) = set (copied_to slots onto n) n (slot_at_in slots n)
