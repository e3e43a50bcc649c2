-- Copied slots are as many as before.
use mathlib.Core.Path.{◌≡◌, refl, ◌∙◌}
use mathlib.Core.List.{List}
use Prim.Native.Nat.{ℕ, zero, suc}
use lib.ListN.{length, length-set}
use Rattle.slots.specs.declared.Slot.{Slot}
use Rattle.versions.specs.Versions.{slot_at_in}
use Rattle.hub.specs.Rows.{copied_to}

pub length-copied : (slots onto : List Slot) (k : ℕ) → length (copied_to slots onto k) ≡ length onto
unfolding copied_to
length-copied slots onto zero = refl
length-copied slots onto (suc k) = length-set (copied_to slots onto k) k (slot_at_in slots k) ∙ length-copied slots onto k
