-- The row of version slots: what is loaded past its end, the test of its neighbours, and what a setup leaves in it.
use Rattle.std.specs.Prelude.{None, Bool, true, cond, ◌&&◌, ◌||◌, List, ℕ, zero, suc, ltb, eqb, get_or, set}
use Rattle.model.specs.Store.{absent}
use Rattle.model.specs.Store as Model
use Rattle.values.specs.Meaning.{content_of, content_rep}
use Rattle.slots.specs.declared.Slot.{Slot}

-- the model's slot, in memory and back
abbrev pub slot_rep : Model.Slot → Slot
slot_rep v = record { value = content_rep v.value; low = v.low; high = v.high; older = v.older; newer = v.newer }

abbrev pub slot_of : Slot → Model.Slot
slot_of s = record { value = content_of s.value; low = s.low; high = s.high; older = s.older; newer = s.newer }

-- what is loaded past the end of the row
abbrev pub vacant_slot : Slot
vacant_slot = record { value = None; low = 0; high = 0; older = 0; newer = 0 }

-- a neighbour is a slot below n or absent
abbrev pub near : ℕ → ℕ → Bool
near n o = ltb o n || eqb o absent

abbrev pub linked_and : Bool → Slot → ℕ → Bool
linked_and ok s n = ok && near n s.older && near n s.newer

-- the neighbours of the first k slots are near
unfoldable pub linked_to : List Slot → ℕ → ℕ → Bool
linked_to l n zero = true
linked_to l n (suc k) = linked_and (linked_to l n k) (get_or l k vacant_slot) n

-- what a setup of v registers makes of slot i: the one version of register i, or a free slot, which has no neighbours
abbrev pub made_slot : ℕ → ℕ → Slot → Slot
made_slot i v s =
    cond (ltb i v) (record { value = None; low = 0; high = absent; older = absent; newer = absent })
    (record { value = s.value; low = s.low; high = s.high; older = absent; newer = absent })

-- the first n slots made
unfoldable pub made_to : List Slot → ℕ → ℕ → List Slot
made_to l v zero = l
made_to l v (suc k) = set (made_to l v k) k (made_slot k v (get_or (made_to l v k) k vacant_slot))
