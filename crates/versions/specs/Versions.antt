-- The version lists in a row of words, six a slot: the same changes as the model's (model/specs/Versions.antt), on the slots that the
-- words mean.
use Rattle.std.specs.Prelude.{Some, None, cond, List, map, ℕ, ◌+◌, ◌-◌, ◌%◌, eqb, get_or, set}
use Rattle.model.specs.Store.{absent}
use Rattle.values.specs.declared.Reading.{Reading}
use Rattle.values.specs.Meaning.{Content}
use Rattle.slots.specs.declared.Slot.{Slot}
use Rattle.slots.specs.Slots.{vacant_slot}

------------------------------------------------------------------------
-- Words

-- what a version holds, of the word that has its count and the word that has its status plus one, 0 where there is no reading
abbrev pub content_in : ℕ → ℕ → Content
content_in x k = cond (eqb k 0) None (Some (record { count = x; status = (k - 1) % 256 }))

-- the two words of what a version holds: its count, and its status plus one; both 0 where there is no reading
abbrev pub count_word : Content → ℕ
count_word None = 0
count_word (Some x) = x.count

abbrev pub held_word : Content → ℕ
held_word None = 0
held_word (Some x) = x.status + 1

-- H1.7, H16.1: the count, low and high time, older and newer neighbour, and the status
abbrev pub slot_in : List ℕ → Slot
slot_in l = record { value = content_in (get_or l 0 0) (get_or l 5 0); low = get_or l 1 0; high = get_or l 2 0; older = get_or l 3 0; newer = get_or l 4 0 }

abbrev pub row_of : List (List ℕ) → List Slot
row_of l = map slot_in l

------------------------------------------------------------------------
-- A slot with one part replaced

abbrev pub with_low : Slot → ℕ → Slot
with_low s x = record { value = s.value; low = x; high = s.high; older = s.older; newer = s.newer }

abbrev pub with_high : Slot → ℕ → Slot
with_high s x = record { value = s.value; low = s.low; high = x; older = s.older; newer = s.newer }

abbrev pub with_older : Slot → ℕ → Slot
with_older s x = record { value = s.value; low = s.low; high = s.high; older = x; newer = s.newer }

abbrev pub with_newer : Slot → ℕ → Slot
with_newer s x = record { value = s.value; low = s.low; high = s.high; older = s.older; newer = x }

-- a slot with no neighbours
abbrev pub alone_slot : Slot → Slot
alone_slot s = with_older (with_newer s absent) absent

-- H5.7: the version that a put publishes above slot i
abbrev pub published_slot : Reading → ℕ → Slot
published_slot x i = record { value = Some x; low = absent; high = absent; older = i; newer = absent }

------------------------------------------------------------------------
-- A row with some slots changed

-- slot i; past the end nothing changes
abbrev pub slot_at_in : List Slot → ℕ → Slot
slot_at_in l i = get_or l i vacant_slot

abbrev pub change_in : List Slot → ℕ → (Slot → Slot) → List Slot
change_in l i f = set l i (f (slot_at_in l i))

-- H1.13: stamp the register whose newest version is in slot i, at clock k. If that version has no low, its low and the high of its older
-- neighbour become k.
unfoldable pub stamped_in : List Slot → ℕ → ℕ → List Slot
stamped_in l i k =
    cond (eqb (slot_at_in l i).low absent)
    (change_in (change_in l i (λ v. with_low v k)) (slot_at_in l i).older (λ v. with_high v k)) l

-- H5.7: slot f gets the version of a put and stands above slot i
unfoldable pub linked_in : List Slot → ℕ → ℕ → Reading → List Slot
linked_in l i f x = set (change_in l i (λ v. with_newer v f)) f (published_slot x i)

-- H5.25, H5.26: unlink slot i: its neighbours become each other's, and it has none. A version without an older neighbour leaves nothing to
-- change there.
unfoldable pub unlinked_in : List Slot → ℕ → List Slot
unlinked_in l i =
    let o = (slot_at_in l i).older in
    let n = (slot_at_in l i).newer in
    change_in (change_in (cond (eqb o absent) l (change_in l o (λ v. with_newer v n))) n (λ v. with_older v o)) i alone_slot
