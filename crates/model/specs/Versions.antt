-- The version lists: stamping a register, linking a version as its newest, unlinking a version.
use Rattle.std.specs.Prelude.{cond, List, ℕ, eqb, get_or, set}
use Rattle.std.proofs.Math.Option.{some}
use Rattle.model.specs.Store.{absent, Reading, Slot, slot₀, Store, newest_of, with_slots}

abbrev pub set_low : Slot → ℕ → Slot
set_low v t = record { value = v.value; low = t; high = v.high; older = v.older; newer = v.newer }

abbrev pub set_high : Slot → ℕ → Slot
set_high v t = record { value = v.value; low = v.low; high = t; older = v.older; newer = v.newer }

abbrev pub set_older : Slot → ℕ → Slot
set_older v o = record { value = v.value; low = v.low; high = v.high; older = o; newer = v.newer }

abbrev pub set_newer : Slot → ℕ → Slot
set_newer v n = record { value = v.value; low = v.low; high = v.high; older = v.older; newer = n }

-- a slot with no neighbours; value, low and high stay
abbrev pub alone : Slot → Slot
alone v = set_older (set_newer v absent) absent

-- slot c of a row changed by f; where there is no such slot, nothing changes
abbrev pub change : List Slot → ℕ → (Slot → Slot) → List Slot
change l c f = set l c (f (get_or l c slot₀))

-- H1.13: stamp the register whose newest version is in slot n, at clock t. If that version has no low, its low and the high of its older
-- neighbour become t.
unfoldable pub stamp_slots : List Slot → ℕ → ℕ → List Slot
stamp_slots l n t =
    let o = (get_or l n slot₀).older in
    let l' = change (change l n (λ v. set_low v t)) o (λ v. set_high v t) in
    cond (eqb (get_or l n slot₀).low absent) l' l

-- stamp register r
unfoldable pub stamp : Store → ℕ → Store
stamp s r = with_slots s (stamp_slots s.slots (newest_of s r) s.clock)

-- H5.7: a put's version: x, unset low, open high, above the version in slot c
abbrev pub published : Reading → ℕ → Slot
published x c = record { value = some x; low = absent; high = absent; older = c; newer = absent }

-- H5.7: slot f gets the version of a put and stands above slot c
unfoldable pub link_slots : List Slot → ℕ → ℕ → Reading → List Slot
link_slots l c f x = set (change l c (λ v. set_newer v f)) f (published x c)

-- H5.25: unlink slot c: its neighbours become each other's. H5.26: the slot itself has none then, so that the test of lent memory has one
-- rule for every slot.
unfoldable pub unlink_slots : List Slot → ℕ → List Slot
unlink_slots l c =
    let o = (get_or l c slot₀).older in
    let n = (get_or l c slot₀).newer in
    change (change (change l o (λ v. set_newer v n)) n (λ v. set_older v o)) c alone
