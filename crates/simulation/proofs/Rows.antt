-- The row of slots: a change of one slot in memory is the model's change, and so a stamp, a link and an unlink are the model's. Memory behind
-- the store's slots stays.
use mathlib.Core.Path.{◌≡◌, refl, sym, ap, ◌∙◌}
use mathlib.Core.Bool.{true, false, cond}
use mathlib.Core.Logic.{◌≢◌, ◌⊎◌, inl, inr, ⊎_elim}
use mathlib.Core.List.{List, map}
use Prim.Native.Nat.{ℕ, ◌≤◌, ◌<◌}
use native.Mathlib.Omega.{arith}
use lib.Dec.{eqb}
use lib.ListN.{length, get_or, set, length-set}
use lib.Seq.{set_out}
use borrow.Author.Tests.{eq-eqb, ne_eqb}
use Rattle.lists.specs.Over.{over}
use Rattle.model.specs.Store as Model
use Rattle.model.specs.Store.{absent, slot₀}
use Rattle.model.specs.Versions.{set_low, set_high, set_older, set_newer, alone, change, published, stamp_slots, link_slots, unlink_slots}
use Rattle.model.proofs.Basic.{eq_cases}
use Rattle.worker.specs.Rep.{reading_rep}
use Rattle.slots.specs.declared.Slot.{Slot}
use Rattle.slots.specs.Slots.{slot_rep}
use Rattle.versions.specs.Versions.{with_low, with_high, with_older, with_newer, alone_slot, published_slot, change_in, stamped_in, linked_in}
use Rattle.versions.specs.Versions.{unlinked_in}
use Rattle.simulation.proofs.Laws.{slot-at, slot_set}

-- the model's slots l lie in front of the row d
abbrev pub row_with : List Model.Slot → List Slot → List Slot
row_with l d = over (map slot_rep l) d

-- one slot changed
pub changed_row : (l : List Model.Slot) (d : List Slot) (c : ℕ) (F : Slot → Slot) (f : Model.Slot → Model.Slot)
    → ((v : Model.Slot) → F (slot_rep v) ≡ slot_rep (f v)) → c < length l → change_in (row_with l d) c F ≡ row_with (change l c f) d
changed_row l d c F f same h =
    ap (λ (z : Slot). set (row_with l d) c (F z)) (slot-at l d c h)
    ∙ ap (set (row_with l d) c) (same (get_or l c slot₀))
    ∙ slot_set l d c (f (get_or l c slot₀)) h

------------------------------------------------------------------------
-- A stamp: n is the newest version's slot; where it is unstamped, there is a next older one

module _ (l : List Model.Slot) (d : List Slot) (n k : ℕ) (inside : n < length l)
    (unstamped : (get_or l n slot₀).low ≡ absent → (get_or l n slot₀).older < length l) where
  abbrev v : Model.Slot
  v = get_or l n slot₀

  abbrev stamped_by : Slot → List Slot
  stamped_by a =
      cond (eqb a.low absent) (change_in (change_in (row_with l d) n (λ z. with_low z k)) a.older (λ z. with_high z k)) (row_with l d)

  pub stamped_row : stamped_in (row_with l d) n k ≡ row_with (stamp_slots l n k) d
  unfolding stamped_in stamp_slots
  stamped_row = ap stamped_by (slot-at l d n inside) ∙ ⊎_elim when otherwise (eq_cases v.low absent)
    where
      l' : List Model.Slot
      l' = change l n (λ z. set_low z k)

      when : (v.low ≡ absent) × (eqb v.low absent ≡ true)
          → stamped_by (slot_rep v) ≡ row_with (cond (eqb v.low absent) (change l' v.older (λ z. set_high z k)) l) d
      when (e, t) =
          rw t
          (ap (λ (r : List Slot). change_in r v.older (λ z. with_high z k))
          (changed_row l d n (λ z. with_low z k) (λ z. set_low z k) (λ z. refl) inside)
          ∙ changed_row l' d v.older (λ z. with_high z k) (λ z. set_high z k) (λ z. refl) (rw (length-set l n (set_low v k)) (unstamped e)))

      otherwise : (v.low ≢ absent) × (eqb v.low absent ≡ false)
          → stamped_by (slot_rep v) ≡ row_with (cond (eqb v.low absent) (change l' v.older (λ z. set_high z k)) l) d
      otherwise (e, t) = rw t

------------------------------------------------------------------------
-- A link: slot f above slot n

pub linked_row : (l : List Model.Slot) (d : List Slot) (n f : ℕ) (x : Model.Reading) → n < length l → f < length l
    → linked_in (row_with l d) n f (reading_rep x) ≡ row_with (link_slots l n f x) d
unfolding linked_in link_slots
linked_row l d n f x inside free =
    let l' : List Model.Slot = change l n (λ z. set_newer z f) in
    ap (λ (r : List Slot). set r f (published_slot (reading_rep x) n)) (changed_row l d n (λ z. with_newer z f) (λ z. set_newer z f) (λ z. refl) inside)
    ∙ slot_set l' d f (published x n) (rw (length-set l n (set_newer (get_or l n slot₀) f)) free)

------------------------------------------------------------------------
-- An unlink: slot c has a newer neighbour, and an older one or none

module _ (l : List Model.Slot) (d : List Slot) (c : ℕ) (inside : c < length l) (behind : (get_or l c slot₀).newer < length l)
    (few : length l ≤ absent) (near : ((get_or l c slot₀).older ≡ absent) ⊎ ((get_or l c slot₀).older < length l)) where
  abbrev o : ℕ
  o = (get_or l c slot₀).older

  abbrev n : ℕ
  n = (get_or l c slot₀).newer

  abbrev older : List Model.Slot
  older = change l o (λ z. set_newer z n)

  long : length older ≡ length l
  long = length-set l o (set_newer (get_or l o slot₀) n)

  abbrev unlinked_by : Slot → List Slot
  unlinked_by a =
      change_in
      (change_in (cond (eqb a.older absent) (row_with l d) (change_in (row_with l d) a.older (λ z. with_newer z a.newer))) a.newer
      (λ z. with_older z a.older))
      c alone_slot

  first : cond (eqb o absent) (row_with l d) (change_in (row_with l d) o (λ z. with_newer z n)) ≡ row_with older d
  first = by near
    where
      by : (o ≡ absent) ⊎ (o < length l) → cond (eqb o absent) (row_with l d) (change_in (row_with l d) o (λ z. with_newer z n)) ≡ row_with older d
      by (inl e) = rw (eq-eqb o absent e) (ap (λ (r : List Model.Slot). row_with r d) (sym (set_out l o (set_newer (get_or l o slot₀) n) (omega arith))))
      by (inr h) = rw (ne_eqb o absent (λ e. omega arith)) (changed_row l d o (λ z. with_newer z n) (λ z. set_newer z n) (λ z. refl) h)

  pub unlinked-row : unlinked_in (row_with l d) c ≡ row_with (unlink_slots l c) d
  unfolding unlinked_in unlink_slots
  unlinked-row =
      let newer : List Model.Slot = change older n (λ z. set_older z o) in
      ap unlinked_by (slot-at l d c inside)
      ∙ ap (λ (r : List Slot). change_in (change_in r n (λ z. with_older z o)) c alone_slot) first
      ∙ ap (λ (r : List Slot). change_in r c alone_slot) (changed_row older d n (λ z. with_older z o) (λ z. set_older z o) (λ z. refl) (rw long behind))
      ∙ changed_row newer d c alone_slot alone (λ z. refl) (rw (length-set older n (set_older (get_or older n slot₀) o), long) inside)
