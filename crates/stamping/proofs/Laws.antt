-- A stamp from what its calls leave, where slot i is loaded as a.
use mathlib.Core.Path.{◌≡◌, ap, ◌∙◌}
use mathlib.Core.Bool.{true, false, cond}
use mathlib.Core.List.{List}
use Prim.Native.Nat.{ℕ}
use lib.Dec.{eqb}
use Rattle.model.specs.Store.{absent}
use Rattle.slots.specs.declared.Slot.{Slot}
use Rattle.versions.specs.Versions.{slot_at_in, change_in, stamped_in, with_low, with_high}

abbrev stamped_by : List Slot → ℕ → ℕ → Slot → List Slot
stamped_by l i k a = cond (eqb a.low absent) (change_in (change_in l i (λ v. with_low v k)) a.older (λ v. with_high v k)) l

module _ (l : List Slot) (i k : ℕ) (a : Slot) (loaded : a ≡ slot_at_in l i) where
  pub stamped_both : (l₁ l₂ : List Slot) → eqb a.low absent ≡ true → l₁ ≡ change_in l i (λ v. with_low v k)
      → l₂ ≡ change_in l₁ a.older (λ v. with_high v k) → l₂ ≡ stamped_in l i k
  unfolding stamped_in
  stamped_both l₁ l₂ unset e₁ e₂ =
      let t : change_in (change_in l i (λ v. with_low v k)) a.older (λ v. with_high v k) ≡ stamped_by l i k a = rw unset in
      e₂ ∙ ap (λ (m : List Slot). change_in m a.older (λ v. with_high v k)) e₁ ∙ t ∙ ap (stamped_by l i k) loaded

  pub stamped_none : eqb a.low absent ≡ false → l ≡ stamped_in l i k
  unfolding stamped_in
  stamped_none stays = let t : l ≡ stamped_by l i k a = rw stays in t ∙ ap (stamped_by l i k) loaded
