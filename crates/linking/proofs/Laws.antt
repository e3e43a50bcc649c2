-- An unlink from what its calls leave.
use mathlib.Core.Path.{◌≡◌, ap, ◌∙◌}
use mathlib.Core.Bool.{true, false, cond}
use mathlib.Core.List.{List}
use Prim.Native.Nat.{ℕ}
use lib.Dec.{eqb}
use Rattle.model.specs.Store.{absent}
use Rattle.slots.specs.declared.Slot.{Slot}
use Rattle.versions.specs.Versions.{slot_at_in, change_in, unlinked_in, with_older, with_newer, alone_slot}

abbrev joined_by : List Slot → Slot → List Slot
joined_by l a = cond (eqb a.older absent) l (change_in l a.older (λ v. with_newer v a.newer))

abbrev unlinked_by : List Slot → ℕ → Slot → List Slot
unlinked_by l i a = change_in (change_in (joined_by l a) a.newer (λ v. with_older v a.older)) i alone_slot

module _ (l : List Slot) (i : ℕ) (a : Slot) (loaded : a ≡ slot_at_in l i) where
  -- l₁ is the row once the older neighbour, if there is one, is changed
  unlinked : (l₁ l₂ l₃ : List Slot) → l₁ ≡ joined_by l a → l₂ ≡ change_in l₁ a.newer (λ v. with_older v a.older) → l₃ ≡ change_in l₂ i alone_slot
      → l₃ ≡ unlinked_in l i
  unfolding unlinked_in
  unlinked l₁ l₂ l₃ e₁ e₂ e₃ =
      let two = e₂ ∙ ap (λ (m : List Slot). change_in m a.newer (λ v. with_older v a.older)) e₁ in
      e₃ ∙ ap (λ (m : List Slot). change_in m i alone_slot) two ∙ ap (unlinked_by l i) loaded

  pub unlinked-oldest : (l₂ l₃ : List Slot) → eqb a.older absent ≡ true → l₂ ≡ change_in l a.newer (λ v. with_older v a.older)
      → l₃ ≡ change_in l₂ i alone_slot → l₃ ≡ unlinked_in l i
  unlinked-oldest l₂ l₃ none e₂ e₃ = unlinked l l₂ l₃ (rw none) e₂ e₃

  pub unlinked-between : (l₁ l₂ l₃ : List Slot) → eqb a.older absent ≡ false → l₁ ≡ change_in l a.older (λ v. with_newer v a.newer)
      → l₂ ≡ change_in l₁ a.newer (λ v. with_older v a.older) → l₃ ≡ change_in l₂ i alone_slot → l₃ ≡ unlinked_in l i
  unlinked-between l₁ l₂ l₃ one e₁ e₂ e₃ = unlinked l₁ l₂ l₃ (rw one e₁) e₂ e₃
