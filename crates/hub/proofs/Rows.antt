-- What a row of slots is as words: the first n slots copied into words and back are the same slots.
use mathlib.Core.Path.{◌≡◌, refl, sym, ap, subst, ◌∙◌}
use mathlib.Core.List.{List, [], ◌∷◌, ◌++◌}
use Prim.Native.Nat.{ℕ, zero, suc, ◌≤◌, min}
use native.Mathlib.Nat.{min-zero, suc-min-suc}
use native.Mathlib.Omega.{arith}
use lib.ListN.{length, take, drop, length-map}
use lib.Seq.{take-nil, take-suc, take-suc-set, drop-set-lt}
use Rattle.slots.specs.declared.Slot.{Slot}
use Rattle.slots.specs.Slots.{vacant_slot}
use Rattle.versions.specs.Versions.{slot_in, row_of, slot_at_in}
use Rattle.hub.specs.Rows.{copied_to}
use Rattle.hub.proofs.Growth.{length-copied}

-- as many of a list as it has, or m
take_min : {X : Type 0} (l : List X) (m : ℕ) → take (min (length l) m) l ≡ take m l
take_min [] m = take-nil (min 0 m) ∙ sym (take-nil m)
take_min (x ∷ l) zero = ap (λ (k : ℕ). take k (x ∷ l)) (min-zero (suc (length l)))
take_min {X} (x ∷ l) (suc m) =
    ap (λ (k : ℕ). take k (x ∷ l)) (suc-min-suc (length l) m) ∙ ap (λ (z : List X). x ∷ z) (take_min l m)

-- ---- the first n slots are copied, and those after them stay
copied_first : (l onto : List Slot) (n : ℕ) → n ≤ length l → n ≤ length onto → take n (copied_to l onto n) ≡ take n l
unfolding copied_to
copied_first l onto zero h k = refl
copied_first l onto (suc n) h k =
    take-suc-set (copied_to l onto n) n (slot_at_in l n) (omega (arith, length-copied l onto n))
    ∙ ap (λ (z : List Slot). z ++ (slot_at_in l n ∷ [])) (copied_first l onto n (omega arith) (omega arith))
    ∙ sym (take-suc l n vacant_slot (omega arith))

copied_rest : (l onto : List Slot) (n m : ℕ) → n ≤ m → drop m (copied_to l onto n) ≡ drop m onto
unfolding copied_to
copied_rest l onto zero m h = refl
copied_rest l onto (suc n) m h = drop-set-lt m (copied_to l onto n) n (slot_at_in l n) (omega arith) ∙ copied_rest l onto n m (omega arith)

-- ---- the door, for a row of any length: what relates the slots of the first n words before and after relates the first m slots, n being as many
-- as there are, or m
module _ (slots : List Slot) (m n : ℕ) (is : min (length slots) m ≡ n) where
  -- a row of m words means as many slots
  meant : (row : List (List ℕ)) → length row ≡ m → n ≤ length (row_of row)
  meant row long = let e : length (row_of row) ≡ length row = length-map row slot_in in omega arith

  door_in : (row row₁ : List (List ℕ)) → length row ≡ m → row_of row₁ ≡ copied_to slots (row_of row) n → take n (row_of row₁) ≡ take m slots
  door_in row row₁ long e =
      ap (take n) e ∙ copied_first slots (row_of row) n (omega arith) (meant row long) ∙ ap (λ (k : ℕ). take k slots) (sym is) ∙ take_min slots m

  door_out : (row : List (List ℕ)) → length row ≡ m → take n (row_of row) ≡ take m (copied_to (row_of row) slots n)
  door_out row long =
      let l : List Slot = copied_to (row_of row) slots n in
      let e : n ≡ min (length l) m = sym (ap (λ (k : ℕ). min k m) (length-copied (row_of row) slots n) ∙ is) in
      sym (copied_first (row_of row) slots n (meant row long) (omega arith)) ∙ ap (λ (k : ℕ). take k l) e ∙ take_min l m

  pub through : (P : List Slot → List Slot → Type 0) (row row₁ row₂ : List (List ℕ)) (slots' : List Slot) → length row ≡ m
      → row_of row₁ ≡ copied_to slots (row_of row) n → length row₂ ≡ m → slots' ≡ copied_to (row_of row₂) slots n
      → P (take n (row_of row₁)) (take n (row_of row₂))
      → (drop m slots' ≡ drop m slots) × P (take m slots) (take m slots')
  through P row row₁ row₂ slots' long e₁ long₂ e₂ p =
      let a : take n (row_of row₁) ≡ take m slots = door_in row row₁ long e₁ in
      let b : take n (row_of row₂) ≡ take m slots' = door_out row₂ long₂ ∙ ap (take m) (sym e₂) in (
        ap (drop m) e₂ ∙ copied_rest (row_of row₂) slots n m (omega arith),
        subst (λ (l : List Slot). P l (take m slots')) a (subst (P (take n (row_of row₁))) b p),
      )
