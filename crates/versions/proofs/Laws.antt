-- Laws of a row of words as the slots that it means: what is loaded and stored.
use Rattle.std.specs.Prelude.{Some, None}
use mathlib.Core.Path.{◌≡◌, refl, sym, ap, ap₂, ◌∙◌, subst}
use mathlib.Core.List.{List, [], ◌∷◌}
use Prim.Native.Nat.{ℕ, zero, suc, ◌≤◌, ◌+◌, ◌%◌}
use native.Mathlib.Nat.{mod-eq_of_lt}
use native.Mathlib.Omega.{arith}
use lib.ListN.{length, get_or, set, length-map, get_or-map, get_or-eq_default}
use lib.Seq.{set_out}
use borrow.Author.Tests.{ne_eqb}
use Rattle.values.specs.Meaning.{Content}
use Rattle.slots.specs.declared.Slot.{Slot}
use Rattle.slots.specs.Slots.{vacant_slot}
use Rattle.versions.specs.Versions.{content_in, count_word, held_word, slot_in, row_of, slot_at_in, change_in}

------------------------------------------------------------------------
-- Loads and stores

-- no words mean the vacant slot
pub row_get : (l : List (List ℕ)) (i : ℕ) → slot_in (get_or l i []) ≡ slot_at_in (row_of l) i
row_get l i = sym (get_or-map slot_in l i [])

pub row_past : (l : List (List ℕ)) (i : ℕ) → length l ≤ i → vacant_slot ≡ slot_at_in (row_of l) i
row_past l i h = sym (get_or-eq_default (row_of l) vacant_slot (rw (length-map l slot_in) h))

pub row_set : (l : List (List ℕ)) (i : ℕ) (x : List ℕ) → row_of (set l i x) ≡ set (row_of l) i (slot_in x)
row_set [] i x = refl
row_set (y ∷ l) zero x = refl
row_set (y ∷ l) (suc i) x = ap (λ (z : List Slot). slot_in y ∷ z) (row_set l i x)

-- the two words of what a version holds mean that
content_words : (c : Content) → held_word c ≤ 256 → content_in (count_word c) (held_word c) ≡ c
content_words None h = refl
content_words (Some x) h =
    rw (ne_eqb (x.status + 1) 0 (omega arith))
    (ap (λ (k : ℕ). Some (record { count = x.count; status = k })) (ap (λ (k : ℕ). k % 256) (omega arith) ∙ mod-eq_of_lt (omega (arith, h))))

-- the words of a slot, stored
pub row_stored : (l : List (List ℕ)) (i : ℕ) (s : Slot) (x k : ℕ) → x ≡ count_word s.value → (k ≡ held_word s.value) × (k ≤ 256)
    → row_of (set l i (x ∷ s.low ∷ s.high ∷ s.older ∷ s.newer ∷ k ∷ [])) ≡ set (row_of l) i s
row_stored l i s x k e f =
    row_set l i (x ∷ s.low ∷ s.high ∷ s.older ∷ s.newer ∷ k ∷ [])
    ∙ ap (λ (c : Content). set (row_of l) i (record { value = c; low = s.low; high = s.high; older = s.older; newer = s.newer }))
    (ap₂ content_in e f.0 ∙ content_words s.value (subst (λ (j : ℕ). j ≤ 256) f.0 f.1))

pub row_out : (l : List (List ℕ)) (i : ℕ) (s : Slot) → length l ≤ i → row_of l ≡ set (row_of l) i s
row_out l i s h = sym (set_out (row_of l) i s (rw (length-map l slot_in) h))

-- a slot that is loaded, changed and stored
pub changed : (l m : List Slot) (i : ℕ) (f : Slot → Slot) (a : Slot) → a ≡ slot_at_in l i → m ≡ set l i (f a) → m ≡ change_in l i f
changed l m i f a ea e = e ∙ ap (λ (s : Slot). set l i (f s)) ea
