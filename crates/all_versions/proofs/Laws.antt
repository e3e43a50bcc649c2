-- A turn of the setup, and the neighbours of slots past the end.
use mathlib.Core.Path.{◌≡◌, refl, sym, ap, ◌∙◌}
use mathlib.Core.Bool.{Bool, true, false, ◌&&◌}
use mathlib.Core.List.{List}
use Prim.Native.Nat.{ℕ, zero, suc, ◌≤◌, ◌<◌, ◌+◌, ◌-◌, min}
use native.Mathlib.Nat.{add-zero, add-suc}
use native.Mathlib.Numerals.{add-one}
use native.Mathlib.Omega.{arith}
use lib.Dec.{leb}
use lib.ListN.{length, set, get_or-eq_default}
use borrow.Author.Tests.{leb-true, leb-false, lt-ltb}
use Rattle.slots.specs.declared.Slot.{Slot}
use Rattle.slots.specs.Slots.{vacant_slot, linked_to, made_slot, made_to}
use Rattle.versions.specs.Versions.{slot_at_in}

------------------------------------------------------------------------
-- Slot k of a setup, loaded as s and stored as t

pub made_more : (l m m₂ : List Slot) (v k : ℕ) (s t : Slot) → m ≡ made_to l v k → s ≡ slot_at_in m k → t ≡ made_slot k v s → m₂ ≡ set m k t
    → m₂ ≡ made_to l v (k + 1)
unfolding made_to
made_more l m m₂ v k s t before loaded made stored = rw (add-one, ← before, ← loaded, ← made) stored

------------------------------------------------------------------------
-- Past the end every slot is linked, to slot 0

linked_more : (l : List Slot) (n k : ℕ) → 0 < n → length l ≤ k → linked_to l n (suc k) ≡ linked_to l n k
unfolding linked_to
linked_more l n k some past = rw (get_or-eq_default l vacant_slot past, lt-ltb 0 n some) (kept (linked_to l n k))
  where
    kept : (t : Bool) → t && true && true ≡ t
    kept true = refl
    kept false = refl

linked_past : (l : List Slot) (n j : ℕ) → 0 < n → linked_to l n (length l + j) ≡ linked_to l n (length l)
linked_past l n zero some = ap (linked_to l n) (add-zero (length l))
linked_past l n (suc j) some =
    ap (linked_to l n) (add-suc (length l) j) ∙ linked_more l n (length l + j) some (omega arith) ∙ linked_past l n j some

pub linked_min : (l : List Slot) (n : ℕ) → linked_to l n (min n (length l)) ≡ linked_to l n n
linked_min l n = go (leb n (length l)) refl
  where
    go : (t : Bool) → leb n (length l) ≡ t → linked_to l n (min n (length l)) ≡ linked_to l n n
    go true h =
        let within = leb-true n (length l) h in
        let e : min n (length l) ≡ n = omega arith in
        ap (linked_to l n) e
    go false h =
        let beyond = leb-false n (length l) h in
        let e : min n (length l) ≡ length l = omega arith in
        let f : length l + (n - length l) ≡ n = omega arith in
        ap (linked_to l n) e ∙ sym (linked_past l n (n - length l) (omega arith)) ∙ ap (linked_to l n) f
