-- A call on the first words of a row is the call on the first slots of the row, and the rest of the row is as it was.
use mathlib.Core.Path.{◌≡◌, refl, sym, ap, subst, ◌∙◌}
use mathlib.Core.Logic.{⊎_elim}
use mathlib.Core.List.{List, [], ◌∷◌, ◌++◌}
use Prim.Native.Nat.{ℕ, zero, suc, ◌-◌, min}
use native.Mathlib.Nat.{sub-zero}
use native.Mathlib.Omega.{arith}
use lib.ListN.{length, take, drop, length-append, length-take, length-drop, drop_of_length-le}
use lib.Seq.{take_all, take_at, drop_at}
use Rattle.model.specs.Rules.{Given}
use Rattle.model.proofs.Basic.{le_cases}
use Rattle.state.specs.declared.Hub.{Hub}
use Rattle.state.specs.declared.Lent.{Lent}
use Rattle.slots.specs.declared.Slot.{Slot}
use Rattle.versions.specs.Versions.{slot_in, row_of}
use Rattle.called.specs.declared.Called.{Called}
use Rattle.simulation.specs.Lent.{lent_memory}
use Rattle.calls.specs.declared.Call.{Call}
use Rattle.calls.specs.Calls.{Performed}

-- ---- the first n of a list, or as many as it has
module _ {X : Type 0} where
  take-most : (n k : ℕ) (l : List X) → k ≡ min n (length l) → take k l ≡ take n l
  take-most n k l e =
      ⊎_elim
      (λ u. let is : k ≡ n = omega (arith, e, u.0) in ap (λ (j : ℕ). take j l) is)
      (λ u. take_all k l (omega (arith, e, u.0)) ∙ sym (take_all n l (omega (arith, u.0))))
      (le_cases n (length l))

  drop-most : (n k : ℕ) (l : List X) → k ≡ min n (length l) → drop k l ≡ drop n l
  drop-most n k l e =
      ⊎_elim
      (λ u. let is : k ≡ n = omega (arith, e, u.0) in ap (λ (j : ℕ). drop j l) is)
      (λ u. drop_of_length-le l {i = k} (omega (arith, e, u.0)) ∙ sym (drop_of_length-le l {i = n} (omega (arith, u.0))))
      (le_cases n (length l))

row_take : (n : ℕ) (row : List (List ℕ)) → row_of (take n row) ≡ take n (row_of row)
row_take zero row = refl
row_take (suc n) [] = refl
row_take (suc n) (w ∷ row) = ap (λ (z : List Slot). slot_in w ∷ z) (row_take n row)

-- ---- a part of as many words as were lent in the place of the first k
module _ (n k : ℕ) (row part : List (List ℕ)) (is : k ≡ min n (length row)) (same : length part ≡ length (take (k - 0) row)) where
  abbrev left : List (List ℕ)
  left = part ++ drop (k - 0) row

  part_long : length part ≡ k
  part_long = same ∙ ap (λ (j : ℕ). length (take j row)) (sub-zero k) ∙ omega (arith, is, length-take k row)

  left_long : k ≡ min n (length left)
  left_long =
      let e : length left ≡ length row =
      length-append part (drop (k - 0) row) ∙ omega (arith, is, part_long, sub-zero k, length-drop (k - 0) row) in
      is ∙ ap (min n) (sym e)

  pub rest-kept : drop n left ≡ drop n row
  rest-kept =
      sym (drop-most n k left left_long) ∙ drop_at part (drop (k - 0) row) k part_long ∙ ap (λ (j : ℕ). drop j row) (sub-zero k)
      ∙ drop-most n k row is

  first_in : row_of (take (k - 0) row) ≡ take n (row_of row)
  first_in = ap (λ (j : ℕ). row_of (take j row)) (sub-zero k) ∙ ap row_of (take-most n k row is) ∙ row_take n row

  first_out : row_of part ≡ take n (row_of left)
  first_out = ap row_of (sym (take_at part (drop (k - 0) row) k part_long) ∙ take-most n k left left_long) ∙ row_take n left

  -- ---- what a call does to the first words is what is said of the first slots, by what is asked
  module _ {h : Hub} {lent lent' : Lent} {given : Given} {bytes kinds numbers kinds' numbers' : List ℕ} {r : Called} where
    pub performed : (what this : Call) → what ≡ this
        → Performed this (lent_memory h (row_of (take (k - 0) row)) lent) given bytes kinds numbers r
        (lent_memory r.hub (row_of part) lent') kinds' numbers'
        → Performed what (lent_memory h (take n (row_of row)) lent) given bytes kinds numbers r
        (lent_memory r.hub (take n (row_of left)) lent') kinds' numbers'
    performed what this e p =
        subst (λ (w : Call). Performed w (lent_memory h (take n (row_of row)) lent) given bytes kinds numbers r
        (lent_memory r.hub (take n (row_of left)) lent') kinds' numbers') (sym e)
        (subst (λ (l : List Slot). Performed this (lent_memory h l lent) given bytes kinds numbers r
        (lent_memory r.hub (take n (row_of left)) lent') kinds' numbers') first_in
        (subst (λ (l : List Slot). Performed this (lent_memory h (row_of (take (k - 0) row)) lent) given bytes kinds numbers r
        (lent_memory r.hub l lent') kinds' numbers') first_out p))
