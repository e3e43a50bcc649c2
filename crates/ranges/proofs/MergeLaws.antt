-- Laws of the merge of two pools: which range comes first, the empty pool, and how many ranges the merge has.
use mathlib.Core.Path.{◌≡◌, refl, sym, ap, ◌∙◌}
use mathlib.Core.Bool.{Bool, true, false, cond}
use mathlib.Core.Logic.{◌⊎◌, inl, inr}
use mathlib.Core.List.{List, [], ◌∷◌, ◌++◌, append-nil}
use Prim.Native.Nat.{ℕ, suc, ◌+◌}
use native.Mathlib.Omega.{arith}
use lib.ListN.{length}
use lib.Dec.{leb}
use Rattle.model.specs.Store.{Range}
use Rattle.model.specs.Ranges.{merge, merge_into}

module _ (a : Range) (l : List Range) (b : Range) (bs : List Range) where
  pub merge-first : leb a.high b.high ≡ true → merge (a ∷ l) (b ∷ bs) ≡ a ∷ merge l (b ∷ bs)
  unfolding merge merge_into
  merge-first e = rw e

  pub merge-second : leb a.high b.high ≡ false → merge (a ∷ l) (b ∷ bs) ≡ b ∷ merge (a ∷ l) bs
  unfolding merge merge_into
  merge-second e = rw e

pub merge-nil : (l : List Range) → merge l [] ≡ l
unfolding merge merge_into
merge-nil [] = refl
merge-nil (a ∷ l) = ap (λ (r : List Range). a ∷ r) (merge-nil l)

-- where one pool is empty, the merge is the other
pub merge-joined : (l bs : List Range) → (length l ≡ 0) ⊎ (length bs ≡ 0) → merge l bs ≡ l ++ bs
unfolding merge
merge-joined [] bs e = refl
merge-joined (a ∷ l) [] e = merge-nil (a ∷ l) ∙ sym (append-nil (a ∷ l))
merge-joined (a ∷ l) (b ∷ bs) (inl e) = absurd (omega (arith, e))
merge-joined (a ∷ l) (b ∷ bs) (inr e) = absurd (omega (arith, e))

-- a number that both sides of a choice have
length-cond : (t : Bool) (x y : List Range) (n : ℕ) → length x ≡ n → length y ≡ n → length (cond t x y) ≡ n
length-cond true x y n p q = p
length-cond false x y n p q = q

length-merge_into : (a : Range) (rest : List Range → List Range) (n : ℕ) → ((cs : List Range) → length (rest cs) ≡ n + length cs)
    → (bs : List Range) → length (merge_into a rest bs) ≡ suc n + length bs
unfolding merge_into
length-merge_into a rest n h [] = omega (arith, h [])
length-merge_into a rest n h (b ∷ bs) =
    length-cond (leb a.high b.high) (a ∷ rest (b ∷ bs)) (b ∷ merge_into a rest bs) (suc n + length (b ∷ bs))
    (omega (arith, h (b ∷ bs)))
    (omega (arith, length-merge_into a rest n h bs))

pub length-merge : (l bs : List Range) → length (merge l bs) ≡ length l + length bs
unfolding merge
length-merge [] bs = omega arith
length-merge (a ∷ l) bs = length-merge_into a (merge l) (length l) (length-merge l) bs
