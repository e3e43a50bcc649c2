-- `first_of` meets its contract: what `position` answers is the model's `first_of` of the same test.
use Rattle.std.proofs.Common.{◌≡◌, ◌∙◌, refl, ap, cond, ltb, length, ℕ, suc, ◌+◌, arith, Bool, true, false, not, Some, None, List, [], ◌∷◌, rules, tests}
use Rattle.std.specs.List.{position_or_len}
use Rattle.std.proofs.lemmas.Iterator.{YieldsList-from_slice}
use Rattle.std.proofs.lemmas.Iterator.Search.{position_from_yields_List}
use lib.Dec.{eqb}
use Rattle.model.specs.Totals.{group_of, first_of}
use Rattle.total_rows.proofs.first_of.Goals as goal

one-more : (b : Bool) {n m : ℕ} → n ≡ m → cond (not b) (1 + n) 0 ≡ cond b 0 (suc m)
one-more true e = refl
one-more false e = omega (arith, e)

first-of_is : (g : ℕ) (l : List ℕ) → position_or_len (λ x. eqb (group_of x) g) l ≡ first_of g l
unfolding first_of
first-of_is g [] = refl
first-of_is g (x ∷ l) = one-more (eqb (group_of x) g) (first-of_is g l)

pub returns : goal.returns
returns c =
    let s = c.args in
    position_from_yields_List (λ x. eqb (group_of x) s.group) _ _ _ c.position.ensures.ran (YieldsList-from_slice s.rows.now cc) (λ x b q k. search (rules, tests))
    ∙ ap (λ (n : ℕ). cond (ltb n (length s.rows.now)) (Some n) None) (first-of_is s.group s.rows.now)
