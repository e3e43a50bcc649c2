-- `may` meets its contract: what `any` answers is the model's `any_of` of the same test.
use Rattle.std.proofs.Common.{◌≡◌, ◌∙◌, refl, ap, Bool, ◌||◌, ℕ, List, [], ◌∷◌, rules, tests}
use Rattle.std.specs.List.{list_any}
use Rattle.std.proofs.lemmas.Iterator.{YieldsList-from_slice}
use Rattle.std.proofs.lemmas.Iterator.Search.{any_from_yields_List}
use Rattle.model.specs.Rights.{any_of}
use Rattle.rights.specs.Needs.{permission_of}
use Rattle.rights.specs.Places.{gives_in}
use Rattle.rights.proofs.may.Goals as goal

any-of_is : (f : ℕ → Bool) (l : List ℕ) → list_any f l ≡ any_of f l
unfolding any_of
any-of_is f [] = refl
any-of_is f (x ∷ l) = ap (λ (b : Bool). f x || b) (any-of_is f l)

pub returns : goal.returns
returns c =
    let s = c.args in
    let f = gives_in s.w (permission_of s.p) s.register in
    any_from_yields_List f _ _ _ c.any.ensures.ran (YieldsList-from_slice s.rights.now cc) (λ x b q k. search (rules, tests))
    ∙ any-of_is f s.rights.now
