-- Records one after the other in the model: what two lists of them leave and answer.
use mathlib.Core.Path.{◌≡◌, refl, ap}
use mathlib.Core.List.{List, [], ◌∷◌, ◌++◌}
use Prim.Native.Nat.{ℕ, suc}
use lib.ListN.{length}
use Rattle.model.specs.Store.{Hub}
use Rattle.model.specs.Rules.{Rules, Ruled, under, all_under}
use Rattle.model.specs.Answer.{Answer}
use Rattle.model.specs.Apply.{apply_ruled, hub_after, answers_to}

pub under-append : (rules : Rules) (a b : List (List ℕ)) → all_under rules (a ++ b) ≡ all_under rules a ++ all_under rules b
under-append rules [] b = refl
under-append rules (x ∷ a) b = ap (λ (l : List Ruled). under rules x ∷ l) (under-append rules a b)

pub answers-append : (h : Hub) (a b : List Ruled) → answers_to h (a ++ b) ≡ answers_to h a ++ answers_to (hub_after h a) b
unfolding hub_after answers_to
answers-append h [] b = refl
answers-append h (x ∷ a) b = ap (λ (l : List Answer). (apply_ruled h x).answer ∷ l) (answers-append (apply_ruled h x).hub a b)

pub answers-length : (h : Hub) (l : List Ruled) → length (answers_to h l) ≡ length l
unfolding answers_to
answers-length h [] = refl
answers-length h (x ∷ l) = ap suc (answers-length (apply_ruled h x).hub l)
