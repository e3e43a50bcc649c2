-- `is_read` meets its contract: what `contains` answers is `read_in` of the mark as it is shown.
use Rattle.std.proofs.Common.{◌≡◌, ◌∙◌, refl, ap, Bool, ◌||◌, ℕ, List, [], ◌∷◌}
use lib.Dec.{eqb}
use Rattle.std.specs.List.{list_any}
use Rattle.marks.specs.Marks.{shown_as, read_in}
use Rattle.marks.proofs.is_read.Goals as goal

any-read_is : (m : ℕ) (l : List ℕ) → list_any (λ x. eqb x (shown_as m)) l ≡ read_in l m
unfolding read_in
any-read_is m [] = refl
any-read_is m (x ∷ l) = ap (λ (b : Bool). eqb x (shown_as m) || b) (any-read_is m l)

pub returns : goal.returns
returns c = rw c.shown_as.ensures at c.contains.ensures.value ∙ any-read_is c.args.m c.args.reading.now
