-- What holds of each entry of a list holds of the entries in reverse order and of lists joined.
use mathlib.Core.List.{List, [], ◌∷◌, reverse, reverse_aux}
use Rattle.model.specs.Store.{Range}
use Rattle.model.specs.Demand.{All}
use Rattle.model.proofs.Basic.{All-append}
use Rattle.queue.specs.Rep.{joined_ranges}

module _ {A : Type 0} where
  All-onto : (Q : A → Type 0) (l r : List A) → All Q l → All Q r → All Q (reverse_aux l r)
  All-onto Q [] r t u = u
  All-onto Q (x ∷ l) r t u = All-onto Q l (x ∷ r) t.1 (t.0, u)

  pub All-reverse : (Q : A → Type 0) (l : List A) → All Q l → All Q (reverse l)
  All-reverse Q l t = All-onto Q l [] t tt

pub All-joined : (Q : Range → Type 0) (q : List (List Range)) → All (All Q) q → All Q (joined_ranges q)
All-joined Q [] t = tt
All-joined Q (l ∷ q) t = All-append Q l (joined_ranges q) t.0 (All-joined Q q t.1)
