-- What an operation needs, where there are rows: they are to give it.
use mathlib.Core.Path.{◌≡◌, refl}
use mathlib.Core.Bool.{and-true}
use mathlib.Core.List.{List, [], ◌∷◌}
use Prim.Native.Nat.{ℕ, ◌<◌}
use native.Mathlib.Nat.{not-suc-le-zero}
use lib.ListN.{length}
use Rattle.model.specs.Rights.{Permission, Needed, may_on, may_on_each, each_of, has, allowed}

pub with_rows : (t : List ℕ) (v w : ℕ) (n : Needed) → 0 < length t → allowed t v w n ≡ has t v w n
with_rows [] v w n h = absurd (not-suc-le-zero h)
with_rows (x ∷ t) v w n h = refl

pub on_one : (t : List ℕ) (w : ℕ) (p : Permission) (r : ℕ) → may_on_each t w p (r ∷ []) ≡ may_on t w p r
unfolding each_of
on_one t w p r = and-true (may_on t w p r)
