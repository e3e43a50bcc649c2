-- The registers of a group's rows, one after another: a row of the group decides, or the rows behind it do.
use mathlib.Core.Path.{◌≡◌, refl}
use mathlib.Core.Logic.{◌≢◌}
use mathlib.Core.Bool.{Bool, true, false}
use mathlib.Core.List.{List, [], ◌∷◌, map}
use Prim.Native.Nat.{ℕ}
use borrow.Author.Tests.{eq-eqb, ne_eqb}
use Rattle.model.specs.Totals.{group_of, register_of, of_group}
use Rattle.model.specs.Rights.{each_of}
use Rattle.rights_table.proofs.Scan.{each-fails, each-behind}

-- each register of the rows of group g
abbrev pub each_in : (ℕ → Bool) → ℕ → List ℕ → Bool
each_in f g rows = each_of f (map register_of (of_group g rows))

module _ (f : ℕ → Bool) (g : ℕ) where
  pub none_in : each_in f g [] ≡ true
  unfolding each_of of_group
  none_in = refl

  module _ (x : ℕ) (rows : List ℕ) where
    pub own-fails : group_of x ≡ g → f (register_of x) ≡ false → each_in f g (x ∷ rows) ≡ false
    unfolding of_group
    own-fails o e = rw (eq-eqb (group_of x) g o) (each-fails f (register_of x) (map register_of (of_group g rows)) e)

    pub own_behind : group_of x ≡ g → f (register_of x) ≡ true → each_in f g (x ∷ rows) ≡ each_in f g rows
    unfolding of_group
    own_behind o e = rw (eq-eqb (group_of x) g o) (each-behind f (register_of x) (map register_of (of_group g rows)) e)

    pub other-behind : group_of x ≢ g → each_in f g (x ∷ rows) ≡ each_in f g rows
    unfolding of_group
    other-behind o = rw (ne_eqb (group_of x) g o)
