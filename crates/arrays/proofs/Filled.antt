-- A store at the end of a fill makes it one entry longer.
use Prim.Native.Nat.{ℕ, ◌+◌}
use mathlib.Core.Path.{◌≡◌, refl}
use mathlib.Core.List.{List}
use native.Mathlib.Numerals.{add-one}
use lib.ListN.{set}
use Rattle.arrays.specs.Arrays.{fill_to}

pub fill_none : (d : List ℕ) (f : ℕ → ℕ) → d ≡ fill_to d f 0
unfolding fill_to
fill_none d f = refl

pub fill_more : (d l : List ℕ) (f : ℕ → ℕ) (i : ℕ) → l ≡ fill_to d f i → set l i (f i) ≡ fill_to d f (i + 1)
unfolding fill_to
fill_more d l f i e = rw (e, add-one i)
