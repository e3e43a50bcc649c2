-- The walk along a list that ends at the first entry that decides: what the entries that were passed leave to be decided. A turn looks at one
-- entry, and either it decides or the walk goes on behind it.
use mathlib.Core.Path.{◌≡◌, refl, ap, ◌∙◌}
use mathlib.Core.Bool.{Bool, true, false}
use mathlib.Core.List.{List, [], ◌∷◌}
use Prim.Native.Nat.{ℕ, ◌+◌, ◌≤◌, ◌<◌}
use native.Mathlib.Numerals.{add-one}
use lib.ListN.{length, get_or, drop, drop_of_length-le}
use lib.Seq.{drop-cons}
use Rattle.model.specs.Rights.{any_of, each_of}

module _ (F : List ℕ → Bool) (l : List ℕ) where
  -- the entries before i decide nothing
  abbrev pub Passed : ℕ → Type 0
  Passed i = F l ≡ F (drop i l)

  pub turn : (i x : ℕ) → i < length l → x ≡ get_or l i 0 → Passed i → F l ≡ F (x ∷ drop (i + 1) l)
  turn i x h e p = p ∙ ap F (rw (drop-cons l i 0 h, ← e, add-one i))

  pub passed-all : (i : ℕ) → length l ≤ i → Passed i → F l ≡ F []
  passed-all i h p = p ∙ ap F (drop_of_length-le l h)

-- what one entry decides
module _ (f : ℕ → Bool) where
  pub any_none : any_of f [] ≡ false
  unfolding any_of
  any_none = refl

  pub each_none : each_of f [] ≡ true
  unfolding each_of
  each_none = refl

  module _ (x : ℕ) (l : List ℕ) where
    pub any_here : f x ≡ true → any_of f (x ∷ l) ≡ true
    unfolding any_of
    any_here e = rw e

    pub any-behind : f x ≡ false → any_of f (x ∷ l) ≡ any_of f l
    unfolding any_of
    any-behind e = rw e

    pub each-fails : f x ≡ false → each_of f (x ∷ l) ≡ false
    unfolding each_of
    each-fails e = rw e

    pub each-behind : f x ≡ true → each_of f (x ∷ l) ≡ each_of f l
    unfolding each_of
    each-behind e = rw e
