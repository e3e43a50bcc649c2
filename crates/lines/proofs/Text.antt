-- The loop that copies a text into lent memory. A byte that is stored is the first of those still to be stored,
-- so what they lead to does not change; at the end none is left.
use mathlib.Core.Path.{◌≡◌, ◌∙◌}
use mathlib.Core.List.{List}
use Prim.Native.Nat.{ℕ, ◌+◌, ◌≤◌}
use lib.ListN.{length, drop, drop_of_length-le}
use lib.Seq.{sets, sets-eq}
use Rattle.lists.specs.Over.{over_at}

-- before turn i: what is left of the text, still to be stored, leads to what is to be left behind
pub record Copying (d₀ d t : List ℕ) (from i : ℕ) : Type 0 where
  pub within : i ≤ length t
  pub kept : length d ≡ length d₀
  pub left : sets d (from + i) (drop i t) ≡ sets d₀ from t

pub copying_end : (d₀ d t : List ℕ) (from i : ℕ) → Copying d₀ d t from i → length t ≤ i → from + length t ≤ length d₀ → d ≡ over_at from t d₀
unfolding over_at
copying_end d₀ d t from i w h k = (rw (drop_of_length-le t h) at w.left) ∙ sets-eq t d₀ from k
