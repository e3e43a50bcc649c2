-- Laws of a list in an array: its entries are the array's first, and one more entry is one store. They are those of `over`.
use Rattle.std.specs.Prelude.{Some}
use mathlib.Core.Path.{◌≡◌}
use mathlib.Core.List.{List, [], ◌∷◌, ◌++◌}
use Prim.Native.Nat.{ℕ, ◌≤◌, ◌<◌}
use lib.ListN.{length, get_or, set, replicate, length-replicate}
use borrow.Author.Tests.{lt-ltb}
use Rattle.lists.proofs.Over.{over-nil, over-push, length_over, get_d_over_in}
use Rattle.model.specs.Store.{absent}
use Rattle.worker.specs.Rep.{padded, announced_rep}

pub padded-nil : (n : ℕ) → padded n [] ≡ replicate n 0
unfolding padded
padded-nil n = over-nil (replicate n 0)

pub length-padded : (n : ℕ) (l : List ℕ) → length l ≤ n → length (padded n l) ≡ n
unfolding padded
length-padded n l h = rw (length_over l (replicate n 0) (rw (length-replicate {A = ℕ} n 0) h)) (length-replicate n 0)

pub padded-at : (n : ℕ) (l : List ℕ) (i : ℕ) → i < length l → get_or (padded n l) i 0 ≡ get_or l i 0
unfolding padded
padded-at n l i h = get_d_over_in l (replicate n 0) i 0 h

-- one entry more, at k, the list's length
pub padded-push : (n : ℕ) (l : List ℕ) (k x : ℕ) → length l ≡ k → k < n → set (padded n l) k x ≡ padded n (l ++ (x ∷ []))
unfolding padded
padded-push n l k x e h = over-push l (replicate n 0) k x e (rw (length-replicate {A = ℕ} n 0) h)

-- a time that is there
pub announced_at : (t : ℕ) → t < absent → announced_rep t ≡ Some t
announced_at t h = rw (lt-ltb t absent h)
