-- A list of which the first i elements are mapped: what a loop that replaces one element a turn has made.
use Prim.Native.Nat.{ℕ, zero, suc, ◌<◌}
use mathlib.Core.Path.{◌≡◌, refl, sym, ap, ◌∙◌}
use mathlib.Core.List.{List, [], ◌∷◌, map}
use native.Mathlib.Nat.{le_of_suc-le-suc, not-suc-le-zero}
use lib.ListN.{length, get_or, set, length-map}

abbrev pub mapped : {A : Type 0} → (A → A) → ℕ → List A → List A
mapped f zero l = l
mapped f (suc i) [] = []
mapped f (suc i) (x ∷ xs) = f x ∷ mapped f i xs

pub mapped-all : {A : Type 0} (f : A → A) (l : List A) → mapped f (length l) l ≡ map f l
mapped-all f [] = refl
mapped-all f (x ∷ xs) = ap (λ (ys : List _). f x ∷ ys) (mapped-all f xs)

pub mapped-more : {A : Type 0} (f : A → A) (d : A) (l : List A) (i : ℕ) → i < length l
    → set (mapped f i l) i (f (get_or (mapped f i l) i d)) ≡ mapped f (suc i) l
mapped-more f d [] i h = absurd (not-suc-le-zero h)
mapped-more f d (x ∷ xs) zero h = refl
mapped-more f d (x ∷ xs) (suc i) h = ap (λ (ys : List _). f x ∷ ys) (mapped-more f d xs i (le_of_suc-le-suc h))

-- the length of an array of structs, as `search` is to find it in what is known of a parameter
pub length-mapped : (X Y : Type 0) (f : X → Y) (l : List X) (n : ℕ) → length (map f l) ≡ n → length l ≡ n
length-mapped X Y f l n e = sym (length-map l f) ∙ e
