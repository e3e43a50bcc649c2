-- Lists over the numbers below n, and a row whose first n entries are set one after the other.
use mathlib.Core.Path.{◌≡◌, refl, sym, ap, ◌∙◌}
use mathlib.Core.List.{List, [], ◌∷◌, ◌++◌, map, map-append}
use Prim.Native.Nat.{ℕ, zero, suc, ◌+◌, ◌≤◌, ◌<◌}
use native.Mathlib.Omega.{arith}
use lib.ListN.{length, get_or, set, length-map}
use Rattle.lists.specs.Over.{over}
use Rattle.lists.proofs.Over.{over-nil, over-push}
use Rattle.model.specs.Store.{up_from}
use Rattle.arrays.specs.Arrays.{fill_to}
use Rattle.simulation.proofs.Fresh.{up_length, up_last}

pub map-map : {A B C : Type 0} (g : B → C) (f : A → B) (l : List A) → map (λ x. g (f x)) l ≡ map g (map f l)
map-map g f [] = refl
map-map {C = C} g f (x ∷ l) = ap (λ (q : List C). g (f x) ∷ q) (map-map g f l)

module _ {A : Type 0} where
  pub map_last : (f : ℕ → A) (n : ℕ) → map f (up_from 0 (suc n)) ≡ map f (up_from 0 n) ++ (f n ∷ [])
  map_last f n =
      let same : 0 + n ≡ n = omega arith in
      ap (map f) (up_last 0 n ∙ ap (λ (k : ℕ). up_from 0 n ++ (k ∷ [])) same) ∙ map-append f (up_from 0 n) (n ∷ [])

  pub map-long : (f : ℕ → A) (n : ℕ) → length (map f (up_from 0 n)) ≡ n
  map-long f n = length-map (up_from 0 n) f ∙ up_length 0 n

  same_from : (f g : ℕ → A) (a n : ℕ) → ((k : ℕ) → k < a + n → f k ≡ g k) → map f (up_from a n) ≡ map g (up_from a n)
  unfolding up_from
  same_from f g a zero e = refl
  same_from f g a (suc n) e = λ i. e a (omega arith) i ∷ same_from f g (a + 1) n (λ k h. e k (omega (arith, h))) i

  pub same_below : (f g : ℕ → A) (n : ℕ) → ((k : ℕ) → k < n → f k ≡ g k) → map f (up_from 0 n) ≡ map g (up_from 0 n)
  same_below f g n e = same_from f g 0 n (λ k h. e k (omega (arith, h)))

  at_from : (f : ℕ → A) (x : A) (a n k c : ℕ) → k < n → c ≡ a + k → get_or (map f (up_from a n)) k x ≡ f c
  unfolding up_from
  at_from f x a zero k c h e = absurd (omega (arith, h))
  at_from f x a (suc n) zero c h e =
      let same : a ≡ c = omega (arith, e) in
      ap f same
  at_from f x a (suc n) (suc k) c h e = at_from f x (a + 1) n k c (omega (arith, h)) (omega (arith, e))

  pub at_below : (f : ℕ → A) (x : A) (n k : ℕ) → k < n → get_or (map f (up_from 0 n)) k x ≡ f k
  at_below f x n k h = at_from f x 0 n k k h (omega arith)

-- ---- a row that is filled
pub fill_over : (l : List ℕ) (f : ℕ → ℕ) (n : ℕ) → n ≤ length l → fill_to l f n ≡ over (map f (up_from 0 n)) l
unfolding fill_to up_from
fill_over l f zero h = sym (over-nil l)
fill_over l f (suc n) h =
    ap (λ (d : List ℕ). set d n (f n)) (fill_over l f n (omega arith))
    ∙ over-push (map f (up_from 0 n)) l n (f n) (map-long f n) (omega arith)
    ∙ ap (λ (d : List ℕ). over d l) (sym (map_last f n))
