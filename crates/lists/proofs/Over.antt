-- Laws of lent memory of which a part is replaced, and of the loops that replace it entry by entry.
use mathlib.Core.Path.{◌≡◌, refl, sym, ap, ◌∙◌}
use mathlib.Core.List.{List, [], ◌∷◌, ◌++◌}
use Prim.Native.Nat.{ℕ, suc, ◌+◌, ◌-◌, ◌≤◌, ◌<◌}
use native.Mathlib.Numerals.{add-one}
use native.Mathlib.Omega.{arith}
use lib.ListN.{length, take, drop, get_or, set, length-append, length-drop, get_or-append}
use lib.Seq.{drop-cons, drop-drop, drop-append-add, set_at, append_snoc, get_or-append-add, get_or-drop, get_or-take, take_at, take-suc}
use lib.Seq.{length-take-le}
use Rattle.lists.specs.Over.{over, shifted}

module _ {A : Type 0} where
  pub over-nil : (d : List A) → over [] d ≡ d
  unfolding over
  over-nil d = refl

  -- one entry more
  pub over-push : (p d : List A) (n : ℕ) (v : A) → length p ≡ n → n < length d → set (over p d) n v ≡ over (p ++ (v ∷ [])) d
  unfolding over
  over-push p d n v e h =
      let k : length p < length d = omega arith in
      let s : length (p ++ (v ∷ [])) ≡ suc (length p) = length-append p (v ∷ []) ∙ add-one (length p) in
      rw (drop-cons d (length p) v k) (set_at p _ _ v n e ∙ rw s (sym (append_snoc p v (drop (suc (length p)) d))))

  pub length_over : (p d : List A) → length p ≤ length d → length (over p d) ≡ length d
  unfolding over
  length_over p d h = simp (length-append, length-drop) (omega arith)

  -- of two replacements the longer counts, where it is the second
  pub over-longer : (p q d : List A) → length q ≤ length p → over p (over q d) ≡ over p d
  unfolding over
  over-longer p q d h =
      let e : length p ≡ length q + (length p - length q) = omega arith in
      ap (λ (l : List A). p ++ l)
      (ap (λ (n : ℕ). drop n (q ++ drop (length q) d)) e
      ∙ drop-append-add q (drop (length q) d) (length p - length q)
      ∙ drop-drop (length p - length q) (length q) d
      ∙ ap (λ (n : ℕ). drop n d) (sym e))

  -- past the replaced entries it is as it was
  pub get_d_over_past : (p d : List A) (j : ℕ) (z : A) → length p ≤ j → get_or (over p d) j z ≡ get_or d j z
  unfolding over
  get_d_over_past p d j z h =
      let e : j ≡ length p + (j - length p) = omega arith in
      rw e (get_or-append-add p (drop (length p) d) (j - length p) z ∙ get_or-drop (length p) d (j - length p) z)

  pub get_d_over_in : (p d : List A) (j : ℕ) (z : A) → j < length p → get_or (over p d) j z ≡ get_or p j z
  unfolding over
  get_d_over_in p d j z h = get_or-append p (drop (length p) d) z j h

  pub take-over : (p d : List A) (k : ℕ) → length p ≡ k → take k (over p d) ≡ p
  unfolding over
  take-over p d k e = take_at p (drop (length p) d) k e

  -- a turn of a loop that moves entries down by n
  pub shift_push : (s₀ s : List A) (n i : ℕ) (z : A) → s ≡ over (take i (drop n s₀)) s₀ → i + n < length s₀
      → set s i (get_or s (i + n) z) ≡ over (take (i + 1) (drop n s₀)) s₀
  shift_push s₀ s n i z e h =
      let l : length (take i (drop n s₀)) ≡ i = length-take-le i (drop n s₀) (rw (length-drop n s₀) (omega arith)) in
      let b : i < length (drop n s₀) = rw (length-drop n s₀) (omega arith) in
      let c : n + i ≡ i + n = omega arith in
      let g : get_or (over (take i (drop n s₀)) s₀) (i + n) z ≡ get_or (drop n s₀) i z = get_d_over_past _ s₀ (i + n) z (omega arith)
      ∙ sym (get_or-drop n s₀ i z ∙ rw c) in
      rw (e, g, add-one, take-suc (drop n s₀) i z b) (over-push (take i (drop n s₀)) s₀ i (get_or (drop n s₀) i z) l (omega arith))

  pub get_d_shifted : (s : List A) (n k j : ℕ) (z : A) → k ≤ length s → j + n < k → get_or (shifted s n k) j z ≡ get_or s (n + j) z
  unfolding shifted
  get_d_shifted s n k j z h l =
      let e : length (take (k - n) (drop n s)) ≡ k - n = length-take-le (k - n) (drop n s) (rw (length-drop n s) (omega arith)) in
      get_d_over_in (take (k - n) (drop n s)) s j z (omega arith) ∙ get_or-take (k - n) (drop n s) j z (omega arith) ∙ get_or-drop n s j z
