-- Laws of entries that are copied to a place and of entries that are moved down.
use mathlib.Core.Path.{◌≡◌, sym, ap, ◌∙◌}
use mathlib.Core.List.{List, [], ◌∷◌, ◌++◌, append_assoc}
use Prim.Native.Nat.{ℕ, ◌+◌, ◌-◌, ◌≤◌, ◌<◌}
use native.Mathlib.Omega.{arith}
use lib.ListN.{length, take, drop, set, length-append, length-drop}
use lib.Seq.{paste, paste-zero, length-take-le, take_all, take_at, take-append_seam, drop-append_seam}
use lib.Seq.{drop-drop, drop_at}
use Rattle.lists.specs.Over.{over, over_at, shifted}
use Rattle.lists.proofs.Parts.{over_at-over}
use Rattle.lists.proofs.Over.{over-push, length_over}

module _ {A : Type 0} where
  -- a copy of n entries, in the library's words
  over_at-paste : (d : List A) (i : ℕ) (s : List A) (n : ℕ) → n ≤ length s → over_at i (take n s) d ≡ paste d i s n
  unfolding over_at
  over_at-paste d i s n h = rw (length-take-le n s h)

  pub over_at-none : (d : List A) (i : ℕ) (s : List A) → d ≡ over_at i (take 0 s) d
  over_at-none d i s = paste-zero d i s ∙ sym (over_at-paste d i s 0 (omega arith))

  -- of the replaced entries a ++ b those of b move to the front
  pub shifted-over : (s p a b : List A) (n k : ℕ) → s ≡ over p s → p ≡ a ++ b → length a ≡ n → n + length b ≡ k → shifted s n k ≡ over b s
  unfolding over shifted
  shifted-over s p a b n k e f g h =
      let x : List A = drop (length p) s in
      let z : k - n ≡ length b = omega arith in
      let s-is : s ≡ a ++ (b ++ x) = e ∙ ap (λ (l : List A). l ++ x) f ∙ append_assoc a b x in
      let b-is : take (k - n) (drop n s) ≡ b =
      rw z (ap (λ (l : List A). take (length b) (drop n l)) s-is ∙ rw (drop_at a (b ++ x) n g) (take-append_seam b x)) in
      ap (λ (l : List A). over l s) b-is

  -- memory whose front was replaced has those entries there
  pub over-again : (p d : List A) → over p (over p d) ≡ over p d
  unfolding over
  over-again p d = rw (drop-append_seam p (drop (length p) d))

  -- the part from a to the end, lent and given back
  pub part_is : (s : List A) (a : ℕ) → take (length s - a) (drop a s) ≡ drop a s
  part_is s a = take_all (length s - a) (drop a s) (rw (length-drop a s) (omega arith))

  -- entries replaced from place i on are front entries replaced, the first i of them by themselves
  pub over_at-front : (i : ℕ) (p d : List A) → i ≤ length d → over_at i p d ≡ over (take i d ++ p) d
  unfolding over over_at
  over_at-front i p d h = rw (length-append (take i d) p, length-take-le i d h)

  -- behind the place they are the front
  pub drop-over_at : (i : ℕ) (p d : List A) → i ≤ length d → drop i (over_at i p d) ≡ over p (drop i d)
  unfolding over over_at
  drop-over_at i p d h =
      rw (append_assoc (take i d) p (drop (i + length p) d), drop_at (take i d) (p ++ drop (i + length p) d) i (length-take-le i d h), drop-drop (length p) i d)

  -- entries copied behind those that were replaced
  pub over_at-more : (i j : ℕ) (p w d : List A) → i ≤ length d → i + length p ≡ j → over_at j w (over_at i p d) ≡ over_at i (p ++ w) d
  over_at-more i j p w d h e =
      let n : length (take i d ++ p) ≡ j = length-append (take i d) p ∙ omega (arith, length-take-le i d h) in
      ap (over_at j w) (over_at-front i p d h)
      ∙ over_at-over (take i d ++ p) w d j n
      ∙ ap (λ (l : List A). over l d) (append_assoc (take i d) p w)
      ∙ sym (over_at-front i (p ++ w) d h)

  -- one entry
  pub over_at-one : (i j : ℕ) (p d : List A) (v : A) → i + length p ≡ j → j < length d → set (over_at i p d) j v ≡ over_at i (p ++ (v ∷ [])) d
  over_at-one i j p d v e h =
      let b : i ≤ length d = omega arith in
      let n : length (take i d ++ p) ≡ j = length-append (take i d) p ∙ omega (arith, length-take-le i d b) in
      ap (λ (l : List A). set l j v) (over_at-front i p d b)
      ∙ over-push (take i d ++ p) d j v n h
      ∙ ap (λ (l : List A). over l d) (append_assoc (take i d) p (v ∷ []))
      ∙ sym (over_at-front i (p ++ (v ∷ [])) d b)

  -- memory of which entries were replaced has those entries there
  pub over_at-again : (i : ℕ) (p d : List A) → i ≤ length d → over_at i p (over_at i p d) ≡ over_at i p d
  unfolding over_at
  over_at-again i p d h =
      let x : List A = drop (i + length p) d in
      let n = length-take-le i d h in
      let m : length (take i d ++ p) ≡ i + length p = length-append (take i d) p ∙ omega arith in
      let a : take i (take i d ++ p ++ x) ≡ take i d = rw (append_assoc (take i d) p x) (take_at (take i d) (p ++ x) i n) in
      let b : drop (i + length p) (take i d ++ p ++ x) ≡ x = drop_at (take i d ++ p) x (i + length p) m in
      rw (a, b)

  pub length-over_at : (i : ℕ) (p d : List A) → i + length p ≤ length d → length (over_at i p d) ≡ length d
  length-over_at i p d h =
      let b : i ≤ length d = omega arith in
      ap length (over_at-front i p d b)
      ∙ length_over (take i d ++ p) d (omega (arith, length-append (take i d) p, length-take-le i d b))

  -- at the front
  pub over_at-zero : (p d : List A) → over_at 0 p d ≡ over p d
  unfolding over over_at
  over_at-zero p d = let e : 0 + length p ≡ length p = omega arith in rw e

  -- entries copied to the front, in the library's words
  pub shift_copied : (s : List A) (n k : ℕ) → n ≤ k → k ≤ length s → paste s 0 (drop n s) (k - n) ≡ shifted s n k
  unfolding shifted
  shift_copied s n k a b =
      sym (over_at-paste s 0 (drop n s) (k - n) (rw (length-drop n s) (omega arith))) ∙ over_at-zero (take (k - n) (drop n s)) s

  ----------------------------------------------------------------------
  -- Memory that holds the entries a ++ b from place i on

  module _ (d a b : List A) (i : ℕ) (h : i ≤ length d) (e : d ≡ over_at i (a ++ b) d) where
    front : d ≡ over (take i d ++ (a ++ b)) d
    front = e ∙ over_at-front i (a ++ b) d h

    front_length : length (take i d ++ a) ≡ i + length a
    front_length = length-append (take i d) a ∙ omega (arith, length-take-le i d h)

    split : take i d ++ (a ++ b) ≡ (take i d ++ a) ++ b
    split = sym (append_assoc (take i d) a b)

    -- those of b stand behind those of a
    pub held-behind : d ≡ over_at (i + length a) b d
    unfolding over over_at
    held-behind =
        let x : List A = drop (length (take i d ++ (a ++ b))) d in
        let f : d ≡ (take i d ++ a) ++ (b ++ x) = front ∙ ap (λ (l : List A). l ++ x) split ∙ append_assoc (take i d ++ a) b x in
        let t : take (i + length a) d ≡ take i d ++ a =
        ap (take (i + length a)) f ∙ take_at (take i d ++ a) (b ++ x) (i + length a) front_length in
        let n : i + length (a ++ b) ≡ i + length a + length b = omega (arith, length-append a b) in
        e ∙ rw (t, ← n) (ap (λ (l : List A). l ++ drop (i + length (a ++ b)) d) split)

    -- those of b, moved to the front
    pub held_moved : (k : ℕ) → i + length a + length b ≡ k → shifted d (i + length a) k ≡ over_at 0 b d
    held_moved k z = shifted-over d (take i d ++ (a ++ b)) (take i d ++ a) b (i + length a) k front split front_length z ∙ sym (over_at-zero b d)
