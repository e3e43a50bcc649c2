-- The loop that adds one to a number in twenty places: from the last digit on, a 9 becomes a 0, and the first other digit goes up by
-- one. By induction on the count of places.
use mathlib.Core.Path.{◌≡◌, refl, sym, ◌∙◌}
use mathlib.Core.Bool.{Bool, true, false, cond}
use mathlib.Core.List.{List, [], ◌∷◌, ◌++◌, append-nil}
use Prim.Native.Nat.{ℕ, zero, suc, ◌+◌, ◌-◌, ◌/◌, ◌%◌, ◌≤◌, ◌<◌, min}
use native.Mathlib.Omega.{arith}
use borrow.Author.Tests.{ltb-true, ltb-false, lt-ltb, le-ltb}
use lib.Dec.{ltb}
use lib.ListN.{length, get_or, set}
use lib.Seq.{append_snoc, get_or_at, set_at}
use Rattle.lines.specs.Digits.{last_digits, first_shown, Spelled}
use Rattle.lines.proofs.Decimal.{length-last_digits, first_shown-le}

-- the first i places raised by one,
unfoldable pub raised : ℕ → List ℕ → List ℕ
raised zero d = d
raised (suc i) d = cond (ltb (get_or d i 0) 57) (set d i (get_or d i 0 + 1)) (raised i (set d i 48))

-- and the place where the carry stops
unfoldable pub reached : ℕ → List ℕ → ℕ
reached zero d = 0
reached (suc i) d = cond (ltb (get_or d i 0) 57) i (reached i (set d i 48))

-- before a turn: the first i places are still to be raised
pub record Raising (d₀ d : List ℕ) (i : ℕ) : Type 0 where
  pub within : i ≤ 20
  pub left : raised i d ≡ raised 20 d₀
  pub place : reached i d ≡ reached 20 d₀

-- a 9 becomes a 0
pub raising_turn : (d₀ d : List ℕ) (i : ℕ) → Raising d₀ d i → 0 < i → 57 ≤ get_or d (i - 1) 0 → Raising d₀ (set d (i - 1) 48) (i - 1)
unfolding raised reached
raising_turn d₀ d i r h l =
    let e : i ≡ suc (i - 1) = omega arith in
    let f = le-ltb (get_or d (i - 1) 0) 57 l in
    record { within = omega (arith, r.within); left = rw f at (rw e at r.left); place = rw f at (rw e at r.place) }

-- a number goes up by one: its last digit, or the rest
one_more : (x : ℕ) → x % 10 < 9 → ((x + 1) / 10 ≡ x / 10) × (48 + (x + 1) % 10 ≡ 48 + x % 10 + 1)
one_more x h = (omega arith, omega arith)

carried : (x : ℕ) → 9 ≤ x % 10 → ((x + 1) / 10 ≡ x / 10 + 1) × ((x + 1) % 10 ≡ 0)
carried x h = (omega arith, omega arith)

module _ (p t : List ℕ) (k v : ℕ) (h : length p ≡ k) where
  raised_at : raised (suc k) ((p ++ (v ∷ [])) ++ t) ≡ cond (ltb v 57) (p ++ (v + 1) ∷ t) (raised k (p ++ 48 ∷ t))
  unfolding raised
  raised_at = rw (append_snoc p v t, get_or_at p v t 0 k h, set_at p v t (v + 1) k h, set_at p v t 48 k h)

  reached-at : reached (suc k) ((p ++ (v ∷ [])) ++ t) ≡ cond (ltb v 57) k (reached k (p ++ 48 ∷ t))
  unfolding reached
  reached-at = rw (append_snoc p v t, get_or_at p v t 0 k h, set_at p v t 48 k h)

-- raised, the last k digits of x are those of x + 1
raised-last : (k x : ℕ) (t : List ℕ) → raised k (last_digits k x ++ t) ≡ last_digits k (x + 1) ++ t
unfolding raised last_digits
raised-last zero x t = refl
raised-last (suc k) x t =
    raised_at before t k (48 + x % 10) (length-last_digits k (x / 10)) ∙ by (ltb (48 + x % 10) 57) refl (raised-last k (x / 10) (48 ∷ t))
  where
    before : List ℕ
    before = last_digits k (x / 10)

    by : (b : Bool)
        → ltb (48 + x % 10) 57 ≡ b
        → {l : List ℕ} → l ≡ last_digits k (x / 10 + 1) ++ 48 ∷ t
        → cond b (before ++ (48 + x % 10 + 1) ∷ t) l ≡ (last_digits k ((x + 1) / 10) ++ ((48 + (x + 1) % 10) ∷ [])) ++ t
    by true e r = let o = one_more x (omega (arith, ltb-true (48 + x % 10) 57 e)) in rw (o.0, o.1) (sym (append_snoc before (48 + x % 10 + 1) t))
    by false e r =
        let o = carried x (omega (arith, ltb-false (48 + x % 10) 57 e)) in
        rw (o.0, o.1) (r ∙ sym (append_snoc (last_digits k (x / 10 + 1)) 48 t))

-- the carry stops at a place, if there is one
reached-le : (k : ℕ) (d : List ℕ) → reached k d ≤ k - 1
unfolding reached
reached-le zero d = omega arith
reached-le (suc k) d = by (ltb (get_or d k 0) 57) (reached-le k (set d k 48))
  where
    by : (b : Bool) {m : ℕ} → m ≤ k - 1 → cond b k m ≤ suc k - 1
    by true h = omega arith
    by false h = omega arith

first_shown-zero : (k : ℕ) → first_shown k 0 ≡ k - 1
unfolding first_shown
first_shown-zero zero = refl
first_shown-zero (suc k) = omega arith

-- the first digit shown of x + 1 is that of x, or stands where the carry stops if this is before it
first_shown-more : (k x : ℕ) (t : List ℕ) → first_shown k (x + 1) ≡ min (first_shown k x) (reached k (last_digits k x ++ t))
unfolding first_shown reached last_digits
first_shown-more zero x t = refl
first_shown-more (suc k) x t =
    rw (reached-at (last_digits k (x / 10)) t k (48 + x % 10) (length-last_digits k (x / 10)))
    (by (ltb (48 + x % 10) 57) refl (ltb x 10) refl (first_shown-more k (x / 10) (48 ∷ t)))
  where
    rest : ℕ
    rest = reached k (last_digits k (x / 10) ++ 48 ∷ t)

    by : (b : Bool)
        → ltb (48 + x % 10) 57 ≡ b
        → (c : Bool)
        → ltb x 10 ≡ c
        → first_shown k (x / 10 + 1) ≡ min (first_shown k (x / 10)) rest
        → cond (ltb (x + 1) 10) k (first_shown k ((x + 1) / 10)) ≡ min (cond c k (first_shown k (x / 10))) (cond b k rest)
    by true e true f r = let l = ltb-true (48 + x % 10) 57 e in let m = ltb-true x 10 f in rw (lt-ltb (x + 1) 10 (omega arith)) (omega arith)
    by true e false f r =
        let l = ltb-true (48 + x % 10) 57 e in
        let m = ltb-false x 10 f in
        rw (le-ltb (x + 1) 10 (omega arith), (one_more x (omega arith)).0) (omega (arith, first_shown-le k (x / 10)))
    by false e true f r =
        let l = ltb-false (48 + x % 10) 57 e in
        let m = ltb-true x 10 f in
        let z : x / 10 ≡ 0 = omega arith in
        let w = reached-le k (last_digits k (x / 10) ++ 48 ∷ t) in
        let q : first_shown k (x / 10) ≡ k - 1 = rw z (first_shown-zero k) in
        rw (le-ltb (x + 1) 10 (omega arith), (carried x (omega arith)).0) (r ∙ rw q (omega arith))
    by false e false f r =
        let l = ltb-false (48 + x % 10) 57 e in
        let m = ltb-false x 10 f in
        rw (le-ltb (x + 1) 10 (omega arith), (carried x (omega arith)).0) r

-- places that spell x spell x + 1 when they are raised
pub raised-spelled : {x : ℕ} {d : List ℕ} {start : ℕ} → Spelled x d start → Spelled (x + 1) (raised 20 d) (min start (reached 20 d))
raised-spelled {x} {d} {start} s =
    let e : d ≡ last_digits 20 x ++ [] = s.last ∙ sym (append-nil (last_digits 20 x)) in
    record {
      last = rw e (raised-last 20 x [] ∙ append-nil (last_digits 20 (x + 1)));
      shown = rw (s.shown, e) (sym (first_shown-more 20 x []));
    }

-- the end of the loop: q is the first place shown
module _ (d₀ d : List ℕ) (start i : ℕ) (r : Raising d₀ d i) where
  -- a digit below 9 goes up by one
  pub raising_last :
      {q : ℕ} → 0 < i → get_or d (i - 1) 0 < 57 → q ≡ min start (i - 1) → (x : ℕ) → Spelled x d₀ start
      → Spelled (x + 1) (set d (i - 1) (get_or d (i - 1) 0 + 1)) q
  unfolding raised reached
  raising_last h l e x s =
      let f : i ≡ suc (i - 1) = omega arith in
      let g = lt-ltb (get_or d (i - 1) 0) 57 l in
      rw (e, rw g at (rw f at r.left), rw g at (rw f at r.place)) (raised-spelled s)

  -- all twenty digits were 9
  pub raising_end : i ≡ 0 → (x : ℕ) → Spelled x d₀ start → Spelled (x + 1) d i
  unfolding raised reached
  raising_end h x s =
      let e : i ≡ min start (reached 20 d₀) = rw (← rw h at r.place) (omega arith) in
      rw (e, rw h at r.left) (raised-spelled s)
