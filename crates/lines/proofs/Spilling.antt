-- Texts after which bytes spill: a text is written in parts, and each part covers what spilled before it.
use mathlib.Core.Path.{◌≡◌, sym, ap, subst, ◌∙◌}
use mathlib.Core.List.{List, [], ◌++◌, append_assoc, append-nil}
use Prim.Native.Nat.{ℕ, ◌+◌, ◌-◌, ◌≤◌}
use native.Mathlib.Nat.{add-zero}
use native.Mathlib.Omega.{arith}
use lib.ListN.{length, take, drop, length-append, length-take, length-drop, take-append-drop}
use lib.Seq.{take_at, take-add, length-take-le}
use Rattle.lists.specs.Over.{over_at}
use Rattle.lines.specs.Written.{Appended, Spills}
use Rattle.lines.proofs.Appending.{over_at-append, over_at-again, over-reach}

-- nothing spills
pub spills_none : {p d e : List ℕ} {i j : ℕ} → Appended p i d e j → Spills p i d e j
spills_none {p} {d} {e} {i} {j} w =
    record { spilled = []; few = omega arith; memory = w.memory ∙ ap (λ (l : List ℕ). over_at i l d) (sym (append-nil p)); next = w.next }

-- no text is written
pub spills_nothing : {d : List ℕ} {i : ℕ} → i ≤ length d → Spills [] i d d i
unfolding over_at
spills_nothing {d} {i} h =
    record { spilled = []; few = omega arith; memory = rw (add-zero i, append-nil (take i d)) (sym (take-append-drop i d)); next = omega arith }

-- the first n of eight bytes
pub spills_eight : (l : List ℕ) (n : ℕ) {d e : List ℕ} {i j : ℕ} → n ≤ 8 → 8 ≤ length l
    → Appended (take 8 l) i d e j → Spills (take n l) i d e (i + n)
spills_eight l n {d} {e} {i} {j} h g w =
    let r = take (8 - n) (drop n l) in
    let m : 8 ≡ n + (8 - n) = omega arith in
    let a : take 8 l ≡ take n l ++ r = ap (λ (k : ℕ). take k l) m ∙ take-add n (8 - n) l in
    record {
      spilled = r;
      few = omega (arith, length-take (8 - n) (drop n l));
      memory = w.memory ∙ ap (λ (x : List ℕ). over_at i x d) a;
      next = omega (arith, length-take-le n l (omega arith));
    }

-- what spills after a text q, and what it leaves of bytes that spilled before
abbrev pub covered : List ℕ → List ℕ → List ℕ → List ℕ
covered r q s = s ++ drop (length (q ++ s)) r

pub cover : (r q s d : List ℕ) (i : ℕ) → i ≤ length d
    → over_at i (q ++ s) (over_at i r d) ≡ over_at (i + length q) (covered r q s) (over_at i q d)
cover r q s d i h =
    let l = drop (length (q ++ s)) r in
    over_at-again r (q ++ s) d i h ∙ ap (λ (x : List ℕ). over_at i x d) (append_assoc q s l) ∙ sym (over_at-append q (s ++ l) d i h)

pub covered-length : (r q s : List ℕ) (b : ℕ) → length s ≤ b → length r ≤ b + length q → length (covered r q s) ≤ b
covered-length r q s b x y =
    let l = drop (length (q ++ s)) r in
    omega (arith, length-append s l, length-drop (length (q ++ s)) r, length-append q s)

-- two texts, one after the other
pub spills_then : {p q d e f : List ℕ} {i j k : ℕ} → i ≤ length d → Spills p i d e j → Spills q j e f k → Spills (p ++ q) i d f k
spills_then {p} {q} {d} {e} {f} {i} {j} {k} h a b =
    let D = over_at i p d in
    let n = i + length p in
    let r = a.spilled in
    let s = covered r q b.spilled in
    let m : e ≡ over_at n r D = a.memory ∙ sym (over_at-append p r d i h) in
    let g : f ≡ over_at n (q ++ b.spilled) (over_at n r D) =
    b.memory ∙ ap (λ (x : ℕ). over_at x (q ++ b.spilled) e) a.next ∙ ap (over_at n (q ++ b.spilled)) m in
    let z : n + length q ≡ i + length (p ++ q) = omega (arith, length-append p q) in
    record {
      spilled = s;
      few = covered-length r q b.spilled 8 b.few (omega (arith, a.few));
      memory = g ∙ cover r q b.spilled D n (over-reach p d i h) ∙ ap (over_at (n + length q) s) (over_at-append p q d i h)
          ∙ ap (λ (x : ℕ). over_at x s (over_at i (p ++ q) d)) z ∙ over_at-append (p ++ q) s d i h;
      next = omega (arith, a.next, b.next, length-append p q);
    }

-- a text after which bytes spilled, at the start of memory
spills_text : {p d e : List ℕ} {n : ℕ} → Spills p 0 d e n → take n e ≡ p
unfolding over_at
spills_text {p} {d} {e} {n} w =
    let r = drop (0 + length (p ++ w.spilled)) d in
    ap (take n) (w.memory ∙ append_assoc p w.spilled r) ∙ take_at p (w.spilled ++ r) n (omega (arith, w.next))

-- it is copied without them
pub append-copied : {p d e : List ℕ} {n : ℕ} {a b : List ℕ} {i j : ℕ} → Spills p 0 d e n → Appended (take (n - 0) e) i a b j → Appended p i a b j
append-copied {p} {d} {e} {n} {a} {b} {i} {j} s w =
    let z : n - 0 ≡ n = omega arith in
    subst (λ (l : List ℕ). Appended l i a b j) (rw z (spills_text s)) w
