-- What a text that is written into lent memory leaves behind: it is written in parts, and is known under other names.
use mathlib.Core.Path.{◌≡◌, refl, sym, ap, subst, ◌∙◌}
use mathlib.Core.List.{List, [], ◌∷◌, ◌++◌, append_assoc, append-nil}
use Prim.Native.Nat.{ℕ, zero, suc, ◌+◌, ◌-◌, ◌%◌, ◌≤◌, ◌<◌}
use native.Mathlib.Omega.{arith}
use borrow.Author.Tests.{lt-ltb}
use lib.ListN.{length, set, take, drop, length-append, length-take, length-drop, take-append-drop, drop_of_length-le}
use lib.Seq.{take_all, take_at, take-add, drop-append-add, drop-drop, length-take-le, set_split}
use Rattle.lists.specs.Over.{over_at}
use Rattle.model.specs.Log.{digits, decimal}
use Rattle.lines.specs.Digits.{Spelled}
use Rattle.lines.specs.Written.{Appended}
use Rattle.lines.proofs.Decimal.{spelled_decimal}

-- a text in two parts
pub over_at-append : (p q d : List ℕ) (i : ℕ) → i ≤ length d → over_at (i + length p) q (over_at i p d) ≡ over_at i (p ++ q) d
unfolding over_at
over_at-append p q d i h =
    let k = i + length p in
    let head = take i d ++ p in
    let e : length head ≡ k = length-append (take i d) p ∙ rw (length-take-le i d h) in
    let f : i + length (p ++ q) ≡ k + length q = rw (length-append p q) (omega arith) in
    let g : drop (k + length q) (head ++ drop k d) ≡ drop (k + length q) d =
    ap (λ (n : ℕ). drop (n + length q) (head ++ drop k d)) (sym e) ∙ drop-append-add head (drop k d) (length q) ∙ drop-drop (length q) k d in
    rw (g, take_at head (drop k d) k e, f, append_assoc (take i d) p q)

-- no text
pub over_at-nil : (d : List ℕ) (i : ℕ) → over_at i [] d ≡ d
unfolding over_at
over_at-nil d i = let e : i + 0 ≡ i = omega arith in rw (e, append-nil (take i d)) (take-append-drop i d)

-- the memory reaches to the end of a text in it
pub over-reach : (p d : List ℕ) (i : ℕ) → i ≤ length d → i + length p ≤ length (over_at i p d)
unfolding over_at
over-reach p d i h =
    let rest = drop (i + length p) d in
    omega (arith, length-append (take i d ++ p) rest, length-append (take i d) p, length-take-le i d h)

drop-append : (k : ℕ) (p r : List ℕ) → drop k (p ++ r) ≡ drop k p ++ drop (k - length p) r
drop-append zero p r = let e : 0 - length p ≡ 0 = omega arith in rw e
drop-append (suc k) [] r = let e : suc k - 0 ≡ suc k = omega arith in rw e
drop-append (suc k) (x ∷ p) r = let e : suc k - suc (length p) ≡ k - length p = omega arith in rw e (drop-append k p r)

-- a text covers one that stands at the same place, as far as it reaches
pub over_at-again : (p q d : List ℕ) (i : ℕ) → i ≤ length d → over_at i q (over_at i p d) ≡ over_at i (q ++ drop (length q) p) d
unfolding over_at
over_at-again p q d i h =
    let k = i + length p in
    let n = length q in
    let r = drop k d in
    let e : length (take i d) ≡ i = length-take-le i d h in
    let m : k + (n - length p) ≡ i + length (q ++ drop n p) = omega (arith, length-append q (drop n p), length-drop n p) in
    let a : take i d ++ p ++ r ≡ take i d ++ (p ++ r) = append_assoc (take i d) p r in
    let b : take i (take i d ++ p ++ r) ≡ take i d = ap (take i) a ∙ take_at (take i d) (p ++ r) i e in
    let c : drop (i + n) (take i d ++ p ++ r) ≡ drop n p ++ drop (i + length (q ++ drop n p)) d =
    ap (drop (i + n)) a ∙ ap (λ (j : ℕ). drop (j + n) (take i d ++ (p ++ r))) (sym e) ∙ drop-append-add (take i d) (p ++ r) n ∙ drop-append n p r
    ∙ ap (λ (l : List ℕ). drop n p ++ l) (drop-drop (n - length p) k d ∙ ap (λ (j : ℕ). drop j d) m) in
    rw (b, c) (sym (append_assoc (take i d ++ q) (drop n p) (drop (i + length (q ++ drop n p)) d))
    ∙ ap (λ (l : List ℕ). l ++ drop (i + length (q ++ drop n p)) d) (append_assoc (take i d) q (drop n p)))

-- the first m entries of a list from entry s on, and then those from entry t on, which may be among them
pub append-halves : (l : List ℕ) (s t m : ℕ) {d e f : List ℕ} {i j k : ℕ} → i ≤ length d → s ≤ t → t ≤ s + m → t ≤ length l
    → Appended (take m (drop s l)) i d e j → Appended (drop t l) (i + (t - s)) e f k → Appended (drop s l) i d f k
append-halves l s t m {d} {e} {f} {i} {j} {k} h st tm tl a b =
    let n = t - s in
    let u = take n (drop s l) in
    let q = drop t l in
    let r = take (m - n) q in
    let sn : s + n ≡ t = omega arith in
    let mn : m ≡ n + (m - n) = omega arith in
    let rest : drop n (drop s l) ≡ q = drop-drop n s l ∙ ap (λ (x : ℕ). drop x l) sn in
    let first : take m (drop s l) ≡ u ++ r =
    ap (λ (x : ℕ). take x (drop s l)) mn ∙ take-add n (m - n) (drop s l) ∙ ap (λ (x : List ℕ). u ++ take (m - n) x) rest in
    let whole : u ++ q ≡ drop s l = ap (λ (x : List ℕ). u ++ x) (sym rest) ∙ take-append-drop n (drop s l) in
    let long : length u ≡ n = length-take-le n (drop s l) (omega (arith, length-drop s l)) in
    let before : over_at i (u ++ r) d ≡ over_at (i + n) r (over_at i u d) =
    sym (ap (λ (x : ℕ). over_at (i + x) r (over_at i u d)) (sym long) ∙ over_at-append u r d i h) in
    record {
      memory =
          b.memory ∙ ap (over_at (i + n) q) (a.memory ∙ ap (λ (x : List ℕ). over_at i x d) first ∙ before)
          ∙ over_at-again r q (over_at i u d) (i + n) (omega (arith, over-reach u d i h, long))
          ∙ ap (λ (x : List ℕ). over_at (i + n) x (over_at i u d))
          (rw (drop_of_length-le r {i = length q} (omega (arith, length-take (m - n) q))) (append-nil q))
          ∙ ap (λ (x : ℕ). over_at (i + x) q (over_at i u d)) (sym long) ∙ over_at-append u q d i h ∙ ap (λ (x : List ℕ). over_at i x d) whole;
      next = omega (arith, b.next, length-drop s l, length-drop t l);
    }

-- two texts, one after the other
pub append-then : {p q d e f : List ℕ} {i j k : ℕ} → i ≤ length d → Appended p i d e j → Appended q j e f k → Appended (p ++ q) i d f k
append-then {p} {q} {d} {e} {f} {i} {j} {k} h a b =
    record {
      memory = b.memory ∙ rw (a.next, a.memory) (over_at-append p q d i h);
      next = omega (arith, a.next, b.next, length-append p q);
    }

-- the rest of a text, from index k on
pub append-rest : (l : List ℕ) (k n : ℕ) {d e : List ℕ} {i j : ℕ} → length l ≤ k + n → Appended (take n (drop k l)) i d e j
    → Appended (drop k l) i d e j
append-rest l k n {d = d} {e = e} {i = i} {j = j} h w =
    subst (λ (p : List ℕ). Appended p i d e j) (take_all n (drop k l) (rw (length-drop k l) (omega arith))) w

-- the digits of a number
pub append-spelled : {x k : ℕ} {l d e : List ℕ} {i j : ℕ} → Spelled x l k → Appended (drop k l) i d e j → Appended (decimal x) i d e j
append-spelled {d = d} {e = e} {i = i} {j = j} s w = subst (λ (p : List ℕ). Appended p i d e j) (spelled_decimal s) w

-- one byte
pub append-byte : (v : ℕ) (d : List ℕ) (i : ℕ) → i < length d → Appended (v ∷ []) i d (set d i v) (i + 1)
unfolding over_at
append-byte v d i k =
    let one : i + 1 ≡ suc i = omega arith in
    record {
      memory = set_split d i v k ∙ sym (append_assoc (take i d) (v ∷ []) (drop (suc i) d))
          ∙ ap (λ (n : ℕ). take i d ++ (v ∷ []) ++ drop n d) (sym one);
      next = refl;
    }

-- one digit
pub one_digit : (x : ℕ) {d e : List ℕ} {i j : ℕ} → x < 10 → Appended ((48 + x % 10) ∷ []) i d e j → Appended (decimal x) i d e j
unfolding decimal digits
one_digit x h w = rw (lt-ltb x 10 h) w
