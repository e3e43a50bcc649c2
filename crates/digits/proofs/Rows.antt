-- The rows of a buffer, one after the other: what is tested of each, or given to each, is the same for all, by the definitions' own recursion.
use mathlib.Core.Path.{◌≡◌, refl, sym, ap, ◌∙◌}
use mathlib.Core.Bool.{Bool, ◌&&◌}
use mathlib.Core.List.{List, [], ◌∷◌, ◌++◌, append_assoc}
use Prim.Native.Nat.{ℕ, zero, suc, ◌+◌, ◌-◌, ◌*◌, ◌/◌, ◌≤◌, ◌<◌}
use native.Mathlib.Omega.{arith}
use borrow.Author.Tests.{eq-eqb}
use lib.Dec.{eqb}
use lib.ListN.{length, take, drop, length-append, length-drop, take-append-drop}
use lib.Seq.{take_at, drop_at, drop-drop, length-take-le}
use Rattle.std.specs.Iterator.{AlwaysYields}
use Rattle.std.specs.List.{list_all}
use Rattle.std.specs.Slice.Iter.{chunks_exact_size, chunks_exact_rest, chunks_exact_steps}
use Rattle.std.proofs.lemmas.Iterator.{YieldsList}
use Rattle.std.specs.declared.slice.ChunksExact.{ChunksExact}
use Rattle.model.specs.Digits.{Form, may_be, in_form, all_may_be, all_in_form}
use Rattle.model.proofs.Digits.{length-in_form}

-- the first n rows
abbrev pub rows_in : ℕ → List ℕ → List (List ℕ)
rows_in zero buf = []
rows_in (suc n) buf = take 16 buf ∷ rows_in n (drop 16 buf)

-- they are what is gone over
rows_come : (n : ℕ) (s : ChunksExact ℕ) (buf : List ℕ)
    → chunks_exact_size s ≡ 16 → chunks_exact_rest s ≡ buf → 16 * n ≤ length buf → length buf < 16 * n + 16
    → AlwaysYields chunks_exact_steps (λ x. x.now) s (rows_in n buf)
rows_come zero s buf z r h k = λ x j p.
    absurd (omega (arith, k, z, ap length (sym r ∙ p.1.0), length-append x.now (chunks_exact_rest j), p.1.1))
rows_come (suc n) s buf z r h k = (
  λ j p. absurd (omega (arith, h, z, ap length r, p.1.0)),
  λ x j p.
      let a : length x.now ≡ 16 = p.1.1 ∙ z in
      let e : buf ≡ x.now ++ chunks_exact_rest j = sym r ∙ p.1.0 in
      let f : drop 16 buf ≡ chunks_exact_rest j = rw e (drop_at x.now (chunks_exact_rest j) 16 a) in
      let l : length (drop 16 buf) ≡ length buf - 16 = length-drop 16 buf in
      (sym (rw e (take_at x.now (chunks_exact_rest j) 16 a)), rows_come n j (drop 16 buf) (p.0 ∙ z) (sym f) (omega (arith, l, h)) (omega (arith, l, k))),
)

pub rows_yielded : (s : ChunksExact ℕ) (buf : List ℕ) → chunks_exact_size s ≡ 16 → chunks_exact_rest s ≡ buf
    → YieldsList chunks_exact_steps (λ x. x.now) s (rows_in (length buf / 16) buf)
rows_yielded s buf z r = record { runs = rows_come (length buf / 16) s buf z r (omega arith) (omega arith) }

-- the test of a row, and of all
abbrev pub is_row_for : Form → List ℕ → Bool
is_row_for to row = eqb (length row) 16 && may_be to row

pub all_rows : (to : Form) (n : ℕ) (buf : List ℕ) → 16 * n ≤ length buf → list_all (is_row_for to) (rows_in n buf) ≡ all_may_be to n buf
unfolding all_may_be
all_rows to zero buf h = refl
all_rows to (suc n) buf h =
    let a : length (take 16 buf) ≡ 16 = length-take-le 16 buf (omega arith) in
    let l : length (drop 16 buf) ≡ length buf - 16 = length-drop 16 buf in
    rw (eq-eqb _ _ a, all_rows to n (drop 16 buf) (omega (arith, l, h)))

-- row i as it is lent on
abbrev pub lent : List ℕ → ℕ → List ℕ
lent buf i = take (16 * i + 16 - 16 * i) (drop (16 * i) buf)

-- it has sixteen bytes, and the next row is behind it
module _ (buf : List ℕ) (i : ℕ) where
  sixteen : lent buf i ≡ take 16 (drop (16 * i) buf)
  sixteen = let e : 16 * i + 16 - 16 * i ≡ 16 = omega arith in rw e

  behind : drop 16 (drop (16 * i) buf) ≡ drop (16 * (i + 1)) buf
  behind = let e : 16 * i + 16 ≡ 16 * (i + 1) = omega arith in drop-drop 16 (16 * i) buf ∙ ap (λ (k : ℕ). drop k buf) e

  pub lent-long : (n : ℕ) → 16 * n ≤ length buf → i < n → length (lent buf i) ≡ 16
  lent-long n fits h = rw sixteen (length-take-le 16 (drop (16 * i) buf) (rw (length-drop (16 * i) buf) (omega arith)))

-- before row i: with the rows that are left in the form, the buffer is what is to be left behind
pub record Putting (to : Form) (n : ℕ) (buf₀ buf : List ℕ) (i : ℕ) : Type 0 where
  pub within : i ≤ n
  pub kept : length buf ≡ length buf₀
  pub rows : take (16 * i) buf ++ all_in_form to (n - i) (drop (16 * i) buf) ≡ all_in_form to n buf₀

module _ (to : Form) (n : ℕ) (buf₀ : List ℕ) (fits : 16 * n ≤ length buf₀) where
  -- row i comes back in the form, between the bytes before it and behind it
  pub putting_turn : (buf part : List ℕ) (i : ℕ) → Putting to n buf₀ buf i → i < n → part ≡ in_form to (lent buf i)
      → Putting to n buf₀ (take (16 * i) buf ++ (part ++ drop (16 * i + 16 - 16 * i) (drop (16 * i) buf))) (i + 1)
  unfolding all_in_form
  putting_turn buf part i p h given =
      let k = p.kept in
      let e : part ≡ in_form to (take 16 (drop (16 * i) buf)) = rw (sixteen buf i) at given in
      let w : 16 * i + 16 - 16 * i ≡ 16 = omega arith in
      let s : n - i ≡ suc (n - (i + 1)) = omega arith in
      let a : length (take (16 * i) buf) ≡ 16 * i = length-take-le (16 * i) buf (omega arith) in
      let b : length (take 16 (drop (16 * i) buf)) ≡ 16 = length-take-le 16 (drop (16 * i) buf) (rw (length-drop (16 * i) buf) (omega arith)) in
      let r : length part ≡ 16 = rw e (length-in_form to (take 16 (drop (16 * i) buf)) b) in
      let front : List ℕ = take (16 * i) buf ++ part in
      let rest : List ℕ = drop 16 (drop (16 * i) buf) in
      let f : length front ≡ 16 * (i + 1) = omega (arith, length-append (take (16 * i) buf) part) in
      let l : length (front ++ rest) ≡ length buf =
      omega (arith, length-append front rest, length-drop 16 (drop (16 * i) buf), length-drop (16 * i) buf) in
      rw (w, ← append_assoc (take (16 * i) buf) part rest)
      (record {
        within = omega arith;
        kept = l ∙ k;
        rows = rw (take_at front rest (16 * (i + 1)) f, drop_at front rest (16 * (i + 1)) f, append_assoc, e) (rw s at p.rows);
      })

  pub putting_end : (buf : List ℕ) (i : ℕ) → Putting to n buf₀ buf i → n ≤ i → buf ≡ all_in_form to n buf₀
  unfolding all_in_form
  putting_end buf i p h =
      let e : n - i ≡ 0 = omega arith in
      sym (take-append-drop (16 * i) buf) ∙ (rw e at p.rows)
