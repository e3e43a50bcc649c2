-- With room for every line each line is written, and the text is the model's. By induction on the count of answers: the last answer's line comes
-- after the others', and no line is longer than the longest.
use mathlib.Core.Path.{◌≡◌, refl, ap, ◌∙◌}
use mathlib.Core.List.{List, [], ◌∷◌, ◌++◌, map, append_assoc, append-nil}
use Prim.Native.Nat.{ℕ, zero, suc, ◌+◌, ◌*◌, ◌≤◌}
use native.Mathlib.Nat.{zero-add}
use native.Mathlib.Numerals.{add-one}
use native.Mathlib.Omega.{arith}
use borrow.Author.Tests.{le-leb}
use lib.ListN.{length, get_or, length-append, length-map}
use Rattle.lists.specs.Over.{over, over_at}
use Rattle.lists.proofs.Over.{length_over}
use Rattle.model.specs.Log.{line, lines}
use Rattle.model.specs.Answer as Model
use Rattle.values.specs.declared.Answer.{Answer}
use Rattle.values.specs.Meaning.{answer_of}
use Rattle.lines.specs.Words.{line_from}
use Rattle.lines.specs.Written.{longest, room, written_line, after_line, next_line, written_lines}
use Rattle.lines.specs.Written.{lines_from, at_start, WholeText, first_of, ModelText}
use Rattle.lines.proofs.Appending.{over_at-append}
use Rattle.lines.proofs.Longest.{line-length}
use Rattle.lines.proofs.Words.{same_line}

------------------------------------------------------------------------
-- Every line is written

lines-length : (n : ℕ) (kinds numbers : List ℕ) (k : ℕ) → length (lines_from n kinds numbers k) ≤ longest * k
unfolding lines_from
lines-length n kinds numbers zero = omega arith
lines-length n kinds numbers (suc k) =
    rw length-append (omega (arith, line-length (n + k) (get_or kinds k 0) (get_or numbers k 0), lines-length n kinds numbers k))

over-start : (p d : List ℕ) → over_at 0 p d ≡ over p d
unfolding over over_at
over-start p d = rw (zero-add (length p))

-- a text after another that stands at the start
over-append : (p q d : List ℕ) → over_at (length p) q (over p d) ≡ over (p ++ q) d
over-append p q d = rw (← over-start p d, ← over-start (p ++ q) d) (rw (zero-add (length p)) at (over_at-append p q d 0 (omega arith)))

next-whole : (t out : List ℕ) (n kind x : ℕ) → length t + longest ≤ length out
    → next_line (at_start t out) n kind x ≡ at_start (t ++ line_from n kind x) out
unfolding next_line written_line after_line room
next-whole t out n kind x h =
    let e = le-leb (length t + longest) (length (over t out)) (rw (length_over t out (omega arith)) h) in
    rw (e, over-append t (line_from n kind x) out, length-append)

pub whole_text : WholeText
unfolding written_lines lines_from over
whole_text out n kinds numbers zero h = refl
whole_text out n kinds numbers (suc k) h =
    let t = lines_from n kinds numbers k in
    rw (whole_text out n kinds numbers k (omega arith))
    (next-whole t out (n + k) (get_or kinds k 0) (get_or numbers k 0) (omega (arith, lines-length n kinds numbers k)))

------------------------------------------------------------------------
-- The text is the model's

pub lines-append : (n : ℕ) (l r : List Model.Answer) → lines n (l ++ r) ≡ lines n l ++ lines (n + length l) r
unfolding lines
lines-append n [] r = let e : n + 0 ≡ n = omega arith in rw e
lines-append n (b ∷ l) r =
    let e : n + 1 + length l ≡ n + suc (length l) = omega arith in
    rw (lines-append (n + 1) l r, e, append_assoc)

length-first_of : (f : ℕ → Answer) (k : ℕ) → length (first_of f k) ≡ k
unfolding first_of
length-first_of f zero = refl
length-first_of f (suc k) = length-append (first_of f k) (f k ∷ []) ∙ rw (length-first_of f k) (add-one k)

map_last : (l : List Answer) (a : Answer) → map answer_of (l ++ (a ∷ [])) ≡ map answer_of l ++ (answer_of a ∷ [])
map_last [] a = refl
map_last (b ∷ l) a = ap (λ (m : List Model.Answer). answer_of b ∷ m) (map_last l a)

pub model_text : ModelText
unfolding lines_from first_of lines
model_text n kinds numbers f zero g h = refl
model_text n kinds numbers f (suc k) g h =
    let l = map answer_of (first_of f k) in
    let m : length l ≡ k = length-map (first_of f k) answer_of ∙ length-first_of f k in
    let last : lines n (l ++ (answer_of (f k) ∷ [])) ≡ lines n l ++ line (n + k) (answer_of (f k)) =
    lines-append n l (answer_of (f k) ∷ []) ∙ rw (m, append-nil) in
    rw (
      model_text n kinds numbers f k (λ i j. g i (omega arith)) (λ i j. h i (omega arith)),
      g k (omega arith),
      h k (omega arith),
      same_line (n + k) (f k),
      map_last (first_of f k) (f k),
      last,
    )
