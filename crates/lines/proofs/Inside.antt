-- Lines end inside the memory that they are written to, which keeps its length: either the longest line has room, or nothing is written.
use mathlib.Core.Path.{◌≡◌, refl, ◌∙◌}
use mathlib.Core.Bool.{Bool, true, false, cond}
use mathlib.Core.List.{List}
use Prim.Native.Nat.{ℕ, zero, suc, ◌+◌, ◌≤◌}
use native.Mathlib.Omega.{arith}
use borrow.Author.Tests.{leb-true}
use lib.Dec.{leb}
use lib.ListN.{length, get_or, length-append, length-take, length-drop}
use Rattle.lists.specs.Over.{over_at}
use Rattle.lines.specs.Words.{line_from}
use Rattle.lines.specs.Written.{longest, room, written_line, after_line, Written, next_line, written_lines}
use Rattle.lines.proofs.Longest.{line-length}

pub record Inside (out : List ℕ) (w : Written) : Type 0 where
  pub kept : length w.memory ≡ length out
  pub ends : w.used ≤ length out

length-over_at : (p d : List ℕ) (i : ℕ) → i + length p ≤ length d → length (over_at i p d) ≡ length d
unfolding over_at
length-over_at p d i h = simp (length-append, length-take, length-drop) (omega arith)

-- by the test for room
appended-inside :
    (out d p : List ℕ) (i : ℕ) (b : Bool)
    → leb (i + longest) (length d) ≡ b
    → length p ≤ longest
    → Inside out (record { memory = d; used = i })
    → Inside out (record { memory = cond b (over_at i p d) d; used = cond b (i + length p) i })
appended-inside out d p i true e h w =
    let l = leb-true (i + longest) (length d) e in
    record { kept = length-over_at p d i (omega arith) ∙ w.kept; ends = omega (arith, w.kept) }
appended-inside out d p i false e h w = w

pub lines-inside : (out : List ℕ) (n : ℕ) (kinds numbers : List ℕ) (k : ℕ) → Inside out (written_lines out n kinds numbers k)
unfolding written_lines next_line written_line after_line room
lines-inside out n kinds numbers zero = record { kept = refl; ends = omega arith }
lines-inside out n kinds numbers (suc k) =
    let w = written_lines out n kinds numbers k in
    let x = get_or kinds k 0 in
    let y = get_or numbers k 0 in
    appended-inside out w.memory (line_from (n + k) x y) w.used (leb (w.used + longest) (length w.memory)) refl
    (line-length (n + k) x y) (lines-inside out n kinds numbers k)
