-- The loops that write the lines of a buffer of answers: a line more is the definition's next step, and what spilled after the line before is
-- covered.
use mathlib.Core.Path.{◌≡◌, refl, sym, ap, ◌∙◌}
use mathlib.Core.Bool.{Bool, true, false}
use mathlib.Core.List.{List, [], ◌++◌, append-nil}
use Prim.Native.Nat.{ℕ, ◌+◌, ◌*◌, ◌-◌, ◌≤◌, ◌<◌}
use native.Mathlib.Numerals.{add-one}
use native.Mathlib.Omega.{arith}
use borrow.Author.Tests.{le-leb, leb-true, leb-false}
use lib.Dec.{leb}
use lib.ListN.{length, get_or}
use lib.Seq.{take_all}
use Rattle.lists.specs.Over.{over_at}
use Rattle.lines.specs.Words.{line_from}
use Rattle.lines.specs.Written.{Spills, LineAppended, longest, room, written_line, after_line, next_line, counted, written_lines}
use Rattle.lines.specs.Written.{LinesWritten, Partly}
use Rattle.lines.proofs.Appending.{over_at-nil}
use Rattle.lines.proofs.Inside.{lines-inside}
use Rattle.lines.proofs.Longest.{line-length, line-least}
use Rattle.lines.proofs.Spilling.{covered, cover, covered-length}

length-zero : (s : List ℕ) → length s ≡ 0 → s ≡ []
length-zero s h = sym (take_all 0 s (omega arith))

module _ (out₀ : List ℕ) (first : ℕ) (kinds numbers : List ℕ) (most : ℕ) where
  pub partly_start : Partly out₀ first kinds numbers most out₀ 0 0
  unfolding written_lines
  partly_start =
      record {
        spilled = [];
        sure = 0;
        near = omega arith;
        few = omega arith;
        within = omega arith;
        fits = omega arith;
        kept = refl;
        memory = sym (over_at-nil out₀ 0);
        used = refl;
      }

  module _ {out : List ℕ} {at k : ℕ} (p : Partly out₀ first kinds numbers most out at k) where
    abbrev m : List ℕ
    m = (written_lines out₀ first kinds numbers k).memory

    abbrev l : List ℕ
    l = line_from (first + k) (get_or kinds k 0) (get_or numbers k 0)

    same-room : leb ((written_lines out₀ first kinds numbers k).used + longest) (length m) ≡ leb (at + longest) (length out)
    same-room = rw (← p.used, (lines-inside out₀ first kinds numbers k).kept, p.kept)

    inside : at ≤ length m
    inside = omega (arith, (lines-inside out₀ first kinds numbers k).kept, p.fits)

    long : length l ≤ longest
    long = line-length (first + k) (get_or kinds k 0) (get_or numbers k 0)

    least : 5 ≤ length l
    least = line-least (first + k) (get_or kinds k 0) (get_or numbers k 0)

    -- a line is written, and bytes spill after it
    pub partly-spill : {out' : List ℕ} {at' : ℕ} → k + 2 < most → at + 3 * longest ≤ length out₀ → length out' ≡ length out
        → Spills l at out out' at' → Partly out₀ first kinds numbers most out' at' (k + 1)
    unfolding written_lines next_line written_line after_line room
    partly-spill {out'} {at'} h g e w =
        let b = same-room ∙ le-leb (at + longest) (length out) (omega (arith, p.kept)) in
        record {
          spilled = covered p.spilled l w.spilled;
          sure = 2;
          near = omega arith;
          few = covered-length p.spilled l w.spilled 10 (omega (arith, w.few)) (omega (arith, p.few, p.near, least));
          within = omega arith;
          fits = omega (arith, w.next, long);
          kept = e ∙ p.kept;
          memory = rw (add-one k, b, ← p.used, w.next)
              (w.memory ∙ ap (over_at at (l ++ w.spilled)) p.memory ∙ cover p.spilled l w.spilled m at inside);
          used = rw (add-one k, b, ← p.used) w.next;
        }

    -- a line is written where there is room, and nothing spills
    partly-room : {out' : List ℕ} {at' : ℕ} → k < most → leb (at + longest) (length out) ≡ true → length out' ≡ length out
        → LineAppended (first + k) (get_or kinds k 0) (get_or numbers k 0) at out out' at' → Partly out₀ first kinds numbers most out' at' (k + 1)
    unfolding written_lines next_line written_line after_line room
    partly-room {out'} {at'} h t e w =
        let b = same-room ∙ t in
        let r = p.spilled in
        let g : at + longest ≤ length out₀ = omega (arith, leb-true (at + longest) (length out) t, p.kept) in
        let next : at' ≡ at + length l = rw t at w.next in
        let memory : out' ≡ over_at at (l ++ []) out = (rw t at w.memory) ∙ ap (λ (x : List ℕ). over_at at x out) (sym (append-nil l)) in
        record {
          spilled = covered r l [];
          sure = p.sure - 1;
          near = omega (arith, p.near);
          few = covered-length r l [] (5 * (p.sure - 1)) (omega arith) (omega (arith, p.few, least));
          within = omega (arith, p.within);
          fits = omega (arith, p.fits, long);
          kept = e ∙ p.kept;
          memory = rw (add-one k, b, ← p.used, next) (memory ∙ ap (over_at at (l ++ [])) p.memory ∙ cover r l [] m at inside);
          used = rw (add-one k, b, ← p.used) next;
        }

    -- nothing is written where there is none: nothing had spilled
    partly-full : {out' : List ℕ} {at' : ℕ} → k < most → leb (at + longest) (length out) ≡ false → length out' ≡ length out
        → LineAppended (first + k) (get_or kinds k 0) (get_or numbers k 0) at out out' at' → Partly out₀ first kinds numbers most out' at' (k + 1)
    unfolding written_lines next_line written_line after_line room
    partly-full {out'} {at'} h t e w =
        let b = same-room ∙ t in
        let g : length out₀ < at + longest = omega (arith, leb-false (at + longest) (length out) t, p.kept) in
        let none : p.sure ≡ 0 = omega (arith, p.fits) in
        let next : at' ≡ at = rw t at w.next in
        record {
          spilled = p.spilled;
          sure = 0;
          near = omega arith;
          few = omega (arith, p.few);
          within = omega arith;
          fits = omega (arith, p.fits);
          kept = e ∙ p.kept;
          memory = rw (add-one k, b, next) ((rw t at w.memory) ∙ p.memory);
          used = rw (add-one k, b) (next ∙ p.used);
        }

    pub partly-line : {out' : List ℕ} {at' : ℕ} → k < most → length out' ≡ length out
        → LineAppended (first + k) (get_or kinds k 0) (get_or numbers k 0) at out out' at' → Partly out₀ first kinds numbers most out' at' (k + 1)
    partly-line {out'} {at'} h e w = by (leb (at + longest) (length out)) refl
      where
        by : (b : Bool) → leb (at + longest) (length out) ≡ b → Partly out₀ first kinds numbers most out' at' (k + 1)
        by true t = partly-room h t e w
        by false t = partly-full h t e w

    -- all lines are written: nothing is left of what spilled
    pub partly-end : {count : ℕ} → k ≡ most → most ≡ counted count kinds numbers → LinesWritten out₀ first kinds numbers count at out
    partly-end {count} e f =
        let none : length p.spilled ≡ 0 = omega (arith, p.few, p.within) in
        let nothing : p.spilled ≡ [] = length-zero p.spilled none in
        let whole : out ≡ m = p.memory ∙ ap (λ (x : List ℕ). over_at at x m) nothing ∙ over_at-nil m at in
        record {
          bytes = rw (← f, ← e) p.used;
          memory = rw (← f, ← e) whole;
          inside = omega (arith, p.fits, p.kept);
        }
