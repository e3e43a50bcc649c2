-- The two outcomes of writing a line: there is no room and nothing changes, or the line was appended.
use mathlib.Core.List.{List}
use Prim.Native.Nat.{ℕ, ◌+◌, ◌≤◌, ◌<◌}
use borrow.Author.Tests.{le-leb, lt-leb}
use lib.ListN.{length}
use Rattle.lines.specs.Words.{line_from}
use Rattle.lines.specs.Written.{Appended, LineAppended, longest, room, written_line, after_line}

pub no_room : (d : List ℕ) (i n kind x : ℕ) → length d < i + longest → LineAppended n kind x i d d i
unfolding room written_line after_line
no_room d i n kind x h = let e = lt-leb (i + longest) (length d) h in record { memory = rw e; next = rw e }

pub line-appended : {d e : List ℕ} {i j n kind x : ℕ} → i + longest ≤ length d → Appended (line_from n kind x) i d e j
    → LineAppended n kind x i d e j
unfolding room written_line after_line
line-appended {d = d} {i = i} h w = let e = le-leb (i + longest) (length d) h in record { memory = rw e w.memory; next = rw e w.next }
