-- `fill_rows` meets its contract. The invariant: the first i rows of the list have replaced the first i entries.
use mathlib.Core.Path.{◌≡◌}
use Prim.Native.Nat.{◌≤◌}
use lib.ListN.{length, take}
use Rattle.lists.specs.Over.{over}
use Rattle.model.specs.Record.{rows_of}
use Rattle.total_list.proofs.fill_rows.Given as goal

abbrev pub invariant-loop-i : goal.invariant-loop-i
invariant-loop-i l = (l.i ≤ l.i-end) × (l.rows ≡ over (take l.i (rows_of l.list)) l.initial.rows) × (length l.rows ≡ length l.initial.rows)
