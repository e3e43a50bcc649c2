-- `fill_table` meets its contract. The invariant: the first i rows of the table have replaced the first i entries.
use mathlib.Core.Path.{◌≡◌}
use Prim.Native.Nat.{◌≤◌}
use lib.ListN.{length, take}
use Rattle.lists.specs.Over.{over}
use Rattle.model.specs.Rights.{table_of}
use Rattle.rights_table.proofs.fill_table.Given as goal

abbrev pub invariant-loop-i : goal.invariant-loop-i
invariant-loop-i l = (l.i ≤ l.i-end) × (l.rights ≡ over (take l.i (table_of l.table)) l.initial.rights) × (length l.rights ≡ length l.initial.rights)
