-- `list_ok` meets its contract. The invariant: the rows before i pass, and so many rows of the group stand last among them.
use Prim.Native.Nat.{◌≤◌}
use Rattle.model.specs.Record.{rows_of}
use Rattle.total_list.proofs.Follow.{Passed}
use Rattle.total_list.proofs.list_ok.Given as goal

abbrev pub invariant-loop-i : goal.invariant-loop-i
invariant-loop-i l = (l.i ≤ l.i-end) × (l.last ≤ l.i) × Passed l.v (rows_of l.list) l.group l.last l.i
