-- The first i slots are copied back.
use Rattle.std.proofs.Common.{◌≡◌}
use Rattle.versions.specs.Versions.{row_of}
use Rattle.hub.specs.Rows.{copied_to}
use Rattle.hub.proofs.store_row.Given as goal

abbrev pub invariant-loop-i : goal.invariant-loop-i
invariant-loop-i l = l.slots ≡ copied_to (row_of l.row) l.initial.slots l.i
