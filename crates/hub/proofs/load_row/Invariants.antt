-- The first i slots are copied into the words.
use Rattle.std.proofs.Common.{◌≡◌}
use Rattle.versions.specs.Versions.{row_of}
use Rattle.hub.specs.Rows.{copied_to}
use Rattle.hub.proofs.load_row.Given as goal

abbrev pub invariant-loop-i : goal.invariant-loop-i
invariant-loop-i l = row_of l.row ≡ copied_to l.slots (row_of l.initial.row) l.i
