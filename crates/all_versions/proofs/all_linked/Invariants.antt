-- The test so far is of the first i slots.
use Rattle.std.proofs.Common.{◌≡◌}
use Rattle.slots.specs.Slots.{linked_to}
use Rattle.versions.specs.Versions.{row_of}
use Rattle.all_versions.proofs.all_linked.Given as goal

abbrev pub invariant-loop-i : goal.invariant-loop-i
invariant-loop-i l = l.ok ≡ linked_to (row_of l.row) l.n l.i
