-- The first i slots are made.
use Rattle.std.proofs.Common.{◌≡◌}
use Rattle.slots.specs.Slots.{made_to}
use Rattle.versions.specs.Versions.{row_of}
use Rattle.all_versions.proofs.set_up.Given as goal

abbrev pub invariant-loop-i : goal.invariant-loop-i
invariant-loop-i l = row_of l.row ≡ made_to (row_of l.initial.row) l.v l.i
