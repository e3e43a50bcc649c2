-- The first i entries are filled, each with its own number.
use Rattle.std.proofs.Common.{◌≡◌}
use Rattle.arrays.specs.Arrays.{short, fill_to}
use Rattle.arrays.proofs.fill_newest.Given as goal

abbrev pub invariant-loop-i : goal.invariant-loop-i
invariant-loop-i l = l.newest ≡ fill_to l.initial.newest short l.i
