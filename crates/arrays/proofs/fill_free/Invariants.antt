-- The first j entries are filled, n - 1 at 0 and downwards.
use Rattle.std.proofs.Common.{◌≡◌, ◌-◌}
use Rattle.arrays.specs.Arrays.{short, fill_to}
use Rattle.arrays.proofs.fill_free.Given as goal

abbrev pub invariant-loop-j : goal.invariant-loop-j
invariant-loop-j l = l.free ≡ fill_to l.initial.free (λ j. short (l.n - 1 - j)) l.j
