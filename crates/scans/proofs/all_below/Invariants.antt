-- The loop's invariant: `ok` is the answer for the numbers so far, of which the definition takes the next as the turn does.
use mathlib.Core.Path.{◌≡◌}
use Rattle.scans.specs.Scans.{below_to}
use Rattle.scans.proofs.all_below.Given as goal

abbrev pub invariant-loop-x : goal.invariant-loop-x
invariant-loop-x l = l.ok ≡ below_to l.l l.n l.x-index
