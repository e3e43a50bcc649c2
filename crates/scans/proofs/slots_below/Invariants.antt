-- The loop's invariant: `ok` is the answer for the ranges so far, of which the definition takes the next as the turn does.
use mathlib.Core.Path.{◌≡◌}
use Rattle.scans.specs.Scans.{slots_below}
use Rattle.scans.proofs.slots_below.Given as goal

abbrev pub invariant-loop-range : goal.invariant-loop-range
invariant-loop-range l = l.ok ≡ slots_below l.words l.i l.n l.range-index
