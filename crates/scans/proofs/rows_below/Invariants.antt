-- The loop's invariant: `ok` is the answer for the numbers so far, of which the definition takes the next as the turn does.
use mathlib.Core.Path.{◌≡◌}
use Rattle.scans.specs.Scans.{rows_below}
use Rattle.scans.proofs.rows_below.Given as goal

abbrev pub invariant-loop-row : goal.invariant-loop-row
invariant-loop-row l = l.ok ≡ rows_below l.rows l.v l.row-index
