-- `run_lent` meets its contract. The invariant is `SoFar` (Loop.antt): the records so far have done what the definition says. Each arm of the loop is
-- a law there.
use Rattle.std.specs.Prelude.{◌≡◌, ◌-◌, length}
use Rattle.model.specs.Rules.{of_totals}
use Rattle.versions.specs.Versions.{row_of}
use Rattle.turns.specs.Parts.{parts}
use Rattle.hub_core.specs.Stretch.{site_of, memory_of, state_with}
use Rattle.hub_core.proofs.Loop.{SoFar}
use Rattle.hub_core.proofs.run_lent.Given as goal

abbrev pub invariant-loop-k : goal.invariant-loop-k
invariant-loop-k l =
    SoFar (of_totals l.list) l.bytes l.from l.count l.k
    (λ n. state_with l.fixed.up
    (memory_of (site_of l.fixed n l.rows l.rights) l.initial.workers
    (parts (row_of l.initial.row) l.initial.lent l.initial.running)) l.initial.kinds l.initial.numbers l.initial.last)
    (λ n. state_with l.fixed.up
    (memory_of (site_of l.fixed n l.rows l.rights) l.workers (parts (row_of l.row) l.lent l.running)) l.kinds l.numbers l.last)
    × (length l.workers ≡ 16)

abbrev pub decreases-loop-k : goal.decreases-loop-k
decreases-loop-k l = l.count - l.k
