-- `run` meets its contract. The invariant is `Reached` (Stretches.antt): the stretches so far have done what the definition says of their records.
use Rattle.std.specs.Prelude.{◌-◌}
use Rattle.model.specs.Rules.{of_totals}
use Rattle.versions.specs.Versions.{row_of}
use Rattle.simulation.specs.Lent.{lent_memory}
use Rattle.hub_core.specs.Stretch.{state_with}
use Rattle.hub_core.proofs.Stretches.{Reached}
use Rattle.hub_core.proofs.run.Given as goal

abbrev pub invariant-loop-k : goal.invariant-loop-k
invariant-loop-k l =
    Reached (state_with l.initial.up (lent_memory l.initial.hub (row_of l.initial.row) l.initial.lent) l.initial.kinds l.initial.numbers l.initial.last) (of_totals l.list) l.bytes l.whole l.k
    (state_with l.up (lent_memory l.hub (row_of l.row) l.lent) l.kinds l.numbers l.last)

abbrev pub decreases-loop-k : goal.decreases-loop-k
decreases-loop-k l =
    l.whole - l.k
