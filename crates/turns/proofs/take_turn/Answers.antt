-- `take_turn` meets its contract: the decision is the definition's, and each arm leaves what it says of it.
use mathlib.Core.Path.{ap, ◌∙◌}
use Rattle.std.proofs.Common.{Ok}
use Rattle.values.specs.Refusals.{numbered}
use Rattle.gate.specs.declared.Gate.{Gate}
use Rattle.gate.specs.Gate.{Decided}
use Rattle.turns.specs.Turns.{turn_by}
use Rattle.turns.proofs.Going.{stays, decided}
use Rattle.turns.proofs.take_turn.Goals as goal

pub returns-in-Err : goal.returns-in-Err
unfolding turn_by
returns-in-Err c =
    stays _ (rw c.number.ensures at c.left_to.ensures)
    ∙ decided _ _ _ _ _ _ _ _ _ c.args.row.now _ _ c.decode-r.ensures
    (rw (c.counting.ensures.same, c.counting-2.ensures.same, c.counting-3.ensures.same) at c.gate_for.ensures) (ap numbered c.in-Err.is)

pub returns-in-Make : goal.returns-in-Make
unfolding turn_by
returns-in-Make c =
    stays _ c.made.ensures
    ∙ decided _ _ _ _ _ _ _ _ _ c.args.row.now _ _ c.decode-r.ensures
    (rw (c.counting.ensures.same, c.counting-2.ensures.same, c.counting-3.ensures.same) at c.gate_for.ensures) (ap numbered c.in-Ok.is ∙ ap (λ (x : Gate). let y : Decided = Ok x in y) c.in-Make.is)

pub returns-in-Start : goal.returns-in-Start
unfolding turn_by
returns-in-Start c =
    stays _ c.left_to-in-Start.ensures
    ∙ decided _ _ _ _ _ _ _ _ _ c.args.row.now _ _ c.decode-r.ensures
    (rw (c.counting.ensures.same, c.counting-2.ensures.same, c.counting-3.ensures.same) at c.gate_for.ensures) (ap numbered c.in-Ok.is ∙ ap (λ (x : Gate). let y : Decided = Ok x in y) c.in-Start.is)

pub returns-in-Go : goal.returns-in-Go
unfolding turn_by
returns-in-Go c =
    c.go.ensures
    ∙ decided _ _ _ _ _ _ _ _ _ c.args.row.now _ _ c.decode-r.ensures
    (rw (c.counting.ensures.same, c.counting-2.ensures.same, c.counting-3.ensures.same) at c.gate_for.ensures) (ap numbered c.in-Ok.is ∙ ap (λ (x : Gate). let y : Decided = Ok x in y) c.in-Go.is)
