-- One worker more: its read moves where it stands on the slot, and stays elsewhere.
use Rattle.std.specs.Prelude.{◌≡◌, ◌<◌, length}
use mathlib.Core.Path.{sym, ◌∙◌}
use native.Mathlib.Omega.{arith}
use borrow.Author.Rules.{rules}
use Rattle.lists.proofs.Mapped.{length-mapped}
use Rattle.hub_core.proofs.Moving.{move_one, move_none}
use Rattle.hub_core.proofs.move_off.Goals as goal
use Rattle.hub_core.proofs.move_off.Goals.{then-stands_on, else-stands_on}

pub loop-y-preserved : goal.loop-y-preserved
loop-y-preserved c =
    let long : length c.args.workers.now ≡ 16 = search (rules, length-mapped) in
    let more : c.loop-y.y-index < 16 = omega (arith, c.loop-y-test.true) in
    elim c.if-stands_on.branch [
      | then-stands_on w ↦ w.workers-is ∙ move_one _ _ _ _ _ c.loop-y.invariant long more _ w.off-y.ensures
      | else-stands_on w ↦ w.workers-is ∙ move_none _ _ _ _ _ c.loop-y.invariant long more (sym c.stands_on.ensures ∙ w.if-stands_on.false)
    ]
