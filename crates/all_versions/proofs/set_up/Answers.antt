-- The definition makes the next slot as the turn does. Where n is past the end of the row, `load` and `store` are as
-- total as the definition is.
use Rattle.std.proofs.Common.{refl}
use Rattle.slots.specs.Slots.{made_to}
use Rattle.versions.specs.Versions.{row_of}
use Rattle.all_versions.proofs.Laws.{made_more}
use Rattle.all_versions.proofs.set_up.Goals as goal

pub loop-i-init : goal.loop-i-init
unfolding made_to
loop-i-init c = refl

pub loop-i-preserved : goal.loop-i-preserved
loop-i-preserved c =
    made_more (row_of c.args.row.now) _ _ c.args.v _ _ _ c.loop-i.invariant c.load-s.ensures c.made-t.ensures c.store.ensures
