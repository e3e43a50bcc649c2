use Rattle.std.proofs.Common.{◌∙◌}
use Rattle.arrays.specs.Arrays.{short}
use Rattle.arrays.proofs.Filled.{fill_none, fill_more}
use Rattle.arrays.proofs.fill_newest.Goals as goal

pub loop-i-init : goal.loop-i-init
loop-i-init c = fill_none _ _

pub loop-i-preserved : goal.loop-i-preserved
loop-i-preserved c = c.set_short.ensures ∙ fill_more _ _ short _ c.loop-i.invariant
