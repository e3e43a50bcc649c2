use Rattle.std.proofs.Common.{◌-◌, ◌∙◌}
use Rattle.arrays.specs.Arrays.{short}
use Rattle.arrays.proofs.Filled.{fill_none, fill_more}
use Rattle.arrays.proofs.fill_free.Goals as goal

pub loop-j-init : goal.loop-j-init
loop-j-init c = fill_none _ _

pub loop-j-preserved : goal.loop-j-preserved
loop-j-preserved c =
    let n = c.args.n in
    c.set_short.ensures ∙ fill_more _ _ (λ j. short (n - 1 - j)) _ c.loop-j.invariant
