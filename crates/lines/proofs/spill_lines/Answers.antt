-- `spill_lines` meets its contract: the loop keeps `Tenth`, and its measure is the number of lines left.
use native.Mathlib.Omega.{arith}
use lib.ListN.{length-take}
use Rattle.lines.proofs.Tens.{tenth_turn}
use Rattle.lines.proofs.spill_lines.Goals as goal

pub loop-k-preserved : goal.loop-k-preserved
loop-k-preserved c =
    let a = c.args in
    let l = c.loop-k in
    let w = c.spill_line-at in
    tenth_turn _ _ _ _ _ _ _ _ l.invariant (omega arith) (omega (arith, length-take a.n a.head.now, c.requires)) (omega arith) w.ensures
