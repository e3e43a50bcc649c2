-- `reverse_ranges` meets its contract.
use Rattle.range_split.proofs.Reversing.{start, turn, finish}
use native.Mathlib.Omega.{arith}
use Rattle.range_split.proofs.reverse_ranges.Goals as goal

pub loop-i-init : goal.loop-i-init
loop-i-init c = start _ _ (omega arith)

pub loop-i-preserved : goal.loop-i-preserved
loop-i-preserved c =
    let l = c.loop-i in
    let a = c.args in
    rw c.swap_ranges.ensures (turn a.m.now a.n l.m l.i l.invariant (omega arith))

pub returns : goal.returns
returns c =
    let l = c.loop-i in
    let a = c.args in
    finish a.m.now a.n l.m l.i l.invariant (omega arith)
