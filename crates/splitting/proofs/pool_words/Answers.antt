-- `pool_words` meets its contract.
use native.Mathlib.Omega.{arith}
use Rattle.splitting.proofs.PoolLaws.{no_ranges, one_range}
use Rattle.splitting.proofs.pool_words.Goals as goal

pub loop-i-init : goal.loop-i-init
loop-i-init c = no_ranges _ _

pub loop-i-preserved : goal.loop-i-preserved
loop-i-preserved c =
    let l = c.loop-i in
    let a = c.args in
    rw (c.put_range.ensures, c.from.ensures) (one_range a.q a.out.now l.out l.i l.invariant (omega arith))
