-- `put_publish` meets its contract: the test of the free count decides; with a free slot, what the calls ensure is what put (1) leaves, by the
-- law `put-published`.
use native.Mathlib.Omega.{arith}
use borrow.Author.Tests.{eq-eqb, ne_eqb}
use Rattle.step.proofs.Leaves.{put_refused, put-published}
use Rattle.step.proofs.put_publish.Goals as goal

pub returns-then-n-eq0 : goal.returns-then-n-eq0
returns-then-n-eq0 c = put_refused _ _ _ (eq-eqb c.args.n 0 (omega arith)) c.stopped.ensures

pub returns : goal.returns
returns c =
    put-published _ _ _ _ _ (ne_eqb _ _ c.if-n-eq0.false) c.newest_of-i.ensures c.next_free-f.ensures
    c.stamp.ensures c.link.ensures c.from.ensures c.set_short.ensures c.outcome_of.ensures
