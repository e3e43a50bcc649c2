-- `put_stamp` meets its contract: the test of the covered version's high decides whether the register is stamped.
use borrow.Author.Tests.{eq-eqb, ne_eqb}
use Rattle.step.proofs.Leaves.{put-stamped, put-passed}
use Rattle.step.proofs.put_stamp.Goals as goal

pub returns-then-c-eq4294967296 : goal.returns-then-c-eq4294967296
returns-then-c-eq4294967296 c =
    put-stamped _ c.from.ensures c.load-c.ensures (eq-eqb _ _ c.if-c-eq4294967296.true) c.newest_of.ensures
    c.stamp.ensures c.outcome_of.ensures

pub returns : goal.returns
returns c =
    put-passed c.from.ensures c.load-c.ensures (ne_eqb _ _ c.if-c-eq4294967296.false) c.outcome_of-2.ensures
