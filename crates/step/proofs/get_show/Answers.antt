-- `get_show` meets its contract: what its calls ensure is what a get leaves, by the law `got`.
use Rattle.step.proofs.Leaves.{got}
use Rattle.step.proofs.get_show.Goals as goal

pub returns : goal.returns
returns c =
    got _ _ c.newest_of-i.ensures c.stamp.ensures c.load-v.ensures
    c.answer_for.ensures c.outcome_of.ensures
