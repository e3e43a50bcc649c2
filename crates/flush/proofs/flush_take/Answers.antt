-- `flush_take` meets its contract: what `queue::take` makes of the part that is lent, said of the whole.
use Rattle.flush.proofs.PartLaws.{took-part}
use Rattle.flush.proofs.flush_take.Goals as goal

pub returns-clause-merged_after : goal.returns-clause-merged_after
returns-clause-merged_after c =
    let a = c.args in
    (took-part a.merged.now a.w _ _ _ _ c.take.ensures).1.1
