-- `flush_split` meets its contract: where the counts allow no split nothing changes, else the worker's part is split and the pools are queued. There
-- are no more needless ranges than ranges.
use mathlib.Core.Path.{sym, ◌∙◌}
use Rattle.range_split.proofs.SplitLaws.{needless_few}
use Rattle.queue.specs.State.{pools_in}
use Rattle.flush.specs.Flush.{part_of}
use Rattle.splitting.proofs.SplitLaws.{split_none, split_some}
use Rattle.splitting.proofs.flush_split.Goals as goal

pub overflow_sub-n : goal.overflow_sub-n
overflow_sub-n c =
    let a = c.args in
    rw c.split_part-k.ensures.value (needless_few _ (part_of a.merged.now a.w) a.m)

pub returns-then-may_split : goal.returns-then-may_split
returns-then-may_split c =
    let a = c.args in
    let r = split_some (pools_in a.queue.now a.lens.now a.window) a.merged.now a.times.now a.needed.now a.local.now a.joined.now
    a.w a.m a.read a.size a.q c.split_part-k.result _ _ _ _ _
    (sym c.may_split.ensures ∙ c.if-may_split.true) c.split_part-k.ensures.value c.split_part-k.ensures.merged_after c.split_part-k.ensures.needed_after
    c.requeue-after.ensures.result_after c.requeue-after.ensures.local_after c.requeue-after.ensures.joined_after in
    record { left_value = r.0; window_after = r.1.0; merged_after = r.1.1.0; needed_after = r.1.1.1.0; local_after = r.1.1.1.1.0; joined_after = r.1.1.1.1.1 }

pub returns : goal.returns
returns c =
    let a = c.args in
    let r = split_none (pools_in a.queue.now a.lens.now a.window) a.merged.now a.times.now a.needed.now a.local.now a.joined.now
    a.w a.m a.read a.size a.q (sym c.may_split.ensures ∙ c.if-may_split.false) in
    record { left_value = r.0; window_after = r.1.0; merged_after = r.1.1.0; needed_after = r.1.1.1.0; local_after = r.1.1.1.1.0; joined_after = r.1.1.1.1.1 }
