-- `merge_two` meets its contract: the two pools are the fronts of the parts that are lent.
use mathlib.Core.Path.{◌∙◌}
use Prim.Native.Nat.{◌+◌, ◌*◌}
use Rattle.ranges.proofs.WordLaws.{ranges_at-drop}
use Rattle.queue.proofs.MemoryLaws.{part_is}
use Rattle.queue.proofs.merge_two.Goals as goal

pub returns : goal.returns
returns c =
    let a = c.args in
    c.merge.ensures
    ∙ rw (
      part_is a.queue.now (3 * a.from),
      part_is a.queue.now (3 * (a.from + a.la)),
      ranges_at-drop a.queue.now a.from a.la,
      ranges_at-drop a.queue.now (a.from + a.la) a.lb,
    )
