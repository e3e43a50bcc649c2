-- The invariant: the first ranges of the pool stand in front as words, three each; a turn puts the next one.
use mathlib.Core.Path.{◌≡◌}
use Rattle.lists.specs.Over.{over}
use Rattle.ranges.specs.Words.{flat}
use Rattle.worker.specs.Pool.{ranges_from}
use Rattle.splitting.proofs.pool_words.Given as goal

abbrev pub invariant-loop-i : goal.invariant-loop-i
invariant-loop-i l = l.out ≡ over (flat (ranges_from l.q 0 l.i)) l.initial.out
