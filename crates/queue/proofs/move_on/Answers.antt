-- `move_on` meets its contract: past range 2048 what is left is copied to the front.
use mathlib.Core.Path.{◌≡◌}
use mathlib.Core.Bool.{false}
use Prim.Native.Nat.{◌+◌, ◌*◌, min}
use native.Mathlib.Omega.{arith}
use borrow.Author.Tests.{lt-leb}
use lib.Dec.{leb}
use Rattle.queue.specs.State.{moved_on}
use Rattle.queue.proofs.MemoryLaws.{shift_copied}
use Rattle.queue.proofs.StateLaws.{lies-facts}
use Rattle.queue.proofs.move_on.Goals as goal

pub returns : goal.returns
unfolding moved_on
returns c =
    let a = c.args in
    let w = a.w in
    let l = lies-facts w c.requires.0 in
    let far : leb (w.from + a.r) 2048 ≡ false = lt-leb _ _ c.if-from-le2048.false in
    let two : min w.pools 2 ≡ min 2 w.pools = omega arith in
    let ranges = shift_copied a.queue.now (3 * (w.from + a.r)) (3 * (w.from + w.queued)) (omega arith) (omega arith) in
    let lengths = shift_copied a.lens.now (w.first + min w.pools 2) (w.first + w.pools) (omega arith) (omega arith) in
    rw (far, c.copy_within.ensures.after, c.copy_within-2.ensures.after, c.min.ensures, c.saturating_sub-pools.ensures, ranges, lengths, two)
