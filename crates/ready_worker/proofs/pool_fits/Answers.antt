-- The count is tested first, so that the scan stays within the 64 slots.
use Rattle.std.proofs.Common.{arith, rules, ◌≡◌, ◌≤◌, length}
use borrow.Author.Tests.{lt-ltb, le-ltb, le-leb}
use Rattle.ready_worker.specs.Worker.{pool_fits}
use Rattle.ready_worker.proofs.pool_fits.Goals as goal

pub returns-then-most-q : goal.returns-then-most-q
unfolding pool_fits
returns-then-most-q c = rw (lt-ltb _ _ c.if-most-q.true)

pub returns : goal.returns
unfolding pool_fits
returns c =
    let q = c.args.q in
    let h : length q.slots ≡ 64 = search rules in
    let l : q.len ≤ length q.slots = omega arith in
    rw (le-ltb _ _ c.if-most-q.false, c.all_below.ensures, le-leb q.len (length q.slots) l)
