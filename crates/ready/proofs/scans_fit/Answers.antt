-- Once the sizes are known to be in range each scan stays within its memory, and the answer is the conjunction of what
-- the scans ensure. Where the sizes are not in range nothing is scanned.
use Rattle.std.proofs.Common.{arith, rules, ◌≡◌, refl, sym, Bool, true, false, ◌&&◌, List, ℕ, ◌+◌, ◌*◌, ◌≤◌, min, length}
use lib.Dec.{eqb}
use borrow.Author.Tests.{le-leb}
use Rattle.values.specs.declared.Window.{Window}
use Rattle.scans.specs.Scans.{below_to, slots_below, rows_below}
use Rattle.ready_queue.specs.Queue.{lens_fit, lens_sum, pools_fit}
use Rattle.ready_sizes.specs.Sizes.{besides}
use Rattle.ready_sizes.proofs.Sizes.{WindowIn, sizes_tell}
use Rattle.ready.specs.Ready.{workers_fit, scans_fit}
use Rattle.ready.proofs.scans_fit.Goals as goal

-- a window in range lies in the memory
pools-in : (w : Window) (queue lens : List ℕ) (b n most : ℕ) → WindowIn w most → most ≤ 2048
    → pools_fit w queue lens b n
    ≡ slots_below queue w.from n w.queued && lens_fit lens w.first (2 * b) w.pools && eqb (lens_sum lens w.first w.pools) w.queued
unfolding pools_fit
pools-in w queue lens b n most z m =
    let h : w.first + w.pools ≤ 4096 = omega (arith, z.pools, z.queued, z.first, z.from) in
    let g : w.from + w.queued ≤ 4096 = omega (arith, z.queued, z.from) in
    rw (le-leb _ _ h, le-leb _ _ g)

regroup : (x p e f g : Bool) → x && (p && e) && f && g ≡ x && p && (e && f) && g
regroup false p e f g = refl
regroup true false e f g = refl
regroup true true e f g = refl

pub overflow_cast-n : goal.overflow_cast-n
overflow_cast-n c = omega (arith, (sizes_tell _ _ (sym c.if-sizes_fit.ensures)).n.1)

pub overflow_sub-most : goal.overflow_sub-most
overflow_sub-most c = (sizes_tell _ _ (sym c.if-sizes_fit.ensures)).n.0

pub workers_fit-d-requires : goal.workers_fit-d-requires
workers_fit-d-requires c =
    let z = sizes_tell c.args.hub c.args.long (sym c.if-sizes_fit.ensures) in
    let l = c.from-size.ensures in (
      z.p.1,
      z.v.1,
      z.n.1,
      z.listed,
      omega (arith, l, z.batch.1, c.min.ensures),
      omega (arith, l, z.batch.1, c.min-then-sizes_fit.ensures),
    )

pub overflow_cast-hub : goal.overflow_cast-hub
overflow_cast-hub c = omega (arith, (sizes_tell _ _ (sym c.if-sizes_fit.ensures)).v.1)

pub returns-then-sizes_fit : goal.returns-then-sizes_fit
unfolding scans_fit
returns-then-sizes_fit c =
    let z = sizes_tell c.args.hub c.args.long (sym c.if-sizes_fit.ensures) in
    let a = c.args in
    let h = a.hub in
    let w = h.window in
    let l : length a.lent.now.newest ≡ 256 = search rules in
    let m : length a.lent.now.free ≡ 2048 = search rules in
    let n : h.site.v ≤ length a.lent.now.newest = omega (arith, l, z.v.1) in
    let f : h.free ≤ length a.lent.now.free = omega (arith, m, z.free, z.n.1) in
    rw (
      ← c.if-sizes_fit.ensures,
      c.all_below-a.ensures,
      c.all_below-b.ensures,
      c.pools_fit-c.ensures,
      pools-in w a.lent.now.queue a.lent.now.lens h.site.batch h.site.n (besides h) z.window (omega (arith, z.n.1)),
      c.workers_fit-d.ensures,
      c.rows_below-e.ensures,
      c.min.ensures,
      c.min-then-sizes_fit.ensures,
      c.from-size.ensures,
      le-leb _ _ n,
      le-leb _ _ f,
      le-leb _ _ z.listed,
    )
    (regroup
    (below_to a.lent.now.newest h.site.n h.site.v && below_to a.lent.now.free h.site.n h.free)
    (slots_below a.lent.now.queue w.from h.site.n w.queued && lens_fit a.lent.now.lens w.first (2 * h.site.batch) w.pools)
    (eqb (lens_sum a.lent.now.lens w.first w.pools) w.queued)
    (workers_fit h a.lent.now.merged (min h.site.batch (besides h)) (min (4 * h.site.batch) (besides h)) h.site.p)
    (rows_below h.site.rows h.site.v h.site.listed && a.linked))

pub returns : goal.returns
unfolding scans_fit
returns c = rw (← c.if-sizes_fit.ensures)
