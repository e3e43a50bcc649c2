-- The definition takes the next worker as the turn does.
use Rattle.std.proofs.Common.{arith, refl, add-one, ◌≤◌, ◌<◌}
use Rattle.std.proofs.lemmas.List.{get_or-take}
use borrow.Author.Tests.{le-leb}
use Rattle.ready.specs.Ready.{workers_fit}
use Rattle.ready.proofs.workers_fit.Goals as goal

pub loop-w-init : goal.loop-w-init
unfolding workers_fit
loop-w-init c = refl

pub loop-w-preserved : goal.loop-w-preserved
unfolding workers_fit
loop-w-preserved c =
    let a = c.args in
    let l : a.local ≤ 64 = omega arith in
    let h : a.list ≤ 256 = omega arith in
    let w = c.loop-w.w in
    let k : w < a.hub.site.p = omega arith in
    let e = rw (le-leb a.local 64 l, le-leb a.list 256 h, get_or-take a.hub.site.p a.hub.workers w _ k) at c.worker_fits-ok.ensures in
    rw (add-one, ← c.loop-w.invariant, ← e)
