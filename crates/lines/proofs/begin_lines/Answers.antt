-- `begin_lines` meets its contract: the loop keeps `Beginning`, and its measure is the number of answers left.
use mathlib.Core.Path.{refl}
use native.Mathlib.Omega.{arith}
use lib.ListN.{length}
use Rattle.model.specs.Log.{text}
use Rattle.lines.specs.Words.{rows}
use Rattle.lines.proofs.Beginning.{suits, beginning_start, goes, digit-of, ends, one-ten, beginning-next}
use Rattle.lines.proofs.Decimal.{spelled_start}
use Rattle.lines.proofs.Filling.{partly_start}
use Rattle.lines.proofs.begin_lines.Goals as goal

pub returns-then-most-out : goal.returns-then-most-out
returns-then-most-out c =
    record { partly = partly_start _ _ _ _ _; done_bound = omega arith }

pub loop-k-init : goal.loop-k-init
loop-k-init c =
    let A = c.args in
    let t = suits A.most (length A.out.now) A.first c.if-most-out.false in
    beginning_start _ _ _ _ _ _ _ t (omega (arith, t.some)) (omega (arith, t.room)) c.spell-start.ensures
    c.put_tens-n.ensures

pub spill_lines-at-requires : goal.spill_lines-at-requires
unfolding rows text
spill_lines-at-requires c =
    let L = c.loop-k in
    let g = goes _ _ _ _ _ _ _ L.invariant c.loop-k-test.true in
    let e = ends _ _ _ _ _ _ _ L.invariant c.loop-k-test.true c.least-end.ensures in
    let d = digit-of _ _ _ _ _ _ _ L.invariant c.loop-k-test.true in (
      refl,
      g.short,
      omega (arith, e.0),
      e.2,
      omega (arith, e.1, L.invariant.stops, c.requires.0),
      omega (arith, e.1, L.invariant.stops, c.requires.1),
      omega (arith, e.0, e.2, d, g.room),
    )

pub put_front-n-requires : goal.put_front-n-requires
put_front-n-requires c =
    let L = c.loop-k in
    let g = goes _ _ _ _ _ _ _ L.invariant c.loop-k-test.true in
    spelled_start (c.count_up-start.ensures _ (L.invariant.counting g.before).tens)

pub loop-k-preserved : goal.loop-k-preserved
loop-k-preserved c =
    let L = c.loop-k in
    let f = c.least-end.ensures in
    let t = one-ten _ _ _ _ _ _ _ L.invariant c.loop-k-test.true f in
    beginning-next _ _ _ _ _ _ _ L.invariant c.loop-k-test.true f (c.spill_lines-at.ensures _ _ _ L.invariant.partly t)
    c.count_up-start.ensures c.put_front-n.ensures
