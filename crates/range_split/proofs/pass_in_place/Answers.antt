-- `pass_in_place` meets its contract: without a time every range is needless and stays where it is; else each turn of the loop puts one where it
-- belongs.
use mathlib.Core.Path.{◌≡◌, refl, sym, ap, ◌∙◌}
use mathlib.Core.List.{List, [], ◌∷◌}
use Prim.Native.Nat.{ℕ, ◌-◌, ◌<◌}
use native.Mathlib.Omega.{arith}
use borrow.Author.Tests.{lt-ltb, le-ltb, eqb-true}
use lib.Dec.{ltb}
use lib.ListN.{length}
use Rattle.lists.specs.Over.{over}
use Rattle.lists.proofs.Over.{over-nil}
use Rattle.model.specs.Store.{Range, absent}
use Rattle.model.specs.Ranges.{needed, needed_of, needless_of}
use Rattle.ranges.specs.Words.{range_of, range_at, ranges_at, flat, put_at}
use Rattle.ranges.proofs.WordLaws.{length-ranges_at, over-ranges_at}
use Rattle.range_split.proofs.SplitLaws.{needed-none, needless_all}
use Rattle.range_split.proofs.Fingers.{begins, needed-behind}
use Rattle.range_split.proofs.Splitting.{start, needed-turn, needless-turn}
use Rattle.range_split.proofs.pass_in_place.Goals as goal
use Rattle.range_split.proofs.pass_in_place.Goals.{then-range-finger, else-range-finger}

-- a list without entries
none : (l : List ℕ) → length l ≡ 0 → l ≡ []
none [] e = refl
none (x ∷ l) e = absurd (omega arith)

pub returns-then-is_empty : goal.returns-then-is_empty
returns-then-is_empty c =
    let a = c.args in
    let l = ranges_at a.m.now 0 a.n in
    let no_time : a.times.now ≡ [] = none a.times.now (eqb-true _ _ (sym c.is_empty.ensures ∙ c.if-is_empty.true)) in
    let gone : needless_of a.times.now l ≡ l = ap (λ (ts : List ℕ). needless_of ts l) no_time ∙ needless_all l in
    let stay : needed_of a.times.now l ≡ [] = ap (λ (ts : List ℕ). needed_of ts l) no_time ∙ needed-none l in
    record {
      value = sym (ap length gone ∙ length-ranges_at a.m.now 0 a.n);
      m_after = sym (ap (λ (q : List Range). over (flat q) a.m.now) gone ∙ over-ranges_at a.m.now a.n c.requires.0);
      out_after = sym (ap (λ (q : List Range). over (flat q) a.out.now) stay ∙ over-nil a.out.now);
    }

pub loop-i-init : goal.loop-i-init
loop-i-init c = (begins _, start _ _ _)

pub loop-i-preserved : goal.loop-i-preserved
loop-i-preserved c =
    let l = c.loop-i in
    let a = c.args in
    let ts = a.times.now in
    let r = c.range_at-range.result in
    let read : range_of r ≡ range_at l.m l.i = c.range_at-range.ensures in
    let g = c.follow-finger in
    let h : r.high < absent = omega arith in
    let e : needed ts (range_at l.m l.i) ≡ ltb r.low g.result.behind =
    ap (needed ts) (sym read) ∙ needed-behind ts c.requires.2 g.result g.ensures.0 (range_of r) g.ensures.1 h in (
      g.ensures.0,
      elim c.if-range-finger.branch [
        | then-range-finger w ↦
            rw (w.m-is, w.out-is, w.j-is, w.put_range.ensures ∙ ap (put_at l.out (l.i - l.j)) read)
            (needed-turn ts a.m.now a.out.now l.m l.out l.i l.j l.invariant.1 (omega arith)
            (e ∙ lt-ltb r.low g.result.behind w.if-range-finger.true))
        | else-range-finger w ↦
            rw (w.m-is, w.out-is, w.j-is, w.put_range-else-range-finger.ensures ∙ ap (put_at l.m l.j) read)
            (needless-turn ts a.m.now a.out.now l.m l.out l.i l.j l.invariant.1 (omega arith)
            (e ∙ le-ltb r.low g.result.behind w.if-range-finger.false))
      ],
    )
