-- `split` meets its contract: the announced times, sorted, need the same ranges, so that the pass splits as the times themselves would; the needless
-- ranges, which then stand at the front of m in their order, are reversed there.
use mathlib.Core.Path.{ap, sym, ◌∙◌}
use mathlib.Core.List.{List}
use Prim.Native.Nat.{ℕ}
use native.Mathlib.Omega.{arith}
use lib.ListN.{length, take, length-take}
use lib.Seq.{length-take-le}
use Rattle.lists.specs.Over.{over}
use Rattle.model.specs.Store.{Range}
use Rattle.model.specs.Ranges.{needless_of}
use Rattle.ranges.specs.Words.{ranges_at, flat}
use Rattle.range_split.proofs.SplitLaws.{needless_most, sorted_rising, needed_of-sorted, needless_of-sorted}
use Rattle.range_split.proofs.Reversing.{reverse-over}
use Rattle.times.proofs.TimeLaws.{announced_few}
use Rattle.range_split.proofs.split.Goals as goal

-- no more times are announced than there is room for
pub slice_bounds-sorted-end : goal.slice_bounds-sorted-end
slice_bounds-sorted-end c =
    let s = c.sort_announcements-k in
    let ts = take c.args.t c.args.times.now in
    omega (arith, s.auto.out, s.ensures.value, announced_few ts, length-take c.args.t c.args.times.now, c.requires)

pub slice_bounds-pass_in_place-end : goal.slice_bounds-pass_in_place-end
slice_bounds-pass_in_place-end c =
    let s = c.sort_announcements-k in
    let ts = take c.args.t c.args.times.now in
    sym (length-take-le s.result s.new.out
    (omega (arith, s.auto.out, s.ensures.value, announced_few ts, length-take c.args.t c.args.times.now, c.requires)))

pub pass_in_place-needless-requires : goal.pass_in_place-needless-requires
pass_in_place-needless-requires c =
    let s = c.sort_announcements-k in (
      c.requires.0,
      c.requires.2,
      sorted_rising c.args.times.now c.args.t _ _ _ s.ensures.value s.ensures.out_after,
    )

pub reverse_ranges-requires : goal.reverse_ranges-requires
reverse_ranges-requires c =
    let p = c.pass_in_place-needless in
    omega (arith, p.auto.m, needless_most _ c.args.m.now c.args.n p.ensures.value, c.requires)

pub returns : goal.returns
returns c =
    let a = c.args in
    let s = c.sort_announcements-k in
    let p = c.pass_in_place-needless.ensures in
    let l = ranges_at a.m.now 0 a.n in
    let gone = needless_of-sorted a.times.now a.t _ _ _ s.ensures.value s.ensures.out_after l in
    let stay = needed_of-sorted a.times.now a.t _ _ _ s.ensures.value s.ensures.out_after l in
    let over-with : (d : List ℕ) → List Range → List ℕ = λ d q. over (flat q) d in
    record {
      count = p.value ∙ ap length gone;
      needless =
          reverse-over a.m.now _ _ (needless_of (take a.t a.times.now) l) _
          (p.m_after ∙ ap (over-with a.m.now) gone)
          (p.value ∙ ap length gone)
          c.reverse_ranges.ensures;
      needed = p.out_after ∙ ap (over-with a.out.now) stay;
    }
