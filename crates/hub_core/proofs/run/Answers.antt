-- `run` meets its contract. The invariant is `Reached` (Stretches.antt): the stretches so far have done what the definition says of their records.
use Rattle.std.specs.Prelude.{min}
use mathlib.Core.Path.{refl, sym, ap, ◌∙◌}
use native.Mathlib.Omega.{arith}
use Rattle.simulation.specs.Loop.{after}
use Rattle.hub_core.proofs.Tested.{ready-few}
use Rattle.hub_core.proofs.Stretches.{went_on, went_up, whole_fits, whole_short, ready-is, finished}
use Rattle.lists.proofs.Mapped.{length-mapped}
use borrow.Author.Rules.{rules}
use Rattle.hub_core.proofs.run.Goals as goal

pub loop-k-init : goal.loop-k-init
unfolding after
loop-k-init c =
    record {
      inside = omega arith;
      state = refl;
      few = λ u. ready-few _ _ _ _ _ _ _ _ (sym c.ready-up.ensures ∙ u);
    }

pub run_stretch-e-requires : goal.run_stretch-e-requires
run_stretch-e-requires c =
    let i = c.loop-k.invariant in
    let h = c.min-whole.ensures in
    let e = c.min-most.ensures in
    let r = c.min-room.ensures in (
      i.few,
      omega (arith, h, e, r),
      omega (arith, h, e, r),
      i.inside,
      whole_fits _ _ _ h,
    )

pub loop-k-smaller-in-Some : goal.loop-k-smaller-in-Some
loop-k-smaller-in-Some c =
    let t = c.loop-k-test.true in
    let W = c.run_stretch-e.ensures.went in
    omega (arith, t, W.inside, W.onward t)

pub loop-k-preserved-in-Some : goal.loop-k-preserved-in-Some
loop-k-preserved-in-Some c =
    let u = c.set_up-hub.ensures in
    let i = c.loop-k.invariant in
    went_up i _ c.run_stretch-e.ensures.went _ c.in-Some.is _ _ _ u.value u.row_after u.newest_after u.free_after (refl, refl, refl)

pub loop-k-smaller : goal.loop-k-smaller
loop-k-smaller c =
    let t = c.loop-k-test.true in
    let W = c.run_stretch-e.ensures.went in
    omega (arith, t, W.inside, W.onward t)

pub loop-k-preserved : goal.loop-k-preserved
loop-k-preserved c =
    let i = c.loop-k.invariant in
    went_on i _ c.run_stretch-e.ensures.went c.in-None.is refl c.run_stretch-e.ensures.site_value

pub refuse_rest-answer-requires : goal.refuse_rest-answer-requires
refuse_rest-answer-requires c =
    let i = c.loop-k.invariant in
    let h = c.min-whole.ensures in
    let e = c.min-most.ensures in
    let r = c.min-room.ensures in
    (omega (arith, h), omega (arith, e, r), omega (arith, e, r))

pub returns : goal.returns
returns c =
    record {
      sized = record {
        workers = search (rules, length-mapped);
        times = search (rules, length-mapped);
        marks = search (rules, length-mapped);
        reading = search (rules, length-mapped);
        rows = search (rules, length-mapped);
        rights = search (rules, length-mapped);
        newest = search (rules, length-mapped);
        free = search (rules, length-mapped);
        queue = search (rules, length-mapped);
        lens = search (rules, length-mapped);
        merged = search (rules, length-mapped);
      };
      ran =
          finished _ _ _ _ _ _ _ _ _ _ _ _ _ _ c.loop-k.invariant c.loop-k-test.false c.refuse_rest-answer.ensures
          (whole_short c.args.bytes.now _ _ c.min-whole.ensures)
          (c.min-most.ensures ∙ ap (min _) c.min-room.ensures)
          (ready-is _ c.args.row.now _ _ _ c.all_linked-linked.ensures c.ready-up.ensures);
    }
