-- `take` meets its contract: where the test holds, the two lengths read are those of the first two pools, so that what it merges and how the window
-- moves on are the definition's; else nothing is taken and nothing written.
use Prim.Native.Nat.{◌+◌, ◌≤◌}
use native.Mathlib.Omega.{arith}
use Prim.Native.Nat.{ℕ}
use mathlib.Core.Path.{◌≡◌, sym, ◌∙◌}
use mathlib.Core.Bool.{true}
use Rattle.lists.proofs.Over.{over-nil}
use Rattle.queue.specs.State.{Queue, pools_in, lies, may_take, first_length, second_length, taken, rest}
use Rattle.queue.proofs.StateLaws.{lies-facts, may_facts, took}
use Rattle.queue.proofs.take.Goals as goal

-- the first two pools' ranges are in the queue's memory, and have room
few : (q : Queue) (la lb : ℕ) → may_take q ≡ true → la ≡ first_length q → lb ≡ second_length q
    → (lies q.window ≡ true) × (q.window.from ≤ 2048) × (q.window.queued ≤ 2048) × (la + lb ≤ 256) × (la + lb ≤ q.window.queued)
few q la lb h a b =
    let m = may_facts q h in
    let l = lies-facts _ m.0 in
    (m.0, l.from, l.queued, omega arith, omega arith)

pub length_at-la-requires : goal.length_at-la-requires
unfolding may_take
length_at-la-requires c = (may_facts (pools_in c.args.queue.now c.args.lens.now c.args.w) (sym c.may_take.ensures ∙ c.if-not-may_take.false)).0

pub length_at-lb-requires : goal.length_at-lb-requires
unfolding may_take
length_at-lb-requires c = (may_facts (pools_in c.args.queue.now c.args.lens.now c.args.w) (sym c.may_take.ensures ∙ c.if-not-may_take.false)).0

pub merge_two-requires : goal.merge_two-requires
unfolding may_take
merge_two-requires c = let h = few (pools_in c.args.queue.now c.args.lens.now c.args.w) c.length_at-la.result c.length_at-lb.result (sym c.may_take.ensures ∙ c.if-not-may_take.false)
    c.length_at-la.ensures.0 c.length_at-lb.ensures.0 in
    omega arith

pub move_on-window-requires : goal.move_on-window-requires
unfolding may_take
move_on-window-requires c =
    let h = few (pools_in c.args.queue.now c.args.lens.now c.args.w) c.length_at-la.result c.length_at-lb.result (sym c.may_take.ensures ∙ c.if-not-may_take.false)
    c.length_at-la.ensures.0 c.length_at-lb.ensures.0 in
    (h.0, h.4)

pub returns : goal.returns
unfolding may_take
returns c =
    let a = c.args in
    took (pools_in a.queue.now a.lens.now a.w) _ a.merged.now _ c.length_at-la.result c.length_at-lb.result
    (sym c.may_take.ensures ∙ c.if-not-may_take.false) c.length_at-la.ensures.0 c.length_at-lb.ensures.0 c.merge_two.ensures c.move_on-window.ensures

pub returns-then-not-may_take : goal.returns-then-not-may_take
unfolding may_take taken rest
returns-then-not-may_take c =
    let e = sym c.may_take.ensures ∙ c.if-not-may_take.true in
    record { counted = rw e; written = rw e (sym (over-nil _)); left = rw e }
