-- `requeue` meets its contract, in each of its three cases: the pushes one after the other, of the needed ranges' words and the local pool's.
use borrow.Author.Rules.{rules}
use Rattle.queue.specs.State.{pools_in}
use Rattle.splitting.proofs.RequeueLaws.{two_pools, one_pool, one_merged}
use Rattle.splitting.proofs.requeue.Goals as goal

pub returns-then-size-stay : goal.returns-then-size-stay
returns-then-size-stay c =
    let a = c.args in
    let r = two_pools (pools_in a.queue.now a.lens.now a.window) a.q a.needed.now _ a.local.now a.joined.now a.stay a.size
    c.pool_words.ensures _ _ _ _ (search rules)
    c.if-size-stay.true c.push-first.ensures c.push-second.ensures c.push.ensures in
    record { result_after = r.0; local_after = r.1.0; joined_after = r.1.1 }

pub returns-then-size-stay-2 : goal.returns-then-size-stay-2
returns-then-size-stay-2 c =
    let a = c.args in
    let r = one_pool (pools_in a.queue.now a.lens.now a.window) a.q a.needed.now _ a.local.now a.joined.now a.stay a.size
    c.pool_words.ensures _ _
    c.if-size-stay.false c.if-size-stay-2.true c.push-first-then-size-stay-2.ensures c.push-then-size-stay-2.ensures in
    record { result_after = r.0; local_after = r.1.0; joined_after = r.1.1 }

pub returns : goal.returns
returns c =
    let a = c.args in
    let r = one_merged (pools_in a.queue.now a.lens.now a.window) a.q a.needed.now _ a.local.now a.joined.now a.stay a.size
    c.pool_words.ensures _ _
    c.if-size-stay.false c.if-size-stay-2.false c.merge.ensures c.push-2.ensures in
    record { result_after = r.0; local_after = r.1.0; joined_after = r.1.1 }
