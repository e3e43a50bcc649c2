-- `follow` meets its contract: the finger stays where the high is between the times beside it, and else the times beside it are read anew.
use native.Mathlib.Omega.{arith}
use Rattle.range_split.proofs.Fingers.{stays, moved_to, moved_in, moved_past}
use Rattle.range_split.proofs.follow.Goals as goal

pub returns-then-high-finger : goal.returns-then-high-finger
returns-then-high-finger c = (c.requires.1, stays c.args.times.now c.requires.0 c.args.finger c.requires.1 c.args.high (omega arith) (omega arith))

pub behind-requires : goal.behind-requires
behind-requires c =
    let a = c.args in
    let e = c.move_finger-at.ensures in (
      moved_in a.times.now c.requires.0 a.high e,
      λ h. omega (arith, moved_past a.times.now c.requires.0 a.high e h, c.ranges),
    )

pub returns : goal.returns
returns c =
    let ts = c.args.times.now in
    let up = c.requires.0 in
    let e = c.move_finger-at.ensures in
    let b = c.behind.ensures in
    let high = c.args.high in
    (record { within = moved_in ts up high e; none = b.0; last = b.1; next = c.next.ensures }, moved_to ts up high e)
