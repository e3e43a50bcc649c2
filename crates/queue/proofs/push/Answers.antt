-- `push` meets its contract: the part of the memory that is written whole, in the whole.
use mathlib.Core.Path.{◌≡◌, sym, ◌∙◌}
use mathlib.Core.Bool.{true}
use Prim.Native.Nat.{◌+◌, ◌-◌, ◌*◌}
use native.Mathlib.Omega.{arith}
use lib.ListN.{take}
use lib.Seq.{length-take-le}
use Rattle.lists.proofs.Parts.{put_mid-over_at}
use Rattle.queue.specs.State.{room, pushed}
use Rattle.queue.proofs.push.Goals as goal

pub returns-then-has_room : goal.returns-then-has_room
unfolding pushed
returns-then-has_room c =
    let a = c.args in
    let e : room a.w a.n ≡ true = sym c.has_room.ensures ∙ c.if-has_room.true in
    let at = 3 * (a.w.from + a.w.queued) in
    let pool = take (3 * a.n) a.src.now in
    let copied = put_mid-over_at at (at + 3 * a.n - at) a.queue.now c.copy_from_slice.new.self pool c.copy_from_slice.ensures.after
    (omega (arith, length-take-le (3 * a.n) a.src.now c.requires)) in
    rw (e, copied)
