-- `put_ends` meets its contract: the first digits and the last ones are the digits, where they meet or overlap.
use Prim.Native.Nat.{◌-◌, ◌+◌}
use native.Mathlib.Omega.{arith}
use Rattle.lines.proofs.Appending.{append-rest, append-halves}
use Rattle.lines.proofs.Longest.{after-rest}
use Rattle.lines.proofs.put_ends.Goals as goal

pub returns : goal.returns
returns c =
    let l = c.args.places.now in
    let s = c.args.start in
    let m = c.args.m in
    let last = 20 - m in
    let first = c.put_text.ensures in
    let rest = append-rest l last (20 - last) (omega (arith, c.requires)) c.put_text-2.ensures in
    let w = append-halves l s last (s + m - s) (omega (arith, c.requires)) (omega (arith, c.requires)) (omega (arith, c.requires)) (omega (arith, c.requires)) first rest in
    record { appended = w; upper_bound = omega (arith, after-rest l s w) }
