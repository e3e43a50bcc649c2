-- `sizes_ok` meets its contract: the same tests; a clock of four bytes is at most the last.
use mathlib.Core.Path.{◌≡◌, refl}
use mathlib.Core.Bool.{Bool, true, false, ◌&&◌}
use Prim.Native.Nat.{◌≤◌}
use native.Mathlib.Omega.{arith}
use lib.Dec.{leb}
use borrow.Author.Tests.{le-leb}
use Rattle.model.specs.Store.{last_clock}
use Rattle.model.specs.Apply.{in_ranges}
use Rattle.decision.proofs.sizes_ok.Goals as goal

regroup : (x y g l : Bool) → x && (y && (g && l)) ≡ x && y && (g && true) && l
regroup true true true l = refl
regroup true true false l = refl
regroup true false g l = refl
regroup false y g l = refl

pub returns : goal.returns
unfolding in_ranges
returns c =
    let a = c.args in
    let last : a.clock ≤ last_clock = omega (arith, c.ranges) in
    rw (c.from.ensures, le-leb a.clock last_clock last)
    (regroup (leb 1 a.p && leb a.p 16 && (leb 1 a.v && leb a.v 256)) (leb a.v a.n && leb a.n 2048) (leb 1 a.clock)
    (leb a.n a.long))
