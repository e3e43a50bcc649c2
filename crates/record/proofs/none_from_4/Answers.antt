-- `none_from_4` meets its contract: the bytes are tested in two parts, and are zero where their number is.
use mathlib.Core.Path.{ap, ◌∙◌}
use Prim.Native.Nat.{ℕ}
use lib.Dec.{eqb}
use Rattle.le.proofs.Numbers.{number-zero, zeros-parts}
use Rattle.record.proofs.none_from_4.Goals as goal

pub returns : goal.returns
returns c =
    let b = c.args.b.now in
    rw (ap (λ (x : ℕ). eqb x 0) c.four.ensures ∙ number-zero b 4 4, ap (λ (x : ℕ). eqb x 0) c.eight.ensures ∙ number-zero b 8 8) (zeros-parts b 4 4 8)
