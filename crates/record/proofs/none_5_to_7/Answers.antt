-- `none_5_to_7` meets its contract: the bytes are tested in two parts, and are zero where their number is.
use mathlib.Core.Path.{ap, ◌∙◌}
use Prim.Native.Nat.{ℕ}
use lib.Dec.{eqb}
use Rattle.le.proofs.Numbers.{number-zero, zeros-parts}
use Rattle.record.proofs.none_5_to_7.Goals as goal

pub returns : goal.returns
returns c =
    let b = c.args.b.now in
    rw (ap (λ (x : ℕ). eqb x 0) c.one.ensures ∙ number-zero b 5 1, ap (λ (x : ℕ). eqb x 0) c.two.ensures ∙ number-zero b 6 2) (zeros-parts b 5 1 2)
