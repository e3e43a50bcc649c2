-- `write_lines` meets its contract: what is begun is ended, and nothing is left of what spilled.
use mathlib.Core.Path.{refl}
use native.Mathlib.Omega.{arith}
use Rattle.lines.proofs.Filling.{partly-end}
use Rattle.lines.proofs.write_lines.Goals as goal

pub returns : goal.returns
returns c =
    partly-end _ _ _ _ _ (c.end_lines.ensures _ c.begin_lines-begun.ensures.partly) refl (omega arith)
