-- `put_text` meets its contract: the loop keeps `Copying`, and its measure is what is left of the text.
use native.Mathlib.Omega.{arith}
use Rattle.lines.proofs.Text.{copying_end}
use Rattle.lines.proofs.put_text.Goals as goal

pub returns : goal.returns
returns c = record { memory = copying_end _ _ _ _ _ c.loop-i.invariant c.loop-i-test.false c.requires; next = omega arith }
