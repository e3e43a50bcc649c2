-- `put_tail` meets its contract: just the text is copied, and not what spilled after it.
use mathlib.Core.Path.{refl}
use native.Mathlib.Omega.{arith}
use Rattle.model.specs.Log.{text}
use Rattle.lines.specs.Words.{rows}
use Rattle.lines.proofs.Spilling.{append-copied}
use Rattle.lines.proofs.Rows.{after_tail}
use Rattle.lines.proofs.put_tail.Goals as goal

pub spill_tail-n-requires : goal.spill_tail-n-requires
unfolding rows text
spill_tail-n-requires c = (refl, omega arith)

pub slice_bounds-put_text-end : goal.slice_bounds-put_text-end
slice_bounds-put_text-end c = omega (arith, after_tail)

pub returns : goal.returns
returns c = append-copied c.spill_tail-n.ensures c.put_text.ensures
