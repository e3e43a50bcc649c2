-- `read_all` meets its contract: the part that is written whole, in the whole.
use native.Mathlib.Omega.{arith}
use Rattle.lists.proofs.Parts.{put_mid-over_at}
use Rattle.mark_times.proofs.read_all.Goals as goal

pub returns : goal.returns
returns c = put_mid-over_at _ _ _ _ _ c.copy_from_slice.ensures.after (omega arith)
