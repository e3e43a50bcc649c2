-- The buffer is as long as it says, by the law of a repeat's length and not by counting.
use Rattle.std.proofs.Common.{ℕ, sym}
use Rattle.std.proofs.lemmas.List.{length-replicate}
use Rattle.rows.proofs.with_buffer.Goals as goal

pub slice_bounds-run-end : goal.slice_bounds-run-end
slice_bounds-run-end g c = sym (length-replicate {A = ℕ} 4194305 0)
