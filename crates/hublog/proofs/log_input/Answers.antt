-- `log_input`: the arrays are as long as they say, by the law of a repeat's length and not by counting.
use Rattle.std.proofs.Common.{ℕ, sym}
use Rattle.std.proofs.lemmas.List.{length-replicate}
use Rattle.hublog.proofs.log_input.Goals as goal

pub slice_bounds-block-end : goal.slice_bounds-block-end
slice_bounds-block-end c = sym (length-replicate {A = ℕ} 262144 0)

pub slice_bounds-text-end : goal.slice_bounds-text-end
slice_bounds-text-end c = sym (length-replicate {A = ℕ} 1146880 0)
