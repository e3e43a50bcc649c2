-- One law about the refusal that a need meets: a claim that holds of 0, 19, 20 and 21 holds of it.
use mathlib.Core.List.{List}
use Prim.Native.Nat.{ℕ}
use Rattle.model.proofs.Basic.{cond_both}
use Rattle.marks.specs.declared.MarkNeed.{MarkNeed}
use Rattle.marks.specs.declared.MarkNeed.TheVariants.{Nothing, Empty, Held, Unread}
use Rattle.marks.specs.Marks.{read_in, held_in, refusal_in}

pub refusal-by : (Q : ℕ → Type 0) (y : MarkNeed) (marks reading : List ℕ) → Q 0 → Q 19 → Q 20 → Q 21 → Q (refusal_in y marks reading)
unfolding refusal_in
refusal-by Q Nothing marks reading none in_use empty read = none
refusal-by Q (Empty m) marks reading none in_use empty read = cond_both Q (held_in marks m) _ _ (λ e. in_use) (λ e. none)
refusal-by Q (Held m) marks reading none in_use empty read = cond_both Q (held_in marks m) _ _ (λ e. none) (λ e. empty)
refusal-by Q (Unread m) marks reading none in_use empty read =
    cond_both Q (held_in marks m) _ _ (λ e. cond_both Q (read_in reading m) _ _ (λ f. read) (λ f. none)) (λ e. empty)
