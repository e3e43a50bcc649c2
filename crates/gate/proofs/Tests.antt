-- One law about the decision on a begin: a claim that holds of each of its refusals, and of the start of a worker below p, holds of it.
use mathlib.Core.Path.{◌≡◌, sym, subst}
use mathlib.Core.Bool.{Bool, true, cond}
use mathlib.Core.List.{List}
use Prim.Native.Nat.{ℕ, ◌<◌}
use native.Mathlib.Omega.{arith}
use lib.Dec.{ltb}
use Rattle.std.proofs.Common.{Result, Ok, Err}
use Rattle.model.specs.Rules.{none_given, in_force}
use Rattle.model.specs.Record.{Operation}
use Rattle.model.specs.Demand.{occurrences}
use Rattle.model.specs.Refusals.{on_reading}
use Rattle.model.specs.Apply.{terms}
use Rattle.model.proofs.Basic.{cond_both}
use Rattle.model.proofs.Begin as Begin
use Rattle.worker.specs.Rep.{doing_rep}
use Rattle.worker.specs.declared.Doing.{Doing}
use Rattle.marks.proofs.Refused.{refusal-by}
use Rattle.gate.specs.declared.Gate.{Gate}
use Rattle.gate.specs.declared.Gate.TheVariants.{Start}
use Rattle.gate.specs.Gate.{mark_need_rep, seen_of, started_by, started, begin_gate}

pub begin-gate_by : (Q : Result Gate ℕ → Type 0) (p v w : ℕ) (o : Operation) (idle has : Bool) (rows marks reading table : List ℕ)
    → ((k : ℕ) → 0 < occurrences k on_reading → Q (Err k))
    → (ltb w p ≡ true → Q (Ok (Start w (doing_rep (terms rows o).first)))) → Q (begin_gate p (seen_of v rows table idle has marks reading) w o)
unfolding begin_gate started occurrences
begin-gate_by Q p v w o idle has rows marks reading table refused begun =
    let d : Doing = doing_rep (terms rows o).first in
    let P : ℕ → Type 0 = λ k. Q (started_by w k d) in
    cond_both Q (ltb w p) _ _
    (λ e. Begin.refusal-by P (in_force none_given).limit (seen_of v rows table idle has marks reading) w o
    (λ k n. subst (λ (t : Bool). Q (cond t (Ok (Start w d)) (Err k))) (sym (Begin.not_zero k n)) (refused k n))
    (λ t. refusal-by P (mark_need_rep (terms rows o).mark) marks reading (begun e)
    (refused 19 (omega arith))
    (refused 20 (omega arith))
    (refused 21 (omega arith))))
    (λ e. refused 3 (omega arith))
