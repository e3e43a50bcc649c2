-- `begin` meets its contract: 3, then by the place where the operation begins.
use Rattle.std.proofs.Common.{◌≡◌, ap, sym, ◌∙◌, Result, Ok, Err}
use Rattle.std.specs.Prelude.{IsErrAnd}
use Rattle.values.specs.declared.Refusal.{Refusal}
use Rattle.values.specs.Meaning.{refusal_number}
use Rattle.values.specs.Refusals.{numbered}
use Rattle.gate.specs.declared.Gate.{Gate}
use Rattle.gate.proofs.Started.{start_at, begun, not-below}
use Rattle.gate.proofs.begin.Goals as goal

-- the refusal is passed on
err-from : (r : Result Gate Refusal) (e : Refusal) → IsErrAnd r (λ k. k ≡ e) → numbered r ≡ Err (refusal_number e)
err-from (Err k) e h = ap (λ (x : Refusal). Err (refusal_number x)) h
err-from (Ok g) e h = absurd h

pub returns-then-p-from : goal.returns-then-p-from
returns-then-p-from c = not-below _ _ _ _ _ c.from.ensures c.if-p-from.true

pub returns-in_err-doing : goal.returns-in_err-doing
returns-in_err-doing c =
    let b = rw c.in_err-doing.was at (begun _ _ _ _ _ c.from.ensures c.if-p-from.false c.place.ensures) in
    err-from _ _ c.from_residual.ensures.1 ∙ b

pub returns : goal.returns
returns c =
    rw c.in_ok-doing.was at (begun _ _ _ _ _ c.from.ensures c.if-p-from.false c.place.ensures)
