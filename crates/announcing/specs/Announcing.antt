-- What a step leaves, and the steps of open and close in this code's types. Each is the model's step of the same name
-- (model/specs/Steps.antt). The worker's announced time is t, the clock k, and n slots are free.
use Rattle.std.specs.Prelude.{Some, None, cond, ℕ, ◌+◌, ltb, eqb}
use Rattle.model.specs.Store.{last_clock}
use Rattle.values.specs.declared.Answer.{Answer}
use Rattle.values.specs.declared.Answer.TheVariants.{Going, At as AnswerAt, Done, No}
use Rattle.worker.specs.Rep.{Announced}
use Rattle.worker.specs.declared.Doing.{Doing}
use Rattle.worker.specs.declared.Doing.TheVariants.{Idle, OnTime}
use Rattle.worker.specs.declared.TimeStep.TheVariants.{OpenPass}
use Rattle.announcing.specs.declared.Outcome.{Outcome}

abbrev pub outcome_of : Doing → Announced → ℕ → ℕ → Answer → Outcome
outcome_of d t k n y = record { doing = d; announced = t; clock = k; free = n; answer = y }

------------------------------------------------------------------------
-- Open

-- (1) H5.32: refusal 15 at the last clock. H5.33: else the worker announces the clock.
unfoldable pub open_announce_step : Announced → ℕ → ℕ → Outcome
open_announce_step t k n = cond (eqb k last_clock) (outcome_of Idle t k n (No 15)) (outcome_of (OnTime OpenPass) (Some k) k n Going)

-- (2) H5.34: a clock that is still at the announced time goes up by one, and that time is the answer. The last clock value is not passed. A
-- worker at this place has a time; without one nothing is answered.
unfoldable pub open_pass_step : Announced → ℕ → ℕ → Outcome
open_pass_step None k n = outcome_of Idle None k n Going
open_pass_step (Some a) k n = outcome_of Idle (Some a) (cond (eqb k a) (cond (ltb k last_clock) (k + 1) k) k) n (AnswerAt a)

-- Close, H5.40: the worker has no time then.
unfoldable pub close_withdraw_step : ℕ → ℕ → Outcome
close_withdraw_step k n = outcome_of Idle None k n Done
