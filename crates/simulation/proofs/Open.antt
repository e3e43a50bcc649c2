-- Open (1) and (2) and close are the model's: they change the worker's record and the clock, and nothing in lent memory.
use mathlib.Core.Path.{◌≡◌, refl}
use mathlib.Core.Bool.{Bool, true, false, cond}
use mathlib.Core.Logic.{⊎_elim}
use Prim.Native.Nat.{ℕ, ◌+◌, ◌<◌}
use native.Mathlib.Omega.{arith}
use lib.Dec.{ltb, eqb}
use borrow.Author.Tests.{lt-ltb}
use Rattle.model.specs.Store as Model
use Rattle.model.specs.Store.{Store, absent, last_clock, worker_at}
use Rattle.model.specs.Steps.{time_step, step_at, open_announce, open_pass, close_withdraw}
use Rattle.model.proofs.Basic.{eq_cases}
use Rattle.values.specs.declared.Answer.TheVariants.{Going, At as AnswerAt, Done, No}
use Rattle.worker.proofs.Rep.{announced_at}
use Rattle.announcing.specs.Announcing.{open_announce_step, open_pass_step, close_withdraw_step}
use Rattle.step.specs.Step.{step_of}
use Rattle.simulation.specs.Memory.{Memory, hand_words, write}
use Rattle.simulation.specs.Left.{Sized}
use Rattle.simulation.proofs.Sound.{Sound}
use Rattle.simulation.proofs.Simulates.{Simulates}
use Rattle.simulation.proofs.Laid.{slots_is, place_at}
use Rattle.simulation.proofs.Kept.{kept_sim}

-- the clock after open (2), where the time can be passed
passed : (k t : ℕ) → t < last_clock → cond (eqb k t) (cond (ltb k last_clock) (k + 1) k) k ≡ cond (eqb k t) (k + 1) k
passed k t h = ⊎_elim (λ e. rw (e.1, lt-ltb k last_clock (omega (arith, e.0)))) (λ e. rw e.1) (eq_cases k t)

module _ (s : Store) (m : Memory) (w : ℕ) (S : Sound s) (Z : Sized m) (laid : m ≡ write s m) (wb : w < s.site.P) where
  pub open_announce-sim : (worker_at s w).doing ≡ Model.OnTime Model.OpenAnnounce → Simulates s m w (Model.OnTime Model.OpenAnnounce)
  unfolding step_of open_announce_step step_at time_step open_announce hand_words
  open_announce-sim e = by (eqb s.clock last_clock) refl
    where
      d : Model.Doing
      d = Model.OnTime Model.OpenAnnounce

      by : (last : Bool) → eqb s.clock last_clock ≡ last → Simulates s m w (Model.OnTime Model.OpenAnnounce)
      by true t =
          kept_sim s m w d S Z laid wb e Model.Idle (worker_at s w).announced s.clock s.slots (No 15) (rw t) (slots_is s m laid)
          (rw t) refl refl
      by false t =
          kept_sim s m w d S Z laid wb e (Model.OnTime Model.OpenPass) s.clock s.clock s.slots Going
          (rw (t, announced_at s.clock (omega (arith, S.bounds.clock)))) (slots_is s m laid) (rw t) refl refl

  pub open_pass-sim : (worker_at s w).doing ≡ Model.OnTime Model.OpenPass → Simulates s m w (Model.OnTime Model.OpenPass)
  unfolding step_of open_pass_step step_at time_step open_pass hand_words
  open_pass-sim e =
      let d : Model.Doing = Model.OnTime Model.OpenPass in
      let a : ℕ = (worker_at s w).announced in
      let p = place_at s S w wb d e in
      kept_sim s m w d S Z laid wb e Model.Idle a (cond (eqb s.clock a) (s.clock + 1) s.clock) s.slots (AnswerAt a)
      (rw (announced_at a (omega arith), passed s.clock a p.1)) (slots_is s m laid) refl refl refl

  pub close_withdraw-sim : (worker_at s w).doing ≡ Model.OnTime Model.CloseWithdraw → Simulates s m w (Model.OnTime Model.CloseWithdraw)
  unfolding step_of close_withdraw_step step_at time_step close_withdraw hand_words
  close_withdraw-sim e =
      kept_sim s m w (Model.OnTime Model.CloseWithdraw) S Z laid wb e Model.Idle absent s.clock s.slots Done refl
      (slots_is s m laid) refl refl refl
