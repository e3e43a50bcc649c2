-- `read_enter` meets its contract: the refusal decides, and what the calls ensure is what read (1) leaves, by the laws `read_stopped` and `read_entered`.
use mathlib.Core.Path.{refl}
use Rattle.values.proofs.Refusals.{not-none}
use Rattle.step.proofs.Leaves.{read_stopped, read_entered}
use Rattle.step.proofs.read_enter.Goals as goal

pub returns-in-Err : goal.returns-in-Err
returns-in-Err c =
    read_stopped _ _ _ _ _ c.need_for.ensures (rw c.in-Err.is at c.check.ensures) (not-none _) c.stopped.ensures

pub returns-in-Ok : goal.returns-in-Ok
returns-in-Ok c =
    read_entered _ _ _ c.need_for.ensures (rw c.in-Ok.is at c.check.ensures) refl c.newest_of-i.ensures
    c.stamp.ensures c.outcome_of.ensures
