-- `apply_all` meets its contract: the loop ran for as many records as there are and as there is room for.
use mathlib.Core.Path.{refl}
use Rattle.records.proofs.Room.{ran_all}
use Rattle.simulation.proofs.Main.{applies}
use Rattle.records.proofs.apply_all.Goals as goal

pub returns : goal.returns
returns c =
    record {
      sized = c.run-done.ensures.sized;
      applies =
          applies _ _ _ _ _ _ _ _ _ c.run-done.ensures.sized (λ i. (c.type_inv.bytes i).fits)
          (record { count = c.answerable-count.ensures; last = c.run-done.result.last; ran = ran_all c.answerable-count.ensures c.run-done.ensures.ran });
      answer = refl;
    }
