-- `apply_one` meets its contract: the loop ran for one record.
use mathlib.Core.Path.{refl}
use Rattle.records.proofs.First.{one_memory, one_answer}
use Rattle.records.proofs.One.{one_done}
use Rattle.records.proofs.apply_one.Goals as goal

pub returns : goal.returns
returns c =
    record {
      sized = c.run-done.ensures.sized;
      does = one_done c.run-done.ensures.sized (λ i. (c.shared_slice_known-2-1.given i).fits) c.run-done.ensures.ran;
      memory = one_memory c.run-done.ensures.ran;
      answer = one_answer c.run-done.ensures.ran;
      count = refl;
    }
