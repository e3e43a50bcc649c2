-- One turn of the loop on a record is what the contract for one record says.
use Rattle.std.specs.Prelude.{ℕ, List}
use mathlib.Core.Path.{sym, subst}
use Rattle.model.specs.Rules.{Given}
use Rattle.values.specs.declared.Answer.{Answer}
use Rattle.simulation.specs.Memory.{Memory}
use Rattle.simulation.specs.Left.{Sized}
use Rattle.simulation.specs.Shell.{done_of}
use Rattle.simulation.specs.Loop.{Ran}
use Rattle.simulation.specs.Public.{Does}
use Rattle.simulation.proofs.Bytes.{Bytes}
use Rattle.simulation.proofs.Main.{does}
use Rattle.records.proofs.First.{one_memory, one_answer}

pub one_done : {m m' : Memory} {given : Given} {b kinds numbers kinds' numbers' : List ℕ} {y : Answer} → Sized m → Bytes b
    → Ran m given b kinds numbers 1 m' kinds' numbers' y → Does m given b y m'
one_done {m} {m'} {given} {b} {kinds} {numbers} {kinds'} {numbers'} {y} sized small r =
    subst (λ (x : Memory). Does m given b y x) (sym (one_memory r))
    (subst (λ (a : Answer). Does m given b a (done_of m given b).memory) (sym (one_answer r)) (does m given b sized small))
