-- The loop was called for as many records as there is room for, so it ran for all of them.
use Rattle.std.specs.Prelude.{◌≡◌, ℕ, min, List, length}
use mathlib.Core.Path.{subst}
use native.Mathlib.Omega.{arith}
use Rattle.model.specs.Rules.{Given}
use Rattle.values.specs.declared.Answer.{Answer}
use Rattle.simulation.specs.Memory.{Memory}
use Rattle.simulation.specs.Loop.{Ran}
use Rattle.simulation.specs.Records.{count_of}

pub ran_all : {m m' : Memory} {given : Given} {bytes kinds numbers kinds' numbers' : List ℕ} {count : ℕ} {y : Answer} → count ≡ count_of bytes kinds numbers
    → Ran m given bytes kinds numbers (min count (min (length kinds) (length numbers))) m' kinds' numbers' y
    → Ran m given bytes kinds numbers count m' kinds' numbers' y
ran_all {m = m} {m' = m'} {given = given} {bytes = bytes} {kinds = kinds} {numbers = numbers} {kinds' = kinds'} {numbers' = numbers'} {count = count} {y = y} e R =
    subst (λ (n : ℕ). Ran m given bytes kinds numbers n m' kinds' numbers' y) (omega (arith, e)) R
