-- Demand 1 of the definitions, H6.1: a record of any bytes, handed to the hub in any state, ends in its answer or in one numbered refusal; a
-- refusal on reading changes nothing, one met at a step only sets that worker idle. `takes_step` tells the two apart, not the number. Proved in
-- theorem/proofs/Refusals.antt.
use Rattle.std.specs.Prelude.{◌≡◌, cond, List, [], ◌∷◌, ℕ, ◌<◌}
use Rattle.std.proofs.Math.Option.{Option, none, some}
use Rattle.model.specs.Store.{Idle, Hub, blank, up, place}
use Rattle.model.specs.Rules.{Rules}
use Rattle.model.specs.Answer.{Answer, said}
use Rattle.model.specs.Record.{SetUp, Begin, Step, Decoded, Asks, Refuses, decode}
use Rattle.model.specs.Apply.{takes_step, apply}
use Rattle.model.specs.Demand.{occurrences}

-- H7.1: the numbers of the refusals on reading; 7 is the row writer's
abbrev pub on_reading : List ℕ
on_reading = 1 ∷ 2 ∷ 3 ∷ 4 ∷ 5 ∷ 6 ∷ 8 ∷ 9 ∷ 10 ∷ 11 ∷ 12 ∷ 13 ∷ 16 ∷ 17 ∷ 19 ∷ 20 ∷ 21 ∷ 23 ∷ 25 ∷ []

-- H7.2: and of those that a step meets
abbrev pub at_step : List ℕ
at_step = 14 ∷ 15 ∷ 18 ∷ 19 ∷ 20 ∷ 21 ∷ []

-- the hub with that worker idle of which the record is a step
unfoldable pub idled : Hub → Decoded → Hub
idled (blank row) d = blank row
idled (up s) (Asks (SetUp z)) = up s
idled (up s) (Asks (Begin w o)) = up s
idled (up s) (Asks (Step w)) = up (place s w Idle)
idled (up s) (Refuses k) = up s

-- refusal k of a record that reads as d, at hub h, and the hub after it
pub record Refused (h : Hub) (d : Decoded) (k : ℕ) (after : Hub) : Type 0 where
  -- it is one of those that a step meets, or else of those on reading
  pub number : 0 < occurrences k (cond (takes_step h d) at_step on_reading)
  -- H7.4: one on reading changes nothing. H7.5: one at a step sets the worker idle and changes nothing else.
  pub leaves : after ≡ cond (takes_step h d) (idled h d) h

-- What is claimed of a hub h, a record that reads as d, the refusal in its answer, if it is one, and the hub after it.
abbrev pub EndsBy : Hub → Decoded → Option ℕ → Hub → Type 0
EndsBy h d none after = Unit {0}
EndsBy h d (some k) after = Refused h d k after

abbrev pub EndsWell : Hub → Decoded → Answer → Hub → Type 0
EndsWell h d a after = EndsBy h d (said a).refusal after

-- under the rules given, whatever they are
abbrev pub Demand1 : Rules → Type 0
Demand1 rules = (h : Hub) (b : List ℕ) → EndsWell h (decode b) (apply rules h b).answer (apply rules h b).hub
