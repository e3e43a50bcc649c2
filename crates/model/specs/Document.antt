-- The theorems under document 01's rules and under those in force, and what the two differ in: this is what holds of the hub as it is built.
use Rattle.std.specs.Prelude.{◌≡◌, ◌⊎◌, List, ℕ}
use Rattle.model.specs.Store.{Content, Hub, blank, Lent}
use Rattle.model.specs.Batch.{AsDocumented}
use Rattle.model.specs.Rules.{Given, Rules, document01, in_force, Allowed, all_under}
use Rattle.model.specs.Answer.{Ok}
use Rattle.model.specs.Apply.{refuse, apply}
use Rattle.model.specs.Demand.{Event, events, start_of, Demand3, rows_in, Demand}
use Rattle.model.specs.MonthEnd.{MonthEnd}
use Rattle.model.specs.Refusals.{Demand1}
use Rattle.model.specs.Reached.{Throughout, SoundHub}
use Rattle.model.specs.Figure.{FigureHub}

-- a claim about the rows of totals, what the registers held at first and the events of every list of records after every accepted setup, all under
-- these rules
abbrev pub AllUnder : Rules → (List ℕ → (ℕ → Content) → List Event → Type 0) → Type 0
AllUnder rules Claim =
    (row : Lent) (setup : List ℕ) → (apply rules (blank row) setup).answer ≡ Ok
    → (records : List (List ℕ)) → Claim (rows_in (apply rules (blank row) setup).hub) (start_of rules.given) (events (apply rules (blank row) setup).hub (all_under rules records))

pub record Theorems (rules : Rules) : Type 0 where
  -- every record ends in its answer or in one numbered refusal
  pub demand-1 : Demand1 rules
  -- one order, nothing needed is freed, nothing is freed twice
  pub demand-3 : AllUnder rules Demand3
  -- B is from 1 to 64
  pub batches : Allowed rules
  -- the bounds that memory is sized by, and refusal 14
  pub sound : AllUnder rules (λ rows start. Throughout (SoundHub rules))
  -- pools sorted by high, and the flush split as it was first published
  pub as_published : AllUnder rules (λ rows start. Throughout FigureHub)

pub record Document : Type 0 where
  -- whatever list is lent
  pub in-force : (g : Given) → Theorems (in_force g)
  -- as it was before the first change request
  pub earlier : (g : Given) → Theorems (document01 g)
  -- demand 3 of a list that changes its rules on the way, each record under its own
  pub changing : Demand
  -- H13.10: what billing may rely on, wherever demand 3 holds
  pub month_end_lem : MonthEnd
  -- H1.24: the sixteen lines of the batch size have the figures of document 01's sentence
  pub batch_sizes : AsDocumented
  -- H7.9: what the limit changes is refusal 16 and nothing else
  pub refusal-16 : (g : Given) (h : Hub) (b : List ℕ)
      → (apply (in_force g) h b ≡ refuse h 16) ⊎ (apply (in_force g) h b ≡ apply (document01 g) h b)
