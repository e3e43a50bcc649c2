-- The contract of the public function that applies one record.
use Rattle.std.specs.Prelude.{◌≡◌, Bool, true, false, cond, not, ◌&&◌, List, [], ◌∷◌, ℕ, ◌<◌, ltb}
use Rattle.std.proofs.Math.Option.{Option, none, some}
use Rattle.model.specs.Rules.{Given}
use Rattle.model.specs.Store.{Hub}
use Rattle.model.specs.Record.{Sizes, SetUp, Begin, Step, Decoded, Asks, Refuses, decode}
use Rattle.model.specs.Demand.{occurrences, Exchange}
use Rattle.model.specs.Refusals.{on_reading, at_step}
use Rattle.model.specs.Answer.{No, said}
use Rattle.values.specs.Meaning.{answer_of}
use Rattle.values.specs.declared.Answer.{Answer}
use Rattle.worker.specs.declared.Doing.TheVariants.{Idle}
use Rattle.places.specs.About.{about_of}
use Rattle.state.specs.State.{worker_in, with_worker_in, at_place}
use Rattle.simulation.specs.Memory.{Memory, with_hub}
use Rattle.simulation.specs.Left.{ready}
use Rattle.simulation.specs.Holds.{Holds, AsModel}

-- the memory with worker w idle, and nothing else changed
abbrev pub idle_in : Memory → ℕ → Memory
idle_in m w = with_hub m (with_worker_in m.hub w (at_place (worker_in m.hub w) Idle))

-- A step is taken: the memory counts as set up, as `up` says, and the record is a step of a worker below P that is not idle.
unfoldable pub takes_step_in : Bool → Memory → Decoded → Bool
takes_step_in up m (Asks (SetUp z)) = false
takes_step_in up m (Asks (Begin w o)) = false
takes_step_in up m (Asks (Step w)) = up && (ltb w m.hub.site.p && not (about_of (worker_in m.hub w).doing).idle)
takes_step_in up m (Refuses k) = false

-- the memory with that worker idle of which the record is a step
unfoldable pub idled_in : Memory → Decoded → Memory
idled_in m (Asks (SetUp z)) = m
idled_in m (Asks (Begin w o)) = m
idled_in m (Asks (Step w)) = idle_in m w
idled_in m (Refuses k) = m

-- Refusal k of a record that reads as d, on the memory m, and the memory m' after it.
pub record Refused (up : Bool) (m : Memory) (d : Decoded) (k : ℕ) (m' : Memory) : Type 0 where
  -- it is one of those that a step meets, or else of those on reading
  pub number : 0 < occurrences k (cond (takes_step_in up m d) at_step on_reading)
  -- one that a step meets sets that worker idle, one on reading changes nothing
  pub leaves : m' ≡ cond (takes_step_in up m d) (idled_in m d) m

-- Demand 1 of the code: the record reads as d, is answered, with a refusal or without, and leaves the memory m'.
abbrev pub EndsBy : Bool → Memory → Decoded → Option ℕ → Memory → Type 0
EndsBy up m d none m' = Unit {0}
EndsBy up m d (some k) m' = Refused up m d k m'

-- What holds on any memory m, where `up` says whether it counts as set up, of a record of the bytes b, its answer y and the memory m' after it.
pub record OnAny (up : Bool) (m : Memory) (b : List ℕ) (y : Answer) (m' : Memory) : Type 0 where
  -- demand 1 (H6.1)
  pub ends : EndsBy up m (decode b) (said (answer_of y)).refusal m'
  -- 6, 1 and 2 come from the bytes alone, before memory is tested (H8.2)
  pub reading : (k : ℕ) → decode b ≡ Refuses k → (answer_of y ≡ No k) × (m' ≡ m)
  -- a setup on memory that counts as set up gets 9 (H8.6)
  pub nine : up ≡ true → (z : Sizes) → decode b ≡ Asks (SetUp z) → answer_of y ≡ No 9

-- what was sent, with what was given for a setup, and answered
abbrev pub exchange_of : Given → List ℕ → Answer → Exchange
exchange_of given b y = record { given = given; bytes = b; answer = answer_of y }

-- A record of the bytes b, any bytes and any number of them, with what is given for a setup, met the memory m, was answered y and left
-- the memory m'.
pub record Does (m : Memory) (given : Given) (b : List ℕ) (y : Answer) (m' : Memory) : Type 0 where
  -- Memory that holds a hub of the model: what the model does is done. This is demand 2 (H6.2). Where the memory does not count as set up, every
  -- record but a setup that gets that far gets 8, and a setup is accepted or gets 5.
  pub as_model : (h : Hub) → Holds h m → AsModel h m (exchange_of given b y ∷ []) m'
  -- Any memory.
  pub on_any : OnAny (ready m) m b y m'
