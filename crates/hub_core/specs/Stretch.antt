-- What the parts of the loop do: the records from one on, until a setup is accepted or all are applied. The workers' records are the loop's own,
-- everything else is lent.
use Rattle.std.specs.Prelude.{◌≡◌, ℕ, ◌+◌, ◌*◌, ◌<◌, ◌≤◌, Bool, true, Option, Some, None, List, length}
use Rattle.model.specs.Rules.{Given}
use Rattle.values.specs.declared.Answer.{Answer}
use Rattle.worker.specs.declared.Worker.{Worker}
use Rattle.state.specs.declared.Site.{Site}
use Rattle.state.specs.declared.Hub.{Hub}
use Rattle.turns.specs.declared.Fixed.{Fixed}
use Rattle.turns.specs.declared.Sizes.{Sizes}
use Rattle.turns.specs.Parts.{Parts}
use Rattle.simulation.specs.Memory.{Memory}
use Rattle.simulation.specs.Lent.{lent_memory}
use Rattle.simulation.specs.Shell.{set_up_in}
use Rattle.simulation.specs.Loop.{State, after}

-- what a setup fixed, of n slots, by the numbers and the arrays that the loop is lent
abbrev pub site_of : Fixed → ℕ → List ℕ → List ℕ → Site
site_of f n rows rights =
    record {
      p = f.p;
      v = f.v;
      n = n;
      batch = f.batch;
      listed = f.listed;
      rows = rows;
      granted = f.granted;
      rights = rights;
    }

-- the hub by value and the memory, put together
abbrev pub hub_of : Site → List Worker → Parts → Hub
hub_of x ws a =
    record {
      site = x;
      clock = a.running.clock;
      free = a.running.free;
      window = a.running.window;
      times = a.running.times;
      marks = a.running.marks;
      reading = a.running.reading;
      workers = ws;
    }

abbrev pub memory_of : Site → List Worker → Parts → Memory
memory_of x ws a = lent_memory (hub_of x ws a) a.slots a.lent

-- the state of the loop
abbrev pub state_with : Bool → Memory → List ℕ → List ℕ → Answer → State
state_with up m kinds numbers last = record { up = up; memory = m; kinds = kinds; numbers = numbers; last = last }

-- a setup that is accepted, of these sizes, is still to be carried out, where there is one
abbrev pub made_after : Option Sizes → Given → State → State
made_after None given s = s
made_after (Some z) given s =
    record {
      up = true;
      memory = set_up_in s.memory given z.p z.v z.n z.clock;
      kinds = s.kinds;
      numbers = s.numbers;
      last = s.last;
    }

-- its workers are at most sixteen
abbrev pub few_made : Option Sizes → Type 0
few_made None = Unit {0}
few_made (Some z) = z.p ≤ 16

-- The records from `from` to before `at`, of `count`, were applied. They met the state s and left the state t; where `made` has sizes, the last of them
-- is a setup that is accepted and still to be carried out. Both states are known but for how many slots the setup before them has.
pub record Went (given : Given) (bytes : List ℕ) (from count at : ℕ) (made : Option Sizes) (s t : ℕ → State) : Type 0 where
  pub inside : at ≤ count
  pub onward : from < count → from < at
  pub few : few_made made
  pub state : (S : State) (n : ℕ) → s n ≡ after S given bytes from → made_after made given (t n) ≡ after S given bytes at

-- The records from `from` to before `count`, none of which has sixteen bytes, were refused: what was answered is written over the two rows, and
-- memory stays as it is.
pub record RestRefused (from count : ℕ) (kinds numbers : List ℕ) (first : Answer) (kinds' numbers' : List ℕ) (last : Answer) : Type 0 where
  pub state : (S : State) (given : Given) (bytes : List ℕ) (up : Bool) (m : Memory) → (from < count → length bytes < 16 * from + 16)
      → state_with up m kinds numbers first ≡ after S given bytes from → state_with up m kinds' numbers' last ≡ after S given bytes count
