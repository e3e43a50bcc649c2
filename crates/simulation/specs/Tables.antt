-- The call that gives a table of rights, and memory that is emptied of setup and tables. Records do neither.
use Rattle.std.specs.Prelude.{◌≡◌, cond, List, ℕ, ◌/◌, length}
use Rattle.lists.specs.Over.{over}
use Rattle.model.specs.Rights.{table_of, table_fits}
use Rattle.values.specs.declared.Answer.{Answer}
use Rattle.values.specs.declared.Answer.TheVariants.{Ok, No}
use Rattle.state.specs.declared.Hub.{Hub}
use Rattle.state.specs.State.{tabled_hub, empty_hub}
use Rattle.simulation.specs.Memory.{Memory, with_hub, Result, answered}
use Rattle.simulation.specs.Left.{ready}

-- the hub by value of memory that is not set up, in which a table of these bytes stands; entries behind its rows keep their contents
abbrev pub with_table : Hub → List ℕ → Hub
with_table h bytes = tabled_hub (length bytes / 8) (over (table_of bytes) h.site.rights)

-- H15.8: 9 where the memory counts as set up, then 24; a refusal changes nothing
unfoldable pub table_given : Memory → List ℕ → Result
table_given m bytes =
    cond (ready m) (answered m (No 9)) (cond (table_fits bytes) (answered (with_hub m (with_table m.hub bytes)) Ok) (answered m (No 24)))

-- A table of any bytes was given on the memory m, any memory, was answered y and left the memory m'.
pub record Gives (m : Memory) (bytes : List ℕ) (y : Answer) (m' : Memory) : Type 0 where
  pub memory : m' ≡ (table_given m bytes).memory
  pub answer : y ≡ (table_given m bytes).answer

-- H15.10: the memory emptied of setup and tables; everything but the hub by value is as it was
abbrev pub emptied_in : Memory → Memory
emptied_in m = with_hub m empty_hub
