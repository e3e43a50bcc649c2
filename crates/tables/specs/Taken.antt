-- What is taken of a table where the memory does not count as set up.
use Rattle.std.specs.Prelude.{◌≡◌, cond, List, ℕ}
use Rattle.model.specs.Rights.{table_fits}
use Rattle.values.specs.declared.Answer.TheVariants.{Ok, No}
use Rattle.state.specs.declared.Hub.{Hub}
use Rattle.called.specs.declared.Called.{Called}
use Rattle.simulation.specs.Tables.{with_table}

-- what is given back for a table of rights; h is the hub by value
pub record RightsTaken (h : Hub) (bytes : List ℕ) (r : Called) : Type 0 where
  pub hub : r.hub ≡ cond (table_fits bytes) (with_table h bytes) h
  pub answer : r.answer ≡ cond (table_fits bytes) Ok (No 24)
  pub count : r.count ≡ 0
