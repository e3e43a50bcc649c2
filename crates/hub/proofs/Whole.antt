-- What a call does to the first 2048 slots of a row it does, for one record and for a table, to the whole row.
use mathlib.Core.Path.{◌≡◌}
use mathlib.Core.List.{List}
use Prim.Native.Nat.{ℕ}
use lib.ListN.{drop}
use Rattle.model.specs.Rules.{Given}
use Rattle.simulation.specs.Memory.{Memory, cut}
use Rattle.simulation.proofs.Cut.{sized_whole, does_cut, gives_cut}
use Rattle.tables.specs.declared.Table.{Table}
use Rattle.tables.specs.declared.Table.TheVariants.{Rights}
use Rattle.tables.specs.Tables.{GivesTable, TableGiven}
use Rattle.called.specs.declared.Called.{Called}
use Rattle.calls.specs.declared.Call.{Call}
use Rattle.calls.specs.declared.Call.TheVariants.{Record, Records, Give}
use Rattle.calls.specs.Calls.{Performed}
use Rattle.hub.specs.OnRow.{WithRow, OnRow}

module _ (m m' : Memory) (rest : drop 2048 m'.slots ≡ drop 2048 m.slots) (given : Given) (bytes kinds numbers : List ℕ) (r : Called)
    (kinds' numbers' : List ℕ) where
  table_whole : (table : Table) → TableGiven table (cut m) bytes r (cut m') → GivesTable table m bytes r.answer m'
  table_whole Rights G = gives_cut m m' bytes r.answer G.gives rest

  with_row : (what : Call) → Performed what (cut m) given bytes kinds numbers r (cut m') kinds' numbers' → WithRow what m given bytes r.answer m'
  with_row Record p =
      let one = p.done.0 in
      does_cut m m' given bytes r.answer (sized_whole m one.sized) one.does rest
  with_row Records p = tt
  with_row (Give table) p = table_whole table p.done.0

  pub on_row : (what : Call) → Performed what (cut m) given bytes kinds numbers r (cut m') kinds' numbers'
      → OnRow what m given bytes kinds numbers r m' kinds' numbers'
  on_row what p = record { performed = p; rest = rest; whole = with_row what p }
