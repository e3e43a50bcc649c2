-- Memory that records left, and memory that counts as set up.
use Rattle.std.specs.Prelude.{◌≡◌, Bool, true, List, ℕ, length}
use Rattle.model.specs.Store as Model
use Rattle.model.specs.Store.{Store, blank, up}
use Rattle.model.specs.Answer.{Ok}
use Rattle.model.specs.Rights.{table_stands}
use Rattle.model.specs.Rules.{Rules, Allowed, Ruled, all_under}
use Rattle.model.specs.Apply.{emptied, apply, apply_ruled, hub_after}
use Rattle.slots.specs.Slots.{linked_to}
use Rattle.queue.specs.State.{Begins}
use Rattle.ready.specs.Ready.{ready_of}
use Rattle.simulation.specs.Memory.{Memory, write}

-- A store that an accepted setup and a list of records after it leave, each under its own rules.
pub record LeftByRecords (s : Store) : Type 0 where
  pub row : Model.Lent
  pub setup : Ruled
  -- the setup took a batch size from 1 to 64
  pub batch : Allowed setup.rules
  -- and the table that stood was one that may be given
  pub table : table_stands row.table ≡ true
  pub accepted : (apply_ruled (blank row) setup).answer ≡ Ok
  pub records : List Ruled
  pub left : hub_after (apply_ruled (blank row) setup).hub records ≡ up s

-- One that they leave all under the same rules, without a table of rights.
pub record LeftUnder (rules : Rules) (s : Store) : Type 0 where
  pub row : List Model.Slot
  pub setup : List ℕ
  pub accepted : (apply rules (emptied row) setup).answer ≡ Ok
  pub records : List (List ℕ)
  pub left : hub_after (apply rules (emptied row) setup).hub (all_under rules records) ≡ up s

-- memory in which a store lies that records left
pub record Left (s : Store) (m : Memory) : Type 0 where
  pub store : LeftByRecords s
  pub begins : Begins m.hub.window
  pub laid : m ≡ write s m

-- the arrays have the lengths that their types give
pub record Sized (m : Memory) : Type 0 where
  pub workers : length m.hub.workers ≡ 16
  pub times : length m.hub.times ≡ 448
  pub marks : length m.hub.marks ≡ 12
  pub reading : length m.hub.reading ≡ 16
  pub rows : length m.hub.site.rows ≡ 1024
  pub rights : length m.hub.site.rights ≡ 64
  pub newest : length m.newest ≡ 256
  pub free : length m.free ≡ 2048
  pub queue : length m.queue ≡ 12288
  pub lens : length m.lens ≡ 4096
  pub merged : length m.merged ≡ 12288

-- lent memory counts as set up
unfoldable pub ready : Memory → Bool
ready m =
    ready_of m.hub m.newest m.free m.queue m.lens m.merged (linked_to m.slots m.hub.site.n m.hub.site.n) (length m.slots)
