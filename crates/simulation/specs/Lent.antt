-- The memory that is lent with each record, with all but the hub and the row of slots in one.
use Rattle.std.specs.Prelude.{List}
use Rattle.slots.specs.declared.Slot.{Slot}
use Rattle.state.specs.declared.Hub.{Hub}
use Rattle.state.specs.declared.Lent.{Lent}
use Rattle.simulation.specs.Memory.{Memory, memory}

abbrev pub lent_memory : Hub → List Slot → Lent → Memory
lent_memory h slots l = memory h slots l.newest l.free l.queue l.lens l.merged
