-- The memory that a turn is lent: all of it but the workers' records and what a setup fixed.
use Rattle.std.specs.Prelude.{List, ℕ}
use Rattle.slots.specs.declared.Slot.{Slot}
use Rattle.values.specs.declared.Window.{Window}
use Rattle.queue.specs.State.{Queue}
use Rattle.state.specs.declared.Lent.{Lent}
use Rattle.turns.specs.declared.Running.{Running}

pub record Parts : Type 0 where
  pub slots : List Slot
  pub lent : Lent
  pub running : Running

abbrev pub parts : List Slot → Lent → Running → Parts
parts slots lent running = record { slots = slots; lent = lent; running = running }

------------------------------------------------------------------------
-- With one part replaced

abbrev pub with_newest : Lent → List ℕ → Lent
with_newest l newest = record { newest = newest; free = l.free; queue = l.queue; lens = l.lens; merged = l.merged }

abbrev pub with_free : Lent → List ℕ → Lent
with_free l free = record { newest = l.newest; free = free; queue = l.queue; lens = l.lens; merged = l.merged }

-- the queue, all but its window, and the lists in hand
abbrev pub with_queue : Lent → Queue → List ℕ → Lent
with_queue l q merged = record { newest = l.newest; free = l.free; queue = q.queue; lens = q.lens; merged = merged }

-- how many slots are free
abbrev pub with_count : Running → ℕ → Running
with_count r n = record { clock = r.clock; free = n; window = r.window; times = r.times; marks = r.marks; reading = r.reading }

abbrev pub with_window : Running → Window → Running
with_window r w = record { clock = r.clock; free = r.free; window = w; times = r.times; marks = r.marks; reading = r.reading }

abbrev pub with_times : Running → List ℕ → Running
with_times r times = record { clock = r.clock; free = r.free; window = r.window; times = times; marks = r.marks; reading = r.reading }

abbrev pub with_marks : Running → List ℕ → Running
with_marks r marks = record { clock = r.clock; free = r.free; window = r.window; times = r.times; marks = marks; reading = r.reading }
