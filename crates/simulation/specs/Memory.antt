-- The memory that is lent with each record, and how a store of the model lies in it. Entries that a store does not name keep their contents.
use Rattle.std.specs.Prelude.{List, [], ◌∷◌, ◌++◌, map, reverse, ℕ, ◌*◌, length, take, drop, replicate}
use Rattle.lists.specs.Over.{over, over_at}
use Rattle.model.specs.About.{Hand, Empty, Covered, Merged, Needless, about}
use Rattle.model.specs.Store as Model
use Rattle.model.specs.Store.{Store, start_worker}
use Rattle.values.specs.declared.Answer.{Answer}
use Rattle.worker.specs.Rep.{times_read, doing_rep, worker_rep}
use Rattle.marks.specs.Marks.{read_by}
use Rattle.ranges.specs.Words.{flat}
use Rattle.queue.specs.Rep.{joined_ranges, window_at, window_after}
use Rattle.slots.specs.declared.Slot.{Slot}
use Rattle.slots.specs.Slots.{slot_rep, slot_of}
use Rattle.state.specs.declared.Site.{Site}
use Rattle.state.specs.declared.Hub.{Hub}
use Rattle.state.specs.State.{bare_hub, with_window_in, standing}

-- the hub by value; the row of slots; for each register the slot of its newest version; the free slots, the one that is taken first last;
-- the ranges of the queued pools, one pool after the other, and the pools' lengths, each from where the hub's window begins; and for each worker
-- 256 ranges for the list that its flush has in hand
pub record Memory : Type 0 where
  pub hub : Hub
  pub slots : List Slot
  pub newest : List ℕ
  pub free : List ℕ
  pub queue : List ℕ
  pub lens : List ℕ
  pub merged : List ℕ

abbrev pub memory : Hub → List Slot → List ℕ → List ℕ → List ℕ → List ℕ → List ℕ → Memory
memory h slots newest free queue lens merged =
    record { hub = h; slots = slots; newest = newest; free = free; queue = queue; lens = lens; merged = merged }

-- memory with the first 2048 slots of its row only
abbrev pub cut : Memory → Memory
cut m =
    record {
      hub = m.hub;
      slots = take 2048 m.slots;
      newest = m.newest;
      free = m.free;
      queue = m.queue;
      lens = m.lens;
      merged = m.merged;
    }

-- memory with another hub by value
abbrev pub with_hub : Memory → Hub → Memory
with_hub m h =
    record {
      hub = h;
      slots = m.slots;
      newest = m.newest;
      free = m.free;
      queue = m.queue;
      lens = m.lens;
      merged = m.merged;
    }

-- what is left and answered
pub record Result : Type 0 where
  pub memory : Memory
  pub answer : Answer

-- this memory is left, with this answer
abbrev pub answered : Memory → Answer → Result
answered m y = record { memory = m; answer = y }

-- What a setup finds in the memory: the row of slots, and the table that stands. In memory that nobody emptied, and to which no table was given, which
-- table that is is undecided for users (H15.9): it is what the memory has, where that is a table.
abbrev pub lent_in : Memory → Model.Lent
lent_in m = record { row = map slot_of m.slots; table = standing m.hub }

------------------------------------------------------------------------
-- A store in memory

-- for each worker a list, in a part of the memory with n entries
unfoldable pub parts_over : ℕ → (Model.Worker → List ℕ) → List Model.Worker → List ℕ → List ℕ
parts_over n f [] d = d
parts_over n f (x ∷ l) d = over (f x) (take n d) ++ parts_over n f l (drop n d)

-- the times that each worker's flush has read, 28 entries a worker
abbrev pub times_over : List Model.Worker → List ℕ → List ℕ
times_over ws d = parts_over 28 (λ x. times_read x.doing) ws d

-- what stands for a worker among what is read of marks
abbrev pub read_of : Model.Worker → ℕ
read_of x = read_by (doing_rep x.doing)

-- which mark each worker reads, plus one
abbrev pub reads_over : List Model.Worker → List ℕ
reads_over ws = over (map read_of ws) (replicate 16 0)

-- what a setup fixed, written over what is there
abbrev pub site_rep : Model.Site → Site → Site
site_rep x d =
    record {
      p = x.P;
      v = x.V';
      n = x.N;
      batch = x.B;
      listed = length x.rows;
      rows = over x.rows d.rows;
      granted = length x.table;
      rights = over x.table d.rights;
    }

-- the hub by value with a store written over it: the queue's window begins where it did
abbrev pub hub_rep : Store → Hub → Hub
hub_rep s h =
    record {
      site = site_rep s.site h.site;
      clock = s.clock;
      free = length s.free;
      window = window_at s.queue h.window.first h.window.from;
      times = times_over s.workers h.times;
      marks = s.marks;
      reading = reads_over s.workers;
      workers = over (map worker_rep s.workers) (replicate 16 (worker_rep start_worker));
    }

-- the words of the list that a flush has in hand: a merged list, or the needless ranges with the one that is freed first last
unfoldable pub hand_words : Hand → List ℕ
hand_words Empty = []
hand_words (Covered c) = []
hand_words (Merged m ts) = flat m
hand_words (Needless m) = flat (reverse m)

-- at a worker's place
abbrev pub in_hand_words : Model.Doing → List ℕ
in_hand_words d = hand_words (about d).hand

-- each worker's list in its part of the memory, 768 words
abbrev pub merged_over : List Model.Worker → List ℕ → List ℕ
merged_over ws d = parts_over 768 (λ x. in_hand_words x.doing) ws d

-- the memory with a store written over it, the queue from where the window begins
abbrev pub write : Store → Memory → Memory
write s m =
    let w = m.hub.window in
    record {
      hub = hub_rep s m.hub;
      slots = over (map slot_rep s.slots) m.slots;
      newest = over s.newest m.newest;
      free = over (reverse s.free) m.free;
      queue = over_at (3 * w.from) (flat (joined_ranges s.queue)) m.queue;
      lens = over_at w.first (map length s.queue) m.lens;
      merged = merged_over s.workers m.merged;
    }

-- What the store s is written over after the hub k, whose hub by value was h: a setup starts with an empty one that keeps the array of rights, any
-- other record with h, its window moved on where pools were taken.
abbrev pub next_hub : Model.Hub → Store → Hub → Hub
next_hub (Model.blank x) s h = bare_hub h.site.rights
next_hub (Model.up s₀) s h = with_window_in h (window_after s₀.queue s.queue h.window)

-- the memory of the hub k with the next hub written over it; where that is not set up, the memory is as it was
abbrev pub write_hub : Model.Hub → Model.Hub → Memory → Memory
write_hub k (Model.blank x) m = m
write_hub k (Model.up s) m = write s (with_hub m (next_hub k s m.hub))
