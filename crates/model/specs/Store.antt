-- What the hub holds: H1 of docs/HUB.md, whose rules the comments of these files cite by number. All numbers are natural numbers.
use Rattle.std.specs.Prelude.{cond, List, [], ◌∷◌, ℕ, zero, suc, ◌+◌, ◌-◌, ltb, get_or, set}
use Rattle.std.proofs.Math.Option.{Option, none, some}
use Rattle.model.specs.Totals.{Sum}

-- H1.8: a time or a neighbour that is not there: an unset low, an open high, no announced time, no older or newer neighbour.
-- H1.9, H1.10: the number is above every time, and above every slot.
abbrev pub absent : ℕ
absent = 4294967296

-- H1.4: the last value of the clock.
abbrev pub last_clock : ℕ
last_clock = 4294967295

-- H1.7, H16.1: a reading, a count of watt-hours and its status: 0 read, 1 estimated, 2 corrected. The steps move it as one.
pub record Reading : Type 0 where
  pub count : ℕ
  pub status : ℕ

-- H16.1: the last status that there is
abbrev pub last_status : ℕ
last_status = 2

-- H1.7, H2.9: what a version holds: a reading, which a put brought, or none, where the version is from setup
abbrev pub Content : Type 0
Content = Option Reading

-- H12.6: what a total adds for it: without a reading 0
abbrev pub count_of : Content → ℕ
count_of none = 0
count_of (some x) = x.count

-- H16.6: the status that a total reads there: without a reading none, which is 0
abbrev pub status_of : Content → ℕ
status_of none = 0
status_of (some x) = x.status

-- H1.7: a slot for a version, with what it holds, its times and its neighbours.
pub record Slot : Type 0 where
  pub value : Content
  pub low : ℕ
  pub high : ℕ
  pub older : ℕ
  pub newer : ℕ

-- H1.17: a range, the number of a slot with a low and a high.
pub record Range : Type 0 where
  pub slot : ℕ
  pub low : ℕ
  pub high : ℕ

-- H13.1: how many marks there are
abbrev pub mark_count : ℕ
mark_count = 12

-- A step that moves a time and no version: open (1) and (2), close (H5.32 to H5.34, H5.40); mark and release (H13.3, H13.4), of a mark.
pub data TimeStep : Type 0 where
  OpenAnnounce : TimeStep
  OpenPass : TimeStep
  CloseWithdraw : TimeStep
  MarkKeep : ℕ → TimeStep
  MarkRelease : ℕ → TimeStep

-- What a value is read for: it is the answer, as of the worker's time; or as of a mark's (H13.5); or it goes into a total: the group, the index
-- of the row in the list, and the sums of the rows before it.
pub data Purpose : Type 0 where
  Single : Purpose
  Marked : ℕ → Purpose
  Totaling : ℕ → ℕ → Sum → Purpose

-- what a read, a marked read or a total is at: the register that it reads, and what for
pub record Goal : Type 0 where
  pub register : ℕ
  pub purpose : Purpose

-- H1.15: what a worker is doing, its place. A place is named after the step that comes next.
pub data Doing : Type 0 where
  Idle : Doing
  -- put (1): the register and what to store
  PutPublish : ℕ → Reading → Doing
  -- put (2): the register and the slot of the version that the put covers
  PutStamp : ℕ → ℕ → Doing
  -- put (3): the same
  PutHandIn : ℕ → ℕ → Doing
  -- flush (1)
  FlushTake : Doing
  -- flush (2), and (3) once all times are read: the merged list and the times read so far
  FlushRead : List Range → List ℕ → Doing
  -- flush (4), and (5) once none is left: the needless ranges not yet freed
  FlushFree : List Range → Doing
  -- open (1) and (2), close, mark, release
  OnTime : TimeStep → Doing
  -- read (1), of a marked read and of a total too
  ReadEnter : Goal → Doing
  -- read (2): also the slot on which the read stands
  ReadStand : Goal → ℕ → Doing
  -- get: the register
  GetShow : ℕ → Doing

-- H1.14: a worker's record: its place, the time that it has announced, its local pool.
pub record Worker : Type 0 where
  pub doing : Doing
  pub announced : ℕ
  pub pool : List Range

-- H1.16: a worker starts idle, without a time and with an empty pool.
abbrev pub start_worker : Worker
start_worker = record { doing = Idle; announced = absent; pool = [] }

-- H2.5: what a setup fixes: no later record changes it.
pub record Site : Type 0 where
  -- H1.1: how many workers
  pub P : ℕ
  -- H1.2: how many registers. V alone is a word that antt reserves.
  pub V' : ℕ
  -- H1.3: how many slots
  pub N : ℕ
  -- H1.24: the batch size, taken at setup
  pub B : ℕ
  -- H12.3: the rows of the list of totals
  pub rows : List ℕ
  -- H15.4: the rows of the table of rights that stood at setup
  pub table : List ℕ

-- A hub that is set up. `newest` has the slot of each register's newest version (H1.11), `free` the free slots with the one that is taken first
-- in front (H1.25), `queue` the shared pools, first in first (H1.20), `marks` the time that each mark holds, or none (H13.1).
pub record Store : Type 0 where
  pub site : Site
  pub clock : ℕ
  pub slots : List Slot
  pub newest : List ℕ
  pub free : List ℕ
  pub queue : List (List Range)
  pub workers : List Worker
  pub marks : List ℕ

-- What a setup finds: the row of slots that is lent to it, and the rows of the table of rights that stands (H15.9).
pub record Lent : Type 0 where
  pub row : List Slot
  pub table : List ℕ

-- nothing is lent
abbrev pub lent₀ : Lent
lent₀ = record { row = []; table = [] }

-- H2.1: the hub as a record meets it: not set up, with what is lent to it; or set up.
pub data Hub : Type 0 where
  blank : Lent → Hub
  up : Store → Hub

-- What stands where a list of slots has no entry, as at an absent neighbour. Nothing of it is ever stored.
abbrev pub slot₀ : Slot
slot₀ = record { value = none; low = 0; high = 0; older = 0; newer = 0 }

------------------------------------------------------------------------
-- Parts of a store

-- a, a + 1 and so on, n numbers
unfoldable pub up_from : ℕ → ℕ → List ℕ
up_from a zero = []
up_from a (suc n) = a ∷ up_from (a + 1) n

abbrev pub worker_at : Store → ℕ → Worker
worker_at s w = get_or s.workers w start_worker

abbrev pub slot_at : Store → ℕ → Slot
slot_at s c = get_or s.slots c slot₀

-- the slot of the newest version of register r
abbrev pub newest_of : Store → ℕ → ℕ
newest_of s r = get_or s.newest r absent

-- H13.1: the time that mark m holds, or none
abbrev pub mark_at : Store → ℕ → ℕ
mark_at s m = get_or s.marks m absent

-- H1.14, H13.2: who holds a time: each worker, the one that it has announced, and behind the workers each mark. This is how many there are.
abbrev pub holders : Store → ℕ
holders s = s.site.P + mark_count

-- The time that holder v holds, or none.
abbrev pub held : Store → ℕ → ℕ
held s v = cond (ltb v s.site.P) (worker_at s v).announced (mark_at s (v - s.site.P))

-- H1.17: the range of the version in slot c, as its times stand now
unfoldable pub range_of : Store → ℕ → Range
range_of s c = record { slot = c; low = (slot_at s c).low; high = (slot_at s c).high }

------------------------------------------------------------------------
-- A store with one part replaced

abbrev pub with_clock : Store → ℕ → Store
with_clock s t =
    record {
      site = s.site;
      clock = t;
      slots = s.slots;
      newest = s.newest;
      free = s.free;
      queue = s.queue;
      workers = s.workers;
      marks = s.marks;
    }

abbrev pub with_slots : Store → List Slot → Store
with_slots s l =
    record {
      site = s.site;
      clock = s.clock;
      slots = l;
      newest = s.newest;
      free = s.free;
      queue = s.queue;
      workers = s.workers;
      marks = s.marks;
    }

abbrev pub with_newest : Store → List ℕ → Store
with_newest s l =
    record {
      site = s.site;
      clock = s.clock;
      slots = s.slots;
      newest = l;
      free = s.free;
      queue = s.queue;
      workers = s.workers;
      marks = s.marks;
    }

abbrev pub with_free : Store → List ℕ → Store
with_free s l =
    record {
      site = s.site;
      clock = s.clock;
      slots = s.slots;
      newest = s.newest;
      free = l;
      queue = s.queue;
      workers = s.workers;
      marks = s.marks;
    }

abbrev pub with_queue : Store → List (List Range) → Store
with_queue s q =
    record {
      site = s.site;
      clock = s.clock;
      slots = s.slots;
      newest = s.newest;
      free = s.free;
      queue = q;
      workers = s.workers;
      marks = s.marks;
    }

abbrev pub with_workers : Store → List Worker → Store
with_workers s l =
    record {
      site = s.site;
      clock = s.clock;
      slots = s.slots;
      newest = s.newest;
      free = s.free;
      queue = s.queue;
      workers = l;
      marks = s.marks;
    }

abbrev pub with_marks : Store → List ℕ → Store
with_marks s l =
    record {
      site = s.site;
      clock = s.clock;
      slots = s.slots;
      newest = s.newest;
      free = s.free;
      queue = s.queue;
      workers = s.workers;
      marks = l;
    }

abbrev pub with_worker : Store → ℕ → Worker → Store
with_worker s w x = with_workers s (set s.workers w x)

-- a worker at another place
abbrev pub with_doing : Worker → Doing → Worker
with_doing x d = record { doing = d; announced = x.announced; pool = x.pool }

-- worker w goes to another place, and nothing else changes
abbrev pub place : Store → ℕ → Doing → Store
place s w d = with_worker s w (with_doing (worker_at s w) d)
