-- When lent memory counts as set up (H8.3): every slot, register, place and count in it is in its range. The test that the code makes (`ready`)
-- is passed exactly there.
use Rattle.std.specs.Prelude.{Some, ◌≡◌, true, ◌⊎◌, ◌↔◌, ℕ, ◌+◌, ◌*◌, ◌-◌, ◌≤◌, ◌<◌, length, get_or}
use Rattle.model.specs.Store.{absent, mark_count}
use Rattle.model.specs.Totals.{register_of, row_at}
use Rattle.model.specs.Rules.{twelve_digits}
use Rattle.model.specs.Rights.{worker_of, rights_of, first_register, last_register, last_pair}
use Rattle.worker.specs.declared.Purpose.{Purpose}
use Rattle.worker.specs.declared.Purpose.TheVariants.{Single, Marked, Totaling}
use Rattle.places.specs.declared.Facts.{Facts}
use Rattle.worker.specs.declared.Worker.{Worker}
use Rattle.places.specs.About.{about_of}
use Rattle.slots.specs.Slots.{vacant_slot}
use Rattle.state.specs.declared.Hub.{Hub}
use Rattle.state.specs.State.{worker_in}
use Rattle.queue.specs.State.{Begins}
use Rattle.ready_queue.specs.Queue.{lens_sum}
use Rattle.simulation.specs.Memory.{Memory}
use Rattle.simulation.specs.Left.{ready}

-- k ranges are at most b, and at most as many as there are slots besides the newest versions (H8.15, H8.16)
abbrev pub FewRanges : Hub → ℕ → ℕ → Type 0
FewRanges h k b = (k ≤ b) × (k ≤ h.site.n - h.site.v)

-- a neighbour is absent (H8.9) or a slot
abbrev pub Neighbour : Hub → ℕ → Type 0
Neighbour h o = (o ≡ absent) ⊎ (o < h.site.n)

-- the length of the queue's pool i
abbrev pub length_in : Memory → ℕ → ℕ
length_in m i = get_or m.lens (m.hub.window.first + i) 0

-- so many times were read: at most one of each worker, or those and all marks' (H8.18)
abbrev pub TimesRead : Hub → ℕ → Type 0
TimesRead h j = (j ≤ h.site.p) ⊎ (j ≡ h.site.p + mark_count)

-- what a value is read for: a total's row is one of those listed, and each of its sums is of at most 31 values of twelve digits (H8.24)
abbrev pub PurposeInRange : Hub → Purpose → Type 0
PurposeInRange h Single = Unit {0}
PurposeInRange h (Marked m) = Unit {0}
PurposeInRange h (Totaling g i k plus minus) = (i < h.site.listed) × (plus ≤ 31 * twelve_digits) × (minus ≤ 31 * twelve_digits)

-- what worker w's place names: a register, a slot, a list in hand of so many ranges, a count of times read, a total, a mark
pub record PlaceInRange (m : Memory) (w : ℕ) (y : Facts) : Type 0 where
  -- its register is one of the V (H8.18)
  pub register : (r : ℕ) → y.register ≡ Some r → r < m.hub.site.v
  -- its slot is one of the N (H8.17)
  pub slot : (c : ℕ) → y.slot ≡ Some c → c < m.hub.site.n
  -- it has read so many times (H8.18)
  pub read : TimesRead m.hub y.read
  -- its list in hand has at most 4B ranges (H8.16)
  pub list : (k : ℕ) → y.ranges ≡ Some k → FewRanges m.hub k (4 * m.hub.site.batch)
  -- their slots are below N (H8.17); worker w's list starts at range 256 w, and a range has three words, the slot first
  pub list_slots : (k : ℕ) → y.ranges ≡ Some k → (j : ℕ) → j < k → get_or m.merged (3 * (256 * w + j)) 0 < m.hub.site.n
  -- and what it reads for (H8.24)
  pub purpose : PurposeInRange m.hub y.purpose
  -- its mark is one of the twelve (H8.25)
  pub mark : (i : ℕ) → y.mark ≡ Some i → i < mark_count

-- worker w's record
pub record WorkerInRange (m : Memory) (w : ℕ) (x : Worker) : Type 0 where
  pub place : PlaceInRange m w (about_of x.doing)
  -- its local pool has at most B ranges (H8.15)
  pub pool : FewRanges m.hub x.pool.len m.hub.site.batch
  -- their slots are below N (H8.17)
  pub pool_slots : (i : ℕ) → i < x.pool.len → get_or x.pool.slots i 0 < m.hub.site.n

-- a row of rights (H15.8)
pub record RightInRange (x : ℕ) : Type 0 where
  pub worker : worker_of x ≤ 15
  pub rights : rights_of x ≤ 15
  pub last : last_register x ≤ 255
  pub first : first_register x ≤ last_register x
  pub pair : last_pair x ≡ 0

-- all of the memory
pub record InRanges (m : Memory) : Type 0 where
  -- P is 1 to 16 (H8.11)
  pub p : (1 ≤ m.hub.site.p) × (m.hub.site.p ≤ 16)
  -- V is 1 to 256 (H8.11)
  pub v : (1 ≤ m.hub.site.v) × (m.hub.site.v ≤ 256)
  -- N is V to 2048, and the row is not too short for it (H8.11)
  pub n : (m.hub.site.v ≤ m.hub.site.n) × (m.hub.site.n ≤ 2048) × (m.hub.site.n ≤ length m.slots)
  -- B is 1 to 64 (H8.28)
  pub batch : (1 ≤ m.hub.site.batch) × (m.hub.site.batch ≤ 64)
  -- there are at most N - V free slots (H8.12)
  pub free : m.hub.free ≤ m.hub.site.n - m.hub.site.v
  -- at most N - V ranges are queued (H8.13)
  pub queued : m.hub.window.queued ≤ m.hub.site.n - m.hub.site.v
  -- there are no more pools than ranges in them (H8.13)
  pub pools : m.hub.window.pools ≤ m.hub.window.queued
  -- the queue begins in the first half of its memory, at no more lengths than ranges (H8.21)
  pub begins : Begins m.hub.window
  -- a queued pool has 1 to 2B ranges (H8.14)
  pub lengths : (i : ℕ) → i < m.hub.window.pools → (1 ≤ length_in m i) × (length_in m i ≤ 2 * m.hub.site.batch)
  -- the pools' lengths add up to the queued ranges (H8.13)
  pub sum : lens_sum m.lens m.hub.window.first m.hub.window.pools ≡ m.hub.window.queued
  -- slots are below N (H8.17): the newest of each register,
  pub newest : (r : ℕ) → r < m.hub.site.v → get_or m.newest r 0 < m.hub.site.n
  -- each free one,
  pub free_slots : (i : ℕ) → i < m.hub.free → get_or m.free i 0 < m.hub.site.n
  -- that of each queued range, which has three words, the slot first
  pub queue_slots : (j : ℕ) → j < m.hub.window.queued → get_or m.queue (3 * (m.hub.window.from + j)) 0 < m.hub.site.n
  -- the list of totals has at most 1,024 rows, and the register of each is below V (H8.23)
  pub listed : m.hub.site.listed ≤ 1024
  pub rows : (i : ℕ) → i < m.hub.site.listed → register_of (row_at m.hub.site.rows i) < m.hub.site.v
  -- the table of rights has at most 64 rows, and each is one that a table may have (H8.27)
  pub granted : m.hub.site.granted ≤ 64
  pub rights : (i : ℕ) → i < m.hub.site.granted → RightInRange (get_or m.hub.site.rights i 0)
  -- each neighbour of a slot below N, if there is one, is below N (H8.19)
  pub neighbours : (c : ℕ) → c < m.hub.site.n
      → Neighbour m.hub (get_or m.slots c vacant_slot).older × Neighbour m.hub (get_or m.slots c vacant_slot).newer
  -- the record of each worker below P is in range (H8.20)
  pub workers : (w : ℕ) → w < m.hub.site.p → WorkerInRange m w (worker_in m.hub w)

-- Lent memory counts as set up exactly where all of it is in its ranges. Proved in proofs/Ranges.antt.
abbrev pub ReadyExactly : Type 0
ReadyExactly = (m : Memory) → ready m ≡ true ↔ InRanges m
