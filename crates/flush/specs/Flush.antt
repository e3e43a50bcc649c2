-- Put (3), flush (1) and flush (2): what they make of a local pool, of the merged lists and of the times read.
use Rattle.std.specs.Prelude.{Bool, cond, List, ◌++◌, ℕ, ◌+◌, ◌*◌, ◌%◌, eqb, set, take, drop}
use Rattle.values.specs.declared.Answer.{Answer}
use Rattle.values.specs.declared.Answer.TheVariants.{Going, Done}
use Rattle.slots.specs.declared.Slot.{Slot}
use Rattle.versions.specs.Versions.{slot_at_in}
use Rattle.worker.specs.Rep.{Announced}
use Rattle.worker.specs.declared.Doing.{Doing}
use Rattle.worker.specs.declared.Doing.TheVariants.{Idle, FlushTake}
use Rattle.worker.specs.declared.Pool.{Pool}
use Rattle.worker.specs.Pool.{appended}
use Rattle.pools.specs.Placed.{one_more}
use Rattle.worker.specs.Rep.{time_of}
use Rattle.flush.specs.declared.Handed.{Handed}

-- a number below 2^32
abbrev pub word : ℕ → ℕ
word x = x % 4294967296

------------------------------------------------------------------------
-- Put (3)

-- H5.12: the covered version's range goes to the end of the local pool. H5.13, H5.14: with B ranges there a flush follows, else the put is done.
abbrev pub handed_pool : Pool → ℕ → Slot → Pool
handed_pool q c v = appended q c (word v.low) (word v.high)

-- what it leaves: the local pool, the worker's place and the answer
pub record HandedIn : Type 0 where
  pub pool : Pool
  pub doing : Doing
  pub answer : Answer

abbrev pub handed : Pool → Bool → HandedIn
handed q full = record { pool = q; doing = cond full FlushTake Idle; answer = cond full Going Done }

unfoldable pub put_hand_in_step : List Slot → Pool → ℕ → ℕ → HandedIn
put_hand_in_step l q c b =
    let pool = handed_pool q c (slot_at_in l c) in
    handed pool (eqb pool.len b)

-- the same without the arrays of the pool, which has n ranges
abbrev pub handed_of : ℕ → Slot → Bool → Handed
handed_of len v full =
    record { low = word v.low; high = word v.high; len = len; doing = cond full FlushTake Idle; answer = cond full Going Done }

unfoldable pub handed_on : List Slot → ℕ → ℕ → ℕ → Handed
handed_on l n c b = handed_of (one_more n) (slot_at_in l c) (eqb (one_more n) b)

------------------------------------------------------------------------
-- The merged lists: 768 words for each worker

abbrev pub part_of : List ℕ → ℕ → List ℕ
part_of merged w = take 768 (drop (768 * w) merged)

-- the merged lists with worker w's part replaced
abbrev pub with_part : List ℕ → ℕ → List ℕ → List ℕ
with_part merged w part = take (768 * w) merged ++ (part ++ drop (768 * w + 768) merged)

------------------------------------------------------------------------
-- Flush (2)

-- 28 times for each worker: those of sixteen workers and of twelve marks
abbrev pub times_of : List ℕ → ℕ → List ℕ
times_of times w = take 28 (drop (28 * w) times)

-- H5.17: worker w's flush reads the announced time of worker j
abbrev pub flush_read_step : List ℕ → ℕ → ℕ → Announced → List ℕ
flush_read_step times w j t = set times (28 * w + j % 16) (time_of t)
