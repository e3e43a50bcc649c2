-- Flush (3): what it makes of the queue, of the merged lists and of the space that it works in.
use Rattle.std.specs.Prelude.{Bool, cond, ◌&&◌, List, reverse, ℕ, ◌+◌, ◌-◌, ◌*◌, ◌/◌, ltb, leb, length, take, drop, replicate}
use Rattle.lists.specs.Over.{over}
use Rattle.model.specs.Store.{Range}
use Rattle.model.specs.Ranges.{merge, needed_of, needless_of}
use Rattle.arrays.specs.Arrays.{short}
use Rattle.worker.specs.declared.Pool.{Pool}
use Rattle.worker.specs.Pool.{ranges_in}
use Rattle.ranges.specs.Words.{ranges_at, flat}
use Rattle.queue.specs.State.{Queue, pushed}
use Rattle.flush.specs.Flush.{part_of, with_part, times_of}

-- the ranges of a local pool as words
abbrev pub pool_words : Pool → List ℕ
pool_words q = over (flat (ranges_in q)) (replicate 192 0)

-- the pools that are queued: of `stay` needed ranges, in words, and the local pool
unfoldable pub requeued : Queue → Pool → List ℕ → ℕ → ℕ → Queue
requeued q pool words stay size =
    cond (ltb (2 * size) stay)
    (pushed (pushed (pushed q words ((stay + 1) / 2)) (drop (3 * ((stay + 1) / 2)) words) (stay - (stay + 1) / 2)) (pool_words pool) pool.len)
    (cond (ltb size stay)
    (pushed (pushed q words stay) (pool_words pool) pool.len)
    (pushed q
    (over (flat (merge (ranges_at (pool_words pool) 0 pool.len) (ranges_at words 0 stay))) (replicate 960 0))
    (pool.len + stay)))

-- what is left in the memory d for the joined list: unchanged where the needed ranges are a pool of their own
abbrev pub joined_after : Pool → List ℕ → ℕ → ℕ → List ℕ → List ℕ
joined_after pool words stay size d =
    cond (ltb size stay) d (over (flat (merge (ranges_in pool) (ranges_at words 0 stay))) d)

-- what is needed for a split: a worker, a merged list, times and a local pool within their sizes. Memory that records left has them.
abbrev pub may_cut : ℕ → ℕ → ℕ → ℕ → Bool
may_cut w m t len = ltb w 16 && leb m 256 && (leb t 28 && leb len 64)

abbrev pub may_split : ℕ → ℕ → ℕ → Pool → Bool
may_split w m t pool = may_cut w m t pool.len

-- the two lists into which worker w's first m ranges are split by the first t of its times
abbrev pub needless_by : List ℕ → ℕ → ℕ → List ℕ → ℕ → List Range
needless_by merged w m times t = needless_of (take t (times_of times w)) (ranges_at (part_of merged w) 0 m)

abbrev pub needed_by : List ℕ → ℕ → ℕ → List ℕ → ℕ → List Range
needed_by merged w m times t = needed_of (take t (times_of times w)) (ranges_at (part_of merged w) 0 m)

-- how many are needless
abbrev pub needless_count : List ℕ → ℕ → ℕ → List ℕ → ℕ → ℕ
needless_count merged w m times t = length (needless_by merged w m times t)

-- the needed ranges as words
abbrev pub needed_words : List ℕ → ℕ → ℕ → List ℕ → ℕ → List ℕ
needed_words merged w m times t = over (flat (needed_by merged w m times t)) (replicate 768 0)

-- how many are left to free, the queue and the merged lists after it: the needless ranges stay in the worker's part, the one that is freed
-- first last. The batch size is b.
unfoldable pub split_left : List ℕ → ℕ → ℕ → List ℕ → ℕ → Pool → ℕ
split_left merged w m times t pool = cond (may_split w m t pool) (short (needless_count merged w m times t)) 0

unfoldable pub split_queue : Queue → List ℕ → ℕ → ℕ → List ℕ → ℕ → ℕ → Pool → Queue
split_queue q merged w m times t b pool =
    cond (may_split w m t pool)
    (requeued q pool (needed_words merged w m times t) (m - needless_count merged w m times t) b) q

unfoldable pub split_merged : List ℕ → ℕ → ℕ → List ℕ → ℕ → Pool → List ℕ
split_merged merged w m times t pool =
    cond (may_split w m t pool)
    (with_part merged w (over (flat (reverse (needless_by merged w m times t))) (part_of merged w))) merged

-- what is left in the space that it works in
unfoldable pub split_needed : List ℕ → ℕ → ℕ → List ℕ → ℕ → Pool → List ℕ → List ℕ
split_needed merged w m times t pool d = cond (may_split w m t pool) (over (flat (needed_by merged w m times t)) d) d

unfoldable pub split_local : ℕ → ℕ → ℕ → Pool → List ℕ → List ℕ
split_local w m t pool d = cond (may_split w m t pool) (over (flat (ranges_in pool)) d) d

unfoldable pub split_joined : List ℕ → ℕ → ℕ → List ℕ → ℕ → ℕ → Pool → List ℕ → List ℕ
split_joined merged w m times t b pool d =
    cond (may_split w m t pool)
    (joined_after pool (needed_words merged w m times t) (m - needless_count merged w m times t) b d) d
