-- Whether lent memory counts as set up (H8.3): the test that the code makes, scan by scan. What passes it is said without a test in
-- `simulation` Ranges.
use Rattle.std.specs.Prelude.{Bool, true, false, cond, ◌&&◌, List, ℕ, zero, suc, ◌*◌, min, eqb}
use Rattle.state.specs.declared.Hub.{Hub}
use Rattle.state.specs.State.{worker_in, table_sound}
use Rattle.scans.specs.Scans.{below_to, slots_below, rows_below}
use Rattle.ready_sizes.specs.Sizes.{besides, sizes_fit}
use Rattle.ready_queue.specs.Queue.{lens_fit, lens_sum}
use Rattle.ready_worker.specs.Worker.{worker_fits}

-- the first k workers
unfoldable pub workers_fit : Hub → List ℕ → ℕ → ℕ → ℕ → Bool
workers_fit h merged local list zero = true
workers_fit h merged local list (suc k) =
    workers_fit h merged local list k && worker_fits (worker_in h k) k merged local list h.site.p h.site.v h.site.n h.site.listed

-- All but the table of rights is in range: the hub, newest, free, queue, lens, merged; `linked` says that every neighbour in the row of slots is.
-- A local pool has at most B ranges, a queued one 2B, a list in hand 4B, and none has more than there are slots besides the newest.
-- The registers of the rows of totals are below V.
unfoldable pub scans_fit : Hub → List ℕ → List ℕ → List ℕ → List ℕ → List ℕ → Bool → ℕ → Bool
scans_fit h newest free queue lens merged linked long =
    let b = h.site.batch in
    let w = h.window in
    cond (sizes_fit h long)
    (below_to newest h.site.n h.site.v && below_to free h.site.n h.free
    && (slots_below queue w.from h.site.n w.queued && lens_fit lens w.first (2 * b) w.pools)
    && (eqb (lens_sum lens w.first w.pools) w.queued && workers_fit h merged (min b (besides h)) (min (4 * b) (besides h)) h.site.p)
    && (rows_below h.site.rows h.site.v h.site.listed && linked))
    false

-- Lent memory counts as set up: and the rows of rights that count are a table.
unfoldable pub ready_of : Hub → List ℕ → List ℕ → List ℕ → List ℕ → List ℕ → Bool → ℕ → Bool
ready_of h newest free queue lens merged linked long = scans_fit h newest free queue lens merged linked long && table_sound h
