-- What the code does to memory: a record is decided, then refused, or it sets the hub up, begins an operation, or takes a step of a worker.
-- The steps of one place are in step/specs/Step.antt and flush/specs/Flush.antt; here is what each writes where.
use Rattle.std.specs.Prelude.{Bool, List, [], map, ℕ, ◌+◌, ◌*◌, ◌-◌, ◌%◌, length, get_or, set, take}
use Rattle.model.specs.Rules.{Given}
use Rattle.lists.specs.Over.{over, over_at}
use Rattle.model.specs.Record.{decode}
use Rattle.values.specs.declared.Answer.TheVariants.{Ok, Going, Freed, Done, No}
use Rattle.slots.specs.declared.Slot.{Slot}
use Rattle.slots.specs.Slots.{made_to}
use Rattle.ranges.specs.Words.{flat}
use Rattle.queue.specs.State.{Queue, taken, rest}
use Rattle.worker.specs.declared.Doing.{Doing}
use Rattle.worker.specs.declared.Doing.TheVariants.{Idle, FlushRead, FlushFree}
use Rattle.worker.specs.declared.Worker.{Worker}
use Rattle.worker.specs.Rep.{pool_rep}
use Rattle.places.specs.About.{about_of}
use Rattle.marks.specs.Marks.{read_next}
use Rattle.state.specs.declared.Hub.{Hub}
use Rattle.state.specs.State.{site_made, fresh_hub, worker_in, at_place, with_workers_in, with_worker_in, with_clock_in, with_free_in, with_window_in, with_times_in}
use Rattle.state.specs.State.{with_marks_in, with_reading_in, table_kept}
use Rattle.arrays.specs.Arrays.{short, fill_to}
use Rattle.gate.specs.Gate.{Decided}
use Rattle.gate.specs.declared.Gate.TheVariants.{Make, Start, Go}
use Rattle.std.specs.Prelude.{Ok as Grants, Err as Refuse}
use Rattle.gate.specs.Gate.{has_time}
use Rattle.decision.specs.Decision.{gate_of}
use Rattle.announcing.specs.declared.Outcome.{Outcome}
use Rattle.step.specs.declared.Next.{Next}
use Rattle.step.specs.declared.Next.TheVariants.{Taken, HandIn, Take, Read, ReadMarks, Split, Free, Mark}
use Rattle.step.specs.Step.{Stepped, step_of}
use Rattle.flush.specs.Flush.{put_hand_in_step, part_of, with_part, flush_read_step}
use Rattle.splitting.specs.Splitting.{split_left, split_queue, split_merged}
use Rattle.freeing.specs.Freeing.{freed_step, freed_row, freed_free}
use Rattle.standing.specs.Standing.{off_doing}
use Rattle.simulation.specs.Memory.{Memory, with_hub, Result, answered}
use Rattle.simulation.specs.Left.{ready}

-- memory with another row of slots and other newest versions
abbrev pub with_row : Memory → List Slot → List ℕ → Memory
with_row m row newest =
    record {
      hub = m.hub;
      slots = row;
      newest = newest;
      free = m.free;
      queue = m.queue;
      lens = m.lens;
      merged = m.merged;
    }

-- only worker w's record is another
abbrev pub with_record : Memory → ℕ → Worker → Memory
with_record m w x = with_hub m (with_worker_in m.hub w x)

-- the rows of totals that count
abbrev pub rows_kept : Hub → List ℕ
rows_kept h = take h.site.listed h.site.rows

-- which mark each of the P workers reads, plus one
abbrev pub marks_read : Hub → List ℕ
marks_read h = take h.site.p h.reading

abbrev pub queue_in : Memory → Queue
queue_in m = record { queue = m.queue; lens = m.lens; window = m.hub.window }

------------------------------------------------------------------------
-- A step of worker w, whose record is x

-- what stands for the worker among what is read of marks, after its step to the place d
abbrev pub read_after : Hub → ℕ → Worker → Doing → List ℕ
read_after h w x d = set h.reading w (read_next x.doing d (get_or h.reading w 0))

-- put (1) and (2), open, read, get, close, flush (5), and a mark or release that is refused
unfoldable pub taken_in : Memory → ℕ → Worker → Outcome → Result
taken_in m w x o =
    let y : Worker = record { doing = o.doing; announced = o.announced; pool = x.pool } in
    let h = with_reading_in (with_worker_in m.hub w y) (read_after m.hub w x o.doing) in
    answered (with_hub m (with_free_in (with_clock_in h o.clock) o.free)) o.answer

-- put (3), of the covered version in slot c
unfoldable pub handed_in : Memory → ℕ → Worker → ℕ → Result
handed_in m w x c =
    let s = put_hand_in_step m.slots x.pool c m.hub.site.batch in
    answered (with_record m w (record { doing = s.doing; announced = x.announced; pool = s.pool })) s.answer

-- flush (1)
unfoldable pub took_in : Memory → ℕ → Worker → Result
took_in m w x =
    let q = queue_in m in
    let y : Worker =
    record { doing = FlushRead (short (length (taken q))) 0; announced = x.announced; pool = x.pool } in
    record {
      memory =
          record {
            hub = with_window_in (with_worker_in m.hub w y) (rest q).window;
            slots = m.slots;
            newest = m.newest;
            free = m.free;
            queue = (rest q).queue;
            lens = (rest q).lens;
            merged = with_part m.merged w (over (flat (taken q)) (part_of m.merged w));
          };
      answer = Going;
    }

-- flush (2), of a merged list of n ranges with j times read
unfoldable pub read_in : Memory → ℕ → Worker → ℕ → ℕ → Result
read_in m w x n j =
    let y : Worker = record { doing = FlushRead n (j + 1); announced = x.announced; pool = x.pool } in
    let times = flush_read_step m.hub.times w j (worker_in m.hub (j % 16)).announced in
    answered (with_hub m (with_times_in (with_worker_in m.hub w y) times)) Going

-- flush (2), behind the last worker: all marks are read
unfoldable pub all_read_in : Memory → ℕ → Worker → ℕ → Result
all_read_in m w x n =
    let y : Worker = record { doing = FlushRead n ((m.hub.site.p + 12) % 256); announced = x.announced; pool = x.pool } in
    let times = over_at (28 * w + m.hub.site.p) m.hub.marks m.hub.times in
    answered (with_hub m (with_times_in (with_worker_in m.hub w y) times)) Going

-- mark and release: mark i holds the time t, or none
unfoldable pub marked_in : Memory → ℕ → Worker → ℕ → ℕ → Result
marked_in m w x i t = answered (with_hub m (with_marks_in (with_worker_in m.hub w (at_place x Idle)) (set m.hub.marks (i % 12) t))) Done

-- flush (3), of a merged list of n ranges with j times read
unfoldable pub split_in : Memory → ℕ → Worker → ℕ → ℕ → Result
split_in m w x n j =
    let q = split_queue (queue_in m) m.merged w n m.hub.times j m.hub.site.batch x.pool in
    let y : Worker =
    record {
      doing = FlushFree (split_left m.merged w n m.hub.times j x.pool);
      announced = x.announced;
      pool = pool_rep [];
    } in
    record {
      memory =
          record {
            hub = with_window_in (with_worker_in m.hub w y) q.window;
            slots = m.slots;
            newest = m.newest;
            free = m.free;
            queue = q.queue;
            lens = q.lens;
            merged = split_merged m.merged w n m.hub.times j x.pool;
          };
      answer = Going;
    }

-- flush (4), with n ranges left; H5.27: reads of all workers move off the freed slot
abbrev pub off_worker : ℕ → ℕ → Worker → Worker
off_worker c o x = at_place x (off_doing c o x.doing)

unfoldable pub freed_in : Memory → ℕ → Worker → ℕ → Result
freed_in m w x n =
    let f = freed_step m.slots m.merged w n m.hub.free in
    record {
      memory =
          record {
            hub =
                with_free_in
                (with_workers_in m.hub (map (off_worker f.slot f.older) (set m.hub.workers w (at_place x (FlushFree (n - 1))))))
                f.free;
            slots = freed_row m.slots m.merged w n;
            newest = m.newest;
            free = freed_free m.free m.merged w n m.hub.free;
            queue = m.queue;
            lens = m.lens;
            merged = m.merged;
          };
      answer = Freed f.slot;
    }

-- by what is known of the step
unfoldable pub next_in : Memory → ℕ → Worker → Next → Result
next_in m w x (Taken o) = taken_in m w x o
next_in m w x (HandIn c) = handed_in m w x c
next_in m w x Take = took_in m w x
next_in m w x (Read n j) = read_in m w x n j
next_in m w x (ReadMarks n) = all_read_in m w x n
next_in m w x (Split n j) = split_in m w x n j
next_in m w x (Free n) = freed_in m w x n
next_in m w x (Mark i t) = marked_in m w x i t

-- on the row and the newest versions as the first part of the step left them
abbrev pub finish_in : Memory → ℕ → Worker → Stepped → Result
finish_in m w x s = next_in (with_row m s.row s.newest) w x s.next

-- the step at the place d of a worker with the record x
abbrev pub step_at_in : Memory → Worker → Doing → Stepped
step_at_in m x d =
    step_of d x.announced m.hub.clock m.hub.free m.hub.site.p m.slots m.newest m.free (rows_kept m.hub) m.hub.marks
    (marks_read m.hub)

unfoldable pub go_in : Memory → ℕ → Worker → Doing → Result
go_in m w x d = finish_in m w x (step_at_in m x d)

------------------------------------------------------------------------
-- A record

-- a setup that is accepted, with what is given for it; the table that stands is kept
unfoldable pub set_up_in : Memory → Given → ℕ → ℕ → ℕ → ℕ → Memory
set_up_in m given p v n k =
    record {
      hub = fresh_hub (site_made m.hub given.totals p v n) k;
      slots = made_to m.slots v n;
      newest = fill_to m.newest short v;
      free = fill_to m.free (λ j. short (n - 1 - j)) (n - v);
      queue = m.queue;
      lens = m.lens;
      merged = m.merged;
    }

-- by the decision on it
unfoldable pub obey_in : Memory → Given → Decided → Result
obey_in m given (Refuse k) = answered m (No k)
obey_in m given (Grants (Make p v n k)) = answered (set_up_in m given p v n k) Ok
obey_in m given (Grants (Start w d)) = answered (with_record m w (at_place (worker_in m.hub w) d)) Ok
obey_in m given (Grants (Go w)) = go_in m w (worker_in m.hub w) (worker_in m.hub w).doing

-- the decision, where `up` says that the memory counts as set up; the worker's record is looked at by byte 1, modulo the sixteen that there are
abbrev pub gate_in : Bool → Memory → Given → List ℕ → Decided
gate_in up m given b =
    let x = worker_in m.hub (get_or b 1 0 % 16) in
    gate_of (decode b) up m.hub.site.p m.hub.site.v (length m.slots) (about_of x.doing).idle (has_time x.announced) given.totals (rows_kept m.hub)
    m.hub.marks (marks_read m.hub) (table_kept m.hub)

unfoldable pub done_as : Bool → Memory → Given → List ℕ → Result
done_as up m given b = obey_in m given (gate_in up m given b)

-- a record of the bytes b, with what is given for a setup
unfoldable pub done_of : Memory → Given → List ℕ → Result
done_of m given b = done_as (ready m) m given b
