-- The steps: H5 of docs/HUB.md. Each takes the store, the worker that steps and what its place holds.
use Rattle.std.specs.Prelude.{cond, List, [], ◌∷◌, ◌++◌, map, ℕ, ◌+◌, ◌-◌, ltb, leb, eqb, length, set, drop}
use Rattle.std.proofs.Math.Option.{Option, none, some}
use Rattle.model.specs.Store.{absent, last_clock, Reading, Content, Range, TimeStep, OpenAnnounce, OpenPass, CloseWithdraw, MarkKeep, count_of}
use Rattle.model.specs.Store.{MarkRelease, Purpose, Single, Marked, Totaling, Goal, Doing, Idle, PutPublish, PutStamp, PutHandIn}
use Rattle.model.specs.Store.{FlushTake, FlushRead, FlushFree, OnTime, ReadEnter, ReadStand, GetShow, Worker, Store, worker_at, slot_at}
use Rattle.model.specs.Store.{newest_of, range_of, with_clock, with_slots, with_newest, with_free, with_queue, with_workers, with_marks}
use Rattle.model.specs.Store.{with_worker, with_doing, place}
use Rattle.model.specs.About.{Stance, Nowhere, StandsOn, about}
use Rattle.model.specs.Marks.{EmptyMark, UnreadMark, mark_refusal, need_for, time_for}
use Rattle.model.specs.Rules.{twelve_digits}
use Rattle.model.specs.Totals.{Sum, register_of, row_at, goes_on}
use Rattle.model.specs.Sums.{add_row}
use Rattle.model.specs.Answer.{Answer, Going, Freed, At, Value, None, Below, Done, No, Stepped}
use Rattle.model.specs.Versions.{stamp, link_slots, unlink_slots}
use Rattle.model.specs.Ranges.{first_two, merge, needed_of, needless_of, needed_pools, joining, queued_pool}

------------------------------------------------------------------------
-- Put

-- (1) H5.5: without a free slot refusal 14, which sets the worker idle and changes nothing else. H5.6 to H5.8: else the register is stamped, the
-- first free slot gets the new version above the one that was the newest, and the put remembers that one. The last argument is the list of free
-- slots. That there is none just where every slot is in some register's list is `Refuses14` of specs/Reached.antt.
unfoldable pub put_publish : Store → ℕ → ℕ → Reading → List ℕ → Stepped
put_publish s w r x [] = record { store = place s w Idle; answer = No 14 }
put_publish s w r x (f ∷ free') =
    let c = newest_of s r in
    let t = stamp s r in
    record {
      store =
          place
          (with_free (with_newest (with_slots t (link_slots t.slots c f x)) (set t.newest r f)) free')
          w
          (PutStamp r c);
      answer = Going;
    }

-- (2) H5.9: where the covered version's high is open, the register is stamped.
unfoldable pub put_stamp : Store → ℕ → ℕ → ℕ → Stepped
put_stamp s w r c =
    record {
      store = place (cond (eqb (slot_at s c).high absent) (stamp s r) s) w (PutHandIn r c);
      answer = Going;
    }

-- (3) H5.12: the covered version's range goes to the end of the local pool. H5.13, H5.14: with B ranges there a flush follows, else the put is done.
unfoldable pub put_hand_in : Store → ℕ → ℕ → Stepped
put_hand_in s w c =
    let p = (worker_at s w).pool ++ (range_of s c ∷ []) in
    let full = eqb (length p) s.site.B in
    record {
      store =
          with_worker s w
          (record { doing = cond full FlushTake Idle; announced = (worker_at s w).announced; pool = p });
      answer = cond full Going Done;
    }

------------------------------------------------------------------------
-- Flush: the second part of a put that filled its local pool, and the whole of a collect (H5.31)

-- (1) H5.15: the first two pools leave the queue and are merged. H5.16: the local pool stays.
unfoldable pub flush_take : Store → ℕ → Stepped
flush_take s w =
    record {
      store = with_queue (place s w (FlushRead (first_two s.queue) [])) (drop 2 s.queue);
      answer = Going;
    }

-- H5.17, H5.18, H13.2: the times that a flush reads in one step, once it has read k: the next worker's, and behind the last worker all marks'
unfoldable pub read_times : Store → ℕ → List ℕ
read_times s k = cond (ltb k s.site.P) ((worker_at s k).announced ∷ []) s.marks

-- (3) H5.19: the merged list is split by the times read. H5.20 to H5.22: the needed ranges go on the queue or join the local pool, which is the
-- first list of that merge. H5.23: the local pool is queued behind them, and is empty then. It may have 2B ranges for this moment, which is up to
-- 128, but never in a worker's record. H5.24: the needless ones are freed next.
unfoldable pub flush_split : Store → ℕ → List Range → List ℕ → Stepped
flush_split s w m ts =
    let b = s.site.B in
    let stay = needed_of ts m in
    record {
      store =
          with_queue
          (with_worker s w
          (record { doing = FlushFree (needless_of ts m); announced = (worker_at s w).announced; pool = [] }))
          (s.queue ++ needed_pools b stay ++ queued_pool (merge (worker_at s w).pool (joining b stay)));
      answer = Going;
    }

-- (2) H5.17, H13.2: P steps, each reads the time of one worker, from worker 0 on; one more reads all marks. Then (3).
unfoldable pub flush_read : Store → ℕ → List Range → List ℕ → Stepped
flush_read s w m ts =
    let more : Stepped =
    record { store = place s w (FlushRead m (ts ++ read_times s (length ts))); answer = Going } in
    let last = flush_split s w m ts in
    cond (leb (length ts) s.site.P) more last

-- H5.27: a read that stands on the freed slot c goes to its older neighbour o
abbrev pub move_to : ℕ → ℕ → Doing → Stance → Doing
move_to c o d Nowhere = d
move_to c o d (StandsOn g e) = ReadStand g (cond (eqb e c) o e)

unfoldable pub move_off : ℕ → ℕ → Doing → Doing
move_off c o d = move_to c o d (about d).stance

unfoldable pub worker_off : ℕ → ℕ → Worker → Worker
worker_off c o x = with_doing x (move_off c o x.doing)

-- (4) H5.25 to H5.28: one step for each needless range, in merged order: its slot is unlinked, reads move off it, and it goes to the front of the
-- free list. (5) H5.29: without one left the flush is done.
unfoldable pub flush_free : Store → ℕ → List Range → Stepped
flush_free s w [] = record { store = place s w Idle; answer = Done }
flush_free s w (ρ ∷ l) =
    let c = ρ.slot in
    let t = place s w (FlushFree l) in
    record {
      store =
          with_workers
          (with_free (with_slots t (unlink_slots t.slots c)) (c ∷ t.free))
          (map (worker_off c (slot_at s c).older) t.workers);
      answer = Freed c;
    }

------------------------------------------------------------------------
-- Open

-- (1) H5.32: refusal 15 at the last clock. H5.33: else the worker announces the clock.
unfoldable pub open_announce : Store → ℕ → Stepped
open_announce s w =
    let last : Stepped = record { store = place s w Idle; answer = No 15 } in
    let more : Stepped =
    record {
      store = with_worker s w (record { doing = OnTime OpenPass; announced = s.clock; pool = (worker_at s w).pool });
      answer = Going;
    } in
    cond (eqb s.clock last_clock) last more

-- (2) H5.34: a clock that is still at the announced time goes up by one. That time is the answer.
unfoldable pub open_pass : Store → ℕ → Stepped
open_pass s w =
    let a = (worker_at s w).announced in
    record {
      store = place (with_clock s (cond (eqb s.clock a) (s.clock + 1) s.clock)) w Idle;
      answer = At a;
    }

------------------------------------------------------------------------
-- Read, total, get, close

-- H10.3: what a get or a read answers that found this
unfoldable pub answer_for : Content → Answer
answer_for none = None
answer_for (some x) = Value x

-- H7.5: a refusal met at a step sets the worker idle and changes nothing else; without one, what follows
unfoldable pub stopped_by : Option ℕ → Store → ℕ → Stepped → Stepped
stopped_by none s w next = next
stopped_by (some k) s w next = record { store = place s w Idle; answer = No k }

-- Read (1) H5.36: the register is stamped, and the read stands on its newest version. H13.7: 20 where the mark that it reads is empty.
unfoldable pub read_enter : Store → ℕ → Goal → Stepped
read_enter s w g =
    let r = g.register in
    stopped_by (mark_refusal s (need_for g.purpose)) s w
    (record { store = place (stamp s r) w (ReadStand g (newest_of s r)); answer = Going })

-- H12.5: a total of group g at row i of the list, with the sums of the rows of its group before it
abbrev pub goal_at : List ℕ → ℕ → ℕ → Sum → Goal
goal_at rows g i sum = record { register = register_of (row_at rows i); purpose = Totaling g i sum }

-- H12.8, H16.6: what a total answers with the sums of all its rows: what was added less what was subtracted, and the largest status
unfoldable pub signed : Sum → Answer
signed y =
    let up : Answer = Value (record { count = y.plus - y.minus; status = y.status }) in
    let down : Answer = Below (record { count = y.minus - y.plus; status = y.status }) in
    cond (leb y.minus y.plus) up down

-- H12.6: a total found x for row i. H12.9: refusal 18 where it has more than twelve digits. H12.7: the next row of the group is read as
-- this one was; behind the last one the sum is the answer.
unfoldable pub total_found : Store → ℕ → ℕ → ℕ → Sum → Content → Stepped
total_found s w g i sum x =
    let rows = s.site.rows in
    let more = add_row sum (row_at rows i) x in
    let over : Stepped = record { store = place s w Idle; answer = No 18 } in
    let next : Stepped = record { store = place s w (ReadEnter (goal_at rows g (i + 1) more)); answer = Going } in
    let last : Stepped = record { store = place s w Idle; answer = signed more } in
    cond (leb (count_of x) twelve_digits) (cond (goes_on rows g i) next last) over

-- what follows where the version that the time needs holds x
unfoldable pub found : Store → ℕ → Purpose → Content → Stepped
found s w Single x = record { store = place s w Idle; answer = answer_for x }
found s w (Marked m) x = record { store = place s w Idle; answer = answer_for x }
found s w (Totaling g i sum) x = total_found s w g i sum x

-- Read (2) H5.37, H13.5: with a low that is at most the worker's time, or the mark's, the value there is found, which is a read's answer; else the
-- read goes to the older neighbour.
unfoldable pub read_stand : Store → ℕ → Goal → ℕ → Stepped
read_stand s w g c =
    let on : Stepped = record { store = place s w (ReadStand g (slot_at s c).older); answer = Going } in
    cond (leb (slot_at s c).low (time_for s.marks (worker_at s w).announced g.purpose)) (found s w g.purpose (slot_at s c).value) on

-- Get, H5.39: the register is stamped, and the newest version's value is the answer.
unfoldable pub get_show : Store → ℕ → ℕ → Stepped
get_show s w r =
    record { store = place (stamp s r) w Idle; answer = answer_for (slot_at s (newest_of s r)).value }

-- Close, H5.40: the worker has no time then.
unfoldable pub close_withdraw : Store → ℕ → Stepped
close_withdraw s w =
    record {
      store = with_worker s w (record { doing = Idle; announced = absent; pool = (worker_at s w).pool });
      answer = Done;
    }

------------------------------------------------------------------------
-- Mark, release

-- H13.3: the mark holds the worker's time. 19 where it holds one.
unfoldable pub mark_keep : Store → ℕ → ℕ → Stepped
mark_keep s w m =
    stopped_by (mark_refusal s (EmptyMark m)) s w
    (record { store = with_marks (place s w Idle) (set s.marks m (worker_at s w).announced); answer = Done })

-- H13.4: the mark is empty. 20 where it is, 21 where a read of it runs.
unfoldable pub mark_release : Store → ℕ → ℕ → Stepped
mark_release s w m =
    stopped_by (mark_refusal s (UnreadMark m)) s w
    (record { store = with_marks (place s w Idle) (set s.marks m absent); answer = Done })

------------------------------------------------------------------------
-- H5.1: one step of worker w, which is at the place given. An idle worker has none: refusal 11.

unfoldable pub time_step : Store → ℕ → TimeStep → Stepped
time_step s w OpenAnnounce = open_announce s w
time_step s w OpenPass = open_pass s w
time_step s w CloseWithdraw = close_withdraw s w
time_step s w (MarkKeep m) = mark_keep s w m
time_step s w (MarkRelease m) = mark_release s w m

unfoldable pub step_at : Store → ℕ → Doing → Stepped
step_at s w Idle = record { store = s; answer = No 11 }
step_at s w (PutPublish r x) = put_publish s w r x s.free
step_at s w (PutStamp r c) = put_stamp s w r c
step_at s w (PutHandIn r c) = put_hand_in s w c
step_at s w FlushTake = flush_take s w
step_at s w (FlushRead m ts) = flush_read s w m ts
step_at s w (FlushFree m) = flush_free s w m
step_at s w (OnTime y) = time_step s w y
step_at s w (ReadEnter g) = read_enter s w g
step_at s w (ReadStand g c) = read_stand s w g c
step_at s w (GetShow r) = get_show s w r
