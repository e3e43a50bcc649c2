-- The steps that are done at once: put (1) and (2), read, total, get and flush (5); open and close are in announcing/specs/Announcing.antt. Each is
-- the model's step of the same name (model/specs/Steps.antt) in this code's types, on the parts of memory that it uses. The other steps of a
-- flush and put (3) also move pools and times, and a mark or a release the time of a mark; here they are only named (`Next`), and
-- flush/specs/Flush.antt has what the first ones do.
use Rattle.std.specs.Prelude.{cond, List, ℕ, ◌+◌, ◌-◌, ltb, leb, eqb, get_or, set}
use Rattle.model.specs.Store.{absent, count_of}
use Rattle.model.specs.Rules.{twelve_digits}
use Rattle.model.specs.Totals.{row_at, goes_on}
use Rattle.values.specs.declared.Reading.{Reading}
use Rattle.values.specs.Meaning.{Content}
use Rattle.values.specs.declared.Answer.TheVariants.{Going, Done, No}
use Rattle.values.specs.Meaning.{content_of}
use Rattle.slots.specs.declared.Slot.{Slot}
use Rattle.arrays.specs.Arrays.{short}
use Rattle.versions.specs.Versions.{slot_at_in, stamped_in, linked_in}
use Rattle.worker.specs.Rep.{Announced}
use Rattle.worker.specs.declared.Doing.{Doing}
use Rattle.worker.specs.declared.Doing.TheVariants.{Idle, PutPublish, PutStamp, PutHandIn, FlushTake, FlushRead, FlushFree, OnTime}
use Rattle.worker.specs.declared.Doing.TheVariants.{ReadEnter, ReadStand, GetShow}
use Rattle.worker.specs.declared.TimeStep.{TimeStep}
use Rattle.worker.specs.declared.TimeStep.TheVariants.{OpenAnnounce, OpenPass, CloseWithdraw, MarkKeep, MarkRelease}
use Rattle.worker.specs.declared.Sum.{Sum}
use Rattle.worker.specs.declared.Purpose.{Purpose}
use Rattle.worker.specs.declared.Purpose.TheVariants.{Single, Marked, Totaling}
use Rattle.worker.specs.declared.Goal.{Goal}
use Rattle.worker.specs.Rep.{time_of}
use Rattle.marks.specs.declared.MarkNeed.{MarkNeed}
use Rattle.marks.specs.declared.MarkNeed.TheVariants.{Nothing, Empty, Held, Unread}
use Rattle.marks.specs.Marks.{refusal_in, time_in}
use Rattle.total_rows.specs.Rows.{goal_in}
use Rattle.total_sums.specs.Sums.{sum_with}
use Rattle.showing.specs.Shown.{answer_to, signed_of}
use Rattle.announcing.specs.declared.Outcome.{Outcome}
use Rattle.announcing.specs.Announcing.{outcome_of, open_announce_step, open_pass_step, close_withdraw_step}
use Rattle.step.specs.declared.Next.{Next}
use Rattle.step.specs.declared.Next.TheVariants.{Taken, HandIn, Take, Read, ReadMarks, Split, Free, Mark}

-- the step as it is known, and the two parts of lent memory that such a step may change
pub record Stepped : Type 0 where
  pub next : Next
  pub row : List Slot
  pub newest : List ℕ

-- the slot of register r's newest version; 0 where there is no such register
abbrev pub newest_at : List ℕ → ℕ → ℕ
newest_at newest r = cond (ltb r 256) (get_or newest r 0) 0

-- the free slot that is taken next stands last, of n
abbrev pub next_free : List ℕ → ℕ → ℕ
next_free free n = cond (ltb 0 n) (cond (leb n 2048) (get_or free (n - 1) 0) absent) absent

-- a step that changes nothing in lent memory
abbrev pub still_at : Outcome → List Slot → List ℕ → Stepped
still_at o l newest = record { next = Taken o; row = l; newest = newest }

------------------------------------------------------------------------
-- Put. The worker's announced time is t, the clock k, and n slots are free.

-- (1) H5.5: without a free slot refusal 14. H5.6 to H5.8: else the register is stamped, the next free slot gets the new version above the one that
-- was the newest, and the put remembers that one.
unfoldable pub put_publish_step : ℕ → Reading → Announced → ℕ → ℕ → List Slot → List ℕ → List ℕ → Stepped
put_publish_step r x t k n l newest free =
    let i = newest_at newest r in
    let f = next_free free n in
    cond (eqb n 0) (still_at (outcome_of Idle t k n (No 14)) l newest)
    (record {
      next = Taken (outcome_of (PutStamp r (short i)) t k (n - 1) Going);
      row = linked_in (stamped_in l i k) i f x;
      newest = set newest r (short f);
    })

-- (2) H5.9: where the covered version's high is open, the register is stamped.
unfoldable pub put_stamp_step : ℕ → ℕ → Announced → ℕ → ℕ → List Slot → List ℕ → Stepped
put_stamp_step r c t k n l newest =
    record {
      next = Taken (outcome_of (PutHandIn r c) t k n Going);
      row = cond (eqb (slot_at_in l c).high absent) (stamped_in l (newest_at newest r) k) l;
      newest = newest;
    }

------------------------------------------------------------------------
-- Read, total, get. The rows are those of the list of totals; `marks` are the times of the marks, and `reading` says which mark each worker
-- reads.

-- H7.5: a refusal j that is met at a step sets the worker idle and changes nothing else
abbrev pub stopped : ℕ → Announced → ℕ → ℕ → Outcome
stopped j t k n = outcome_of Idle t k n (No j)

-- what a read asks of a mark: one as of a mark, that it holds a time
abbrev pub need_of : Purpose → MarkNeed
need_of Single = Nothing
need_of (Marked m) = Held m
need_of (Totaling g i k plus minus) = Nothing

-- Read (1) H5.36: the register is stamped, and the read stands on its newest version. H13.7: 20 where the mark that it reads is empty.
unfoldable pub read_enter_step : Goal → Announced → ℕ → ℕ → List Slot → List ℕ → List ℕ → List ℕ → Stepped
read_enter_step g t k n l newest marks reading =
    let i = newest_at newest g.register in
    let j = refusal_in (need_of g.purpose) marks reading in
    cond (eqb j 0)
    (record {
      next = Taken (outcome_of (ReadStand g (short i)) t k n Going);
      row = stamped_in l i k;
      newest = newest;
    })
    (still_at (stopped j t k n) l newest)

-- H12.6: a total found x for row i. H12.9: refusal 18 where it has more than twelve digits. H12.7: the next row of the group is read as this one was;
-- behind the last one the sum is the answer.
unfoldable pub total_found_of : ℕ → ℕ → Sum → Content → Announced → ℕ → ℕ → List ℕ → Outcome
total_found_of g i sum x t k n rows =
    let more = sum_with sum (row_at rows i) x in
    let next = outcome_of (ReadEnter (goal_in rows g (i + 1) more)) t k n Going in
    let last = outcome_of Idle t k n (signed_of more) in
    cond (leb (count_of (content_of x)) twelve_digits) (cond (goes_on rows g i) next last) (outcome_of Idle t k n (No 18))

-- what follows where the version that the time needs holds x
abbrev pub found_of : Purpose → Content → Announced → ℕ → ℕ → List ℕ → Outcome
found_of Single x t k n rows = outcome_of Idle t k n (answer_to x)
found_of (Marked m) x t k n rows = outcome_of Idle t k n (answer_to x)
found_of (Totaling g i j plus minus) x t k n rows = total_found_of g i (record { plus = plus; minus = minus; status = j }) x t k n rows

-- Read (2) H5.37, H13.5: with a low that is at most the worker's time, or the mark's, the value there is found, which is a read's answer; else the
-- read goes to the older neighbour.
unfoldable pub read_stand_step : Goal → ℕ → Announced → ℕ → ℕ → List Slot → List ℕ → List ℕ → Outcome
read_stand_step g c t k n l rows marks =
    let v = slot_at_in l c in
    let on = outcome_of (ReadStand g (short v.older)) t k n Going in
    cond (leb v.low (time_in g.purpose t marks)) (found_of g.purpose v.value t k n rows) on

-- Get, H5.39: the register is stamped, and the newest version's value is the answer.
unfoldable pub get_show_step : ℕ → Announced → ℕ → ℕ → List Slot → List ℕ → Stepped
get_show_step r t k n l newest =
    record {
      next = Taken (outcome_of Idle t k n (answer_to (slot_at_in l (newest_at newest r)).value));
      row = stamped_in l (newest_at newest r) k;
      newest = newest;
    }

------------------------------------------------------------------------
-- Steps that move a time

-- mark m gets this time unless it meets the refusal j
abbrev pub mark_or_stop : ℕ → ℕ → ℕ → Announced → ℕ → ℕ → Next
mark_or_stop j m time t k n = cond (eqb j 0) (Mark m time) (Taken (stopped j t k n))

-- Open and close. Mark, H13.3: the mark holds the worker's time; 19 where it holds one. Release, H13.4: the mark is empty; 20 where it is, 21 where
-- a read of it runs.
abbrev pub time_step_of : TimeStep → Announced → ℕ → ℕ → List ℕ → List ℕ → Next
time_step_of OpenAnnounce t k n marks reading = Taken (open_announce_step t k n)
time_step_of OpenPass t k n marks reading = Taken (open_pass_step t k n)
time_step_of CloseWithdraw t k n marks reading = Taken (close_withdraw_step k n)
time_step_of (MarkKeep m) t k n marks reading = mark_or_stop (refusal_in (Empty m) marks reading) m (time_of t) t k n
time_step_of (MarkRelease m) t k n marks reading = mark_or_stop (refusal_in (Unread m) marks reading) m absent t k n

------------------------------------------------------------------------
-- One step of a worker at the place given, with the announced time t, of p workers; the last three lists are the rows of totals, the times of the
-- marks, and which mark each worker reads. An idle worker has none: refusal 11.

-- flush (2) while times are left to read: of a worker, and behind the last worker of all marks (H13.2); then (3)
abbrev pub read_or_split : ℕ → ℕ → ℕ → Next
read_or_split m j p = cond (ltb j p) (Read m j) (cond (eqb j p) (ReadMarks m) (Split m j))

-- flush (4) while ranges are left, then (5), H5.29
abbrev pub free_or_done : ℕ → Announced → ℕ → ℕ → Next
free_or_done m t k n = cond (eqb m 0) (Taken (outcome_of Idle t k n Done)) (Free m)

unfoldable pub step_of : Doing → Announced → ℕ → ℕ → ℕ → List Slot → List ℕ → List ℕ → List ℕ → List ℕ → List ℕ → Stepped
step_of Idle t k n p l newest free rows marks reading = still_at (outcome_of Idle t k n (No 11)) l newest
step_of (PutPublish r x) t k n p l newest free rows marks reading = put_publish_step r x t k n l newest free
step_of (PutStamp r c) t k n p l newest free rows marks reading = put_stamp_step r c t k n l newest
step_of (PutHandIn r c) t k n p l newest free rows marks reading = record { next = HandIn c; row = l; newest = newest }
step_of FlushTake t k n p l newest free rows marks reading = record { next = Take; row = l; newest = newest }
step_of (FlushRead m j) t k n p l newest free rows marks reading = record { next = read_or_split m j p; row = l; newest = newest }
step_of (FlushFree m) t k n p l newest free rows marks reading = record { next = free_or_done m t k n; row = l; newest = newest }
step_of (OnTime y) t k n p l newest free rows marks reading =
    record { next = time_step_of y t k n marks reading; row = l; newest = newest }
step_of (ReadEnter g) t k n p l newest free rows marks reading = read_enter_step g t k n l newest marks reading
step_of (ReadStand g c) t k n p l newest free rows marks reading =
    still_at (read_stand_step g c t k n l rows marks) l newest
step_of (GetShow r) t k n p l newest free rows marks reading = get_show_step r t k n l newest
