-- One record applied to the hub: setup (H2), the begin of an operation (H4), a step, and the refusals in their order (H7.1): 6, 1, 2, 8 or 9,
-- 5, 3, 4 or 17, 16, 25, 23, then 10 or 11, then 12, 13, 19, 20 or 21.
use Rattle.std.specs.Prelude.{Bool, true, false, cond, not, ◌&&◌, List, [], ◌∷◌, map, ℕ, zero, suc, ◌-◌, ltb, leb, eqb, length, take, replicate}
use Rattle.std.proofs.Math.Option.{Option, none, some}
use Rattle.model.specs.Store.{absent, last_clock, Reading, last_status, Slot, mark_count, OpenAnnounce, CloseWithdraw, MarkKeep, MarkRelease}
use Rattle.model.specs.Store.{Single, Marked, Doing, PutPublish, FlushTake, OnTime, ReadEnter, GetShow, start_worker, Store, Hub}
use Rattle.model.specs.Store.{Lent, blank, up, up_from, worker_at, place}
use Rattle.model.specs.About.{about}
use Rattle.model.specs.Marks.{MarkNeed, NoMark, EmptyMark, HeldMark, UnreadMark, mark_of, mark_refusal, number_of}
use Rattle.model.specs.Rules.{Rules, Ruled}
use Rattle.model.specs.Totals.{register_of, of_group, sum₀, first_of}
use Rattle.model.specs.Rights.{ToPut, ToRead, ToCollect, ToMark, Needed, NoRight, OnThese, InAny, OnAll, allowed, table_of, table_fits}
use Rattle.model.specs.Answer.{Answer, Ok, No, Applied}
use Rattle.model.specs.Versions.{alone}
use Rattle.model.specs.Steps.{goal_at, step_at}
use Rattle.model.specs.Record.{Operation, Put, Open, Read, Close, Get, Collect, Total, Mark, Release, MarkedRead, Sizes, Command}
use Rattle.model.specs.Record.{SetUp, Begin, Step, Decoded, Asks, Refuses, decode, rows_of, list_fits}

-- H7.4: a refusal on reading changes nothing
abbrev pub refuse : Hub → ℕ → Applied
refuse h k = record { hub = h; answer = No k }

-- H7.3: refusal k where the test fails, else what follows
abbrev pub unless : Bool → Hub → ℕ → Applied → Applied
unless test h k next = cond test next (refuse h k)

------------------------------------------------------------------------
-- Setup

-- H2.2: the sizes that a setup may have; else 5
unfoldable pub in_ranges : Sizes → Bool
in_ranges z =
    (leb 1 z.P && leb z.P 16)
    && (leb 1 z.V' && leb z.V' 256)
    && (leb z.V' z.N && leb z.N 2048)
    && (leb 1 z.clock && leb z.clock last_clock)

-- H2.9: the first v slots of a row have the one version of a register each. H2.12: the others are free and have no neighbours, and their
-- value, low and high stay.
unfoldable pub first_slots : ℕ → List Slot → List Slot
first_slots v [] = []
first_slots zero (z ∷ l) = alone z ∷ first_slots zero l
first_slots (suc v) (z ∷ l) =
    record { value = none; low = 0; high = absent; older = absent; newer = absent } ∷ first_slots v l

-- H2.5 to H2.11: what a setup makes: P workers at their start, an empty queue, register r in slot r, the slots from V on free, upwards, and
-- empty marks (H13.1). The batch size is b, and the rows of the list of totals (H12.3) and of the table of rights (H15.4) are kept. The row beyond N is not in the store; that it
-- keeps its contents (H2.13) is said where memory is lent.
unfoldable pub fresh : ℕ → Sizes → List ℕ → List ℕ → List Slot → Store
fresh b z rows table row =
    record {
      site = record { P = z.P; V' = z.V'; N = z.N; B = b; rows = rows; table = table };
      clock = z.clock;
      slots = first_slots z.V' (take z.N row);
      newest = up_from 0 z.V';
      free = up_from z.V' (z.N - z.V');
      queue = [];
      workers = replicate z.P start_worker;
      marks = replicate mark_count absent;
    }

-- the store of a setup with these sizes that is accepted under the rules given, on what is lent
abbrev pub made_by : Rules → Sizes → Lent → Store
made_by rules z x = fresh (rules.batch z.P) z (rows_of rules.given.totals) x.table x.row

-- H7.6: 9 where the hub is set up. H2.2, H2.3, H12.2: 5 outside the ranges, where the row has fewer than N slots, or where the list of totals is
-- not one that a setup accepts.
unfoldable pub set_up : Rules → Hub → Sizes → Applied
set_up rules (up s) z = refuse (up s) 9
set_up rules (blank x) z =
    let y : Applied = record { hub = up (made_by rules z x); answer = Ok } in
    unless (in_ranges z && leb z.N (length x.row) && list_fits z.V' rules.given.totals) (blank x) 5 y

------------------------------------------------------------------------
-- The table of rights

-- H15.8: a table of any bytes is given: 9 where the hub is set up, then 24, and the table that stood stays
unfoldable pub give_table : Hub → List ℕ → Applied
give_table (up s) bytes = refuse (up s) 9
give_table (blank x) bytes =
    let y : Applied = record { hub = blank (record { row = x.row; table = table_of bytes }); answer = Ok } in
    unless (table_fits bytes) (blank x) 24 y

-- H15.10: the hub without setup and tables
abbrev pub emptied : List Slot → Hub
emptied row = blank (record { row = row; table = [] })

------------------------------------------------------------------------
-- The begin of an operation

-- H4.1: what an operation asks of the announced time: nothing; that there is none, else 12; that there is one, else 13
pub data TimeNeed : Type 0 where
  AnyTime : TimeNeed
  NoTime : TimeNeed
  OwnTime : TimeNeed

-- The terms on which an operation begins: the register that it names, if any, the group, if any, the reading that it puts, if any, the right that it
-- needs (H15.5), what it asks of the announced time and of a mark, and its first place.
pub record Terms : Type 0 where
  pub register : Option ℕ
  pub group : Option ℕ
  pub value : Option Reading
  pub right : Needed
  pub time : TimeNeed
  pub mark : MarkNeed
  pub first : Doing

-- an operation that names no register, no group, no value and no mark
abbrev pub bare : Needed → TimeNeed → Doing → Terms
bare n t d = record { register = none; group = none; value = none; right = n; time = t; mark = NoMark; first = d }

-- one that names a register alone
abbrev pub on_register : ℕ → TimeNeed → Doing → Terms
on_register r t d = record { register = some r; group = none; value = none; right = OnThese ToRead (r ∷ []); time = t; mark = NoMark; first = d }

-- and one that names a mark alone
abbrev pub on_mark : MarkNeed → TimeNeed → Doing → Terms
on_mark m t d = record { register = none; group = none; value = none; right = OnAll ToMark; time = t; mark = m; first = d }

-- H4.1: an operation is taken apart here, with the rows of the list of totals. H5.31: a collect begins with flush (1). H12.5: a total begins with
-- the first row of its group.
abbrev pub terms : List ℕ → Operation → Terms
terms rows (Put r x) =
    record {
      register = some r;
      group = none;
      value = some x;
      right = OnThese ToPut (r ∷ []);
      time = AnyTime;
      mark = NoMark;
      first = PutPublish r x;
    }
terms rows Open = bare NoRight NoTime (OnTime OpenAnnounce)
terms rows (Read r) = on_register r OwnTime (ReadEnter (record { register = r; purpose = Single }))
terms rows Close = bare NoRight OwnTime (OnTime CloseWithdraw)
terms rows (Get r) = on_register r AnyTime (GetShow r)
terms rows Collect = bare (InAny ToCollect) AnyTime FlushTake
terms rows (Total g) =
    record {
      register = none;
      group = some g;
      value = none;
      right = OnThese ToRead (map register_of (of_group g rows));
      time = OwnTime;
      mark = NoMark;
      first = ReadEnter (goal_at rows g (first_of g rows) sum₀);
    }
terms rows (Mark m) = on_mark (EmptyMark m) OwnTime (OnTime (MarkKeep m))
terms rows (Release m) = on_mark (UnreadMark m) AnyTime (OnTime (MarkRelease m))
terms rows (MarkedRead r m) =
    record {
      register = some r;
      group = none;
      value = none;
      right = OnThese ToRead (r ∷ []);
      time = AnyTime;
      mark = HeldMark m;
      first = ReadEnter (record { register = r; purpose = Marked m });
    }

-- 4: the register, or the mark, if there is one, is below v
abbrev pub named_below : ℕ → Option ℕ → Bool
named_below v none = true
named_below v (some r) = ltb r v

-- 17: the group, if there is one, has a row in the list
abbrev pub group_there : List ℕ → Option ℕ → Bool
group_there rows none = true
group_there rows (some g) = ltb (first_of g rows) (length rows)

-- 16: the value, if there is one, is at most the limit, if there is one
abbrev pub value_within : Option ℕ → Option Reading → Bool
value_within none x = true
value_within (some most) none = true
value_within (some most) (some x) = leb x.count most

-- 25: the status of the reading, if there is one, is one that there is
abbrev pub status_known : Option Reading → Bool
status_known none = true
status_known (some x) = leb x.status last_status

-- 12: only an open asks that no time is announced. `has`: a time is announced
abbrev pub may_open : TimeNeed → Bool → Bool
may_open AnyTime has = true
may_open NoTime has = not has
may_open OwnTime has = true

-- 13: only a read, a total, a mark and a close ask that a time is announced
abbrev pub may_use_time : TimeNeed → Bool → Bool
may_use_time AnyTime has = true
may_use_time NoTime has = true
may_use_time OwnTime has = has

-- 10 and 11: the worker does nothing
abbrev pub is_idle : Doing → Bool
is_idle d = (about d).idle

-- What the begin of an operation by a worker below P is decided by: V, the rows of totals and of rights, whether the worker is idle and has a
-- time, and the number of the refusal that a need of a mark meets, 0 where there is none.
pub record Seen : Type 0 where
  pub V' : ℕ
  pub rows : List ℕ
  pub table : List ℕ
  pub idle : Bool
  pub has : Bool
  pub marked : MarkNeed → ℕ

-- H7.3: k where the test fails, else what follows
abbrev pub tested : Bool → ℕ → ℕ → ℕ
tested test k next = cond test next k

-- H7.1: the refusal that the begin meets, in this order: 4; 17; 16; 25; 23; 10; 12; 13; 19, 20 or 21; and 0 where there is none
unfoldable pub refusal : Option ℕ → Seen → ℕ → Operation → ℕ
refusal limit y w o =
    let x = terms y.rows o in
    tested (named_below y.V' x.register) 4
    (tested (named_below mark_count (mark_of x.mark)) 4
    (tested (group_there y.rows x.group) 17
    (tested (value_within limit x.value) 16
    (tested (status_known x.value) 25
    (tested (allowed y.table y.V' w x.right) 23
    (tested y.idle 10
    (tested (may_open x.time y.has) 12
    (tested (may_use_time x.time y.has) 13
    (y.marked x.mark)))))))))

-- what worker w's begin is decided by in a store
abbrev pub seen : Store → ℕ → Seen
seen s w =
    record {
      V' = s.site.V';
      rows = s.site.rows;
      table = s.site.table;
      idle = is_idle (worker_at s w).doing;
      has = ltb (worker_at s w).announced absent;
      marked = λ y. number_of (mark_refusal s y);
    }

-- refused with such a number, where it is one, else what follows
unfoldable pub refused_by : ℕ → Hub → Applied → Applied
refused_by k h next = cond (eqb k 0) next (refuse h k)

-- H7.1: 3 worker not below P; those of a begin; else begun (H4.1)
unfoldable pub begin : Rules → Store → ℕ → Operation → Applied
begin rules s w o =
    let begun : Applied = record { hub = up (place s w (terms s.site.rows o).first); answer = Ok } in
    unless (ltb w s.site.P) (up s) 3 (refused_by (refusal rules.limit (seen s w) w o) (up s) begun)

------------------------------------------------------------------------
-- A step

-- H7.1: 3 worker not below P; else the worker's step (H5.1), which is 11 where it is idle
unfoldable pub step : Store → ℕ → Applied
step s w =
    let x = step_at s w (worker_at s w).doing in
    unless (ltb w s.site.P) (up s) 3 (record { hub = up x.store; answer = x.answer })

-- H6.10: a step is taken: the hub is set up, and the record is a step of a worker below P that is not idle. H6.9: so a record that is refused
-- on reading takes none, and a step that meets 14, 15, 18, 19, 20 or 21 is taken.
unfoldable pub takes_step : Hub → Decoded → Bool
takes_step (blank x) d = false
takes_step (up s) (Asks (SetUp z)) = false
takes_step (up s) (Asks (Begin w o)) = false
takes_step (up s) (Asks (Step w)) = ltb w s.site.P && not (is_idle (worker_at s w).doing)
takes_step (up s) (Refuses k) = false

------------------------------------------------------------------------
-- One record

-- H7.1: 8 not set up
unfoldable pub obey : Rules → Hub → Command → Applied
obey rules h (SetUp z) = set_up rules h z
obey rules (blank x) (Begin w o) = refuse (blank x) 8
obey rules (up s) (Begin w o) = begin rules s w o
obey rules (blank x) (Step w) = refuse (blank x) 8
obey rules (up s) (Step w) = step s w

unfoldable pub apply_decoded : Rules → Hub → Decoded → Applied
apply_decoded rules h (Asks c) = obey rules h c
apply_decoded rules h (Refuses k) = refuse h k

-- H6.2: one record, any bytes, any length, applied to the hub under the rules given.
unfoldable pub apply : Rules → Hub → List ℕ → Applied
apply rules h b = apply_decoded rules h (decode b)

-- a record under its own rules
abbrev pub apply_ruled : Hub → Ruled → Applied
apply_ruled h b = apply b.rules h b.bytes

-- H1.5: the hub after a list of records, each meeting the hub as the last one left it
unfoldable pub hub_after : Hub → List Ruled → Hub
hub_after h [] = h
hub_after h (b ∷ bs) = hub_after (apply_ruled h b).hub bs

-- and the answers to them
unfoldable pub answers_to : Hub → List Ruled → List Answer
answers_to h [] = []
answers_to h (b ∷ bs) =
    let a = apply_ruled h b in
    a.answer ∷ answers_to a.hub bs
