-- Two runs that differ only in readings put to one register, in their values and statuses: what each of them answers, and what their hubs have in common. Proved in
-- proofs/TwoRuns.antt, and for one worker in proofs/TwoRunsWorker.antt.
--
-- A value put to register r reaches nobody but the workers that look at r: those whose operation is a get, a read or a marked read of r, or a total
-- of a group with a row of r. All other answers are the same in both runs, record by record, the answers to the puts themselves too; and what is
-- answered to a worker that looks at r is the same but for the value.
use Rattle.std.specs.Prelude.{◌≡◌, Bool, true, false, ◌||◌, ◌⊎◌, List, [], ◌∷◌, map, ℕ, ◌≤◌, eqb}
use Rattle.std.proofs.Math.Option.{none, some}
use Rattle.model.specs.Totals.{register_of, of_group, Sum, sum₀}
use Rattle.model.specs.Store.{Reading, last_status, Slot, Purpose, Single, Marked, Totaling, Goal, Doing, Idle, PutPublish, PutStamp}
use Rattle.model.specs.Store.{PutHandIn, FlushTake, FlushRead, FlushFree, OnTime, ReadEnter, ReadStand, GetShow, Worker, Store, Lent, Hub, blank, up}
use Rattle.model.specs.Store.{worker_at, with_slots, with_workers, with_doing}
use Rattle.model.specs.Rights.{ToRead, may_on}
use Rattle.model.specs.Rules.{Rules, twelve_digits, Ruled}
use Rattle.model.specs.Answer.{Answer, Ok, Going, Freed, At, Value, None, Below, Done, No}
use Rattle.model.specs.Record.{Operation, Put, Open, Read, Close, Get, Collect, Total, Mark, Release, MarkedRead, SetUp, Begin}
use Rattle.model.specs.Record.{Step, Decoded, Asks, Refuses, decode}
use Rattle.model.specs.Apply.{value_within, apply_ruled}
use Rattle.model.specs.Demand.{Event, events, Exchange, exchange, All, rows_in}

-- two lists of one length whose entries are related one by one
abbrev pub Pairwise : {A : Type 0} → (A → A → Type 0) → List A → List A → Type 0
Pairwise R [] [] = Unit {0}
Pairwise R [] (y ∷ m) = ⊥
Pairwise R (x ∷ l) [] = ⊥
Pairwise R (x ∷ l) (y ∷ m) = R x y × Pairwise R l m

------------------------------------------------------------------------
-- Records that differ in a value put to register r

-- Both begin a put of the same worker to register r, of a value of at most twelve digits each (H7.9) with any status that there is (H16.1). The rules
-- under which they are handed in allow both values or neither, as those of docs/HUB.md and of document 01 do: they allow every value of twelve digits.
pub record PutsAlike (r : ℕ) (rules : Rules) (d d' : Decoded) : Type 0 where
  pub worker : ℕ
  pub first : Reading
  pub second : Reading
  pub puts : d ≡ Asks (Begin worker (Put r first))
  pub puts' : d' ≡ Asks (Begin worker (Put r second))
  pub few : first.count ≤ twelve_digits
  pub few' : second.count ≤ twelve_digits
  pub known : first.status ≤ last_status
  pub known' : second.status ≤ last_status
  pub allowed : value_within rules.limit (some first) ≡ value_within rules.limit (some second)

-- records under the same rules, of the same bytes or with such puts
pub record Alike (r : ℕ) (b b' : Ruled) : Type 0 where
  pub rules : b.rules ≡ b'.rules
  pub bytes : (b.bytes ≡ b'.bytes) ⊎ PutsAlike r b.rules (decode b.bytes) (decode b'.bytes)

------------------------------------------------------------------------
-- Who looks at register r

-- one of the rows is of register r
unfoldable pub names : ℕ → List ℕ → Bool
names r [] = false
names r (x ∷ l) = eqb (register_of x) r || names r l

-- a value of register q is read for this, on a hub with these rows of totals: r is looked at
abbrev pub looks_for : ℕ → List ℕ → ℕ → Purpose → Bool
looks_for r rows q Single = eqb q r
looks_for r rows q (Marked m) = eqb q r
looks_for r rows q (Totaling g i y) = names r (of_group g rows)

-- the operation of a worker at this place looks at register r
abbrev pub looks_at : ℕ → List ℕ → Doing → Bool
looks_at r rows Idle = false
looks_at r rows (PutPublish q x) = false
looks_at r rows (PutStamp q c) = false
looks_at r rows (PutHandIn q c) = false
looks_at r rows FlushTake = false
looks_at r rows (FlushRead m ts) = false
looks_at r rows (FlushFree m) = false
looks_at r rows (OnTime y) = false
looks_at r rows (ReadEnter g) = looks_for r rows g.register g.purpose
looks_at r rows (ReadStand g c) = looks_for r rows g.register g.purpose
looks_at r rows (GetShow q) = eqb q r

-- the record that reads so is a step of a worker at such a place
abbrev pub looks_by : ℕ → Hub → Decoded → Bool
looks_by r (blank row) d = false
looks_by r (up s) (Asks (SetUp z)) = false
looks_by r (up s) (Asks (Begin w o)) = false
looks_by r (up s) (Asks (Step w)) = looks_at r s.site.rows (worker_at s w).doing
looks_by r (up s) (Refuses k) = false

------------------------------------------------------------------------
-- Answers and hubs but for values

-- an answer without the reading that it tells, value and status: value, none and below zero are one
abbrev pub without_value : Answer → Answer
without_value Ok = Ok
without_value Going = Going
without_value (Freed c) = Freed c
without_value (At t) = At t
without_value (Value x) = None
without_value None = None
without_value (Below x) = None
without_value Done = Done
without_value (No k) = No k

-- what a value is read for, with these sums of a total
abbrev pub purpose_with : Sum → Purpose → Purpose
purpose_with y Single = Single
purpose_with y (Marked m) = Marked m
purpose_with y (Totaling g i z) = Totaling g i y

abbrev pub goal_with : Sum → Goal → Goal
goal_with y g = record { register = g.register; purpose = purpose_with y g.purpose }

-- a place with this reading to store, if it has one, and these sums of a total, if it has any
abbrev pub place_with : Reading → Sum → Doing → Doing
place_with x y Idle = Idle
place_with x y (PutPublish q z) = PutPublish q x
place_with x y (PutStamp q c) = PutStamp q c
place_with x y (PutHandIn q c) = PutHandIn q c
place_with x y FlushTake = FlushTake
place_with x y (FlushRead m ts) = FlushRead m ts
place_with x y (FlushFree m) = FlushFree m
place_with x y (OnTime z) = OnTime z
place_with x y (ReadEnter g) = ReadEnter (goal_with y g)
place_with x y (ReadStand g c) = ReadStand (goal_with y g) c
place_with x y (GetShow q) = GetShow q

-- a place, a worker's record, a slot and a store without values: no reading to store, no sums, no reading in any slot
abbrev pub bare_place : Doing → Doing
bare_place d = place_with (record { count = 0; status = 0 }) sum₀ d

abbrev pub bare_worker : Worker → Worker
bare_worker x = with_doing x (bare_place x.doing)

abbrev pub bare_slot : Slot → Slot
bare_slot v = record { value = none; low = v.low; high = v.high; older = v.older; newer = v.newer }

abbrev pub bare : Store → Store
bare s = with_workers (with_slots s (map bare_slot s.slots)) (map bare_worker s.workers)

-- the hubs are the same but for values: sizes, clock, times, lists, free slots, pools, queue, marks and the workers' places are equal
abbrev pub SameButValues : Hub → Hub → Type 0
SameButValues (blank row) (blank row') = row ≡ row'
SameButValues (blank row) (up t) = ⊥
SameButValues (up s) (blank row') = ⊥
SameButValues (up s) (up t) = bare s ≡ bare t

------------------------------------------------------------------------
-- The statement

-- one record of each run
pub record SameAnswers (r : ℕ) (e e' : Event) : Type 0 where
  -- they meet hubs that are the same but for values, and leave such hubs
  pub before : SameButValues e.before e'.before
  pub after : SameButValues e.after e'.after
  -- both are a step of a worker that looks at register r, or neither is
  pub looks : looks_by r e.before (decode e.bytes) ≡ looks_by r e'.before (decode e'.bytes)
  -- if neither, the answers are equal
  pub equal : looks_by r e.before (decode e.bytes) ≡ false → e.answer ≡ e'.answer
  -- in any case they are equal but for a value
  pub alike : without_value e.answer ≡ without_value e'.answer

-- For every lent row, every setup record that is answered `ok`, every register r, and every two lists of records after the setup that differ only
-- in values put to r. The lists may begin alike, so the hub at which the runs part is any hub that records left.
abbrev pub TwoRuns : Type 0
TwoRuns =
    (row : Lent) (setup : Ruled) → (apply_ruled (blank row) setup).answer ≡ Ok
    → (r : ℕ) (records records' : List Ruled) → Pairwise (Alike r) records records'
    → Pairwise (SameAnswers r) (events (apply_ruled (blank row) setup).hub records) (events (apply_ruled (blank row) setup).hub records')

------------------------------------------------------------------------
-- A worker that keeps off register r

-- the operation looks at register r, on a hub with these rows of totals
abbrev pub looks_in : ℕ → List ℕ → Operation → Bool
looks_in r rows (Put q x) = false
looks_in r rows Open = false
looks_in r rows (Read q) = eqb q r
looks_in r rows Close = false
looks_in r rows (Get q) = eqb q r
looks_in r rows Collect = false
looks_in r rows (Total g) = names r (of_group g rows)
looks_in r rows (Mark m) = false
looks_in r rows (Release m) = false
looks_in r rows (MarkedRead q m) = eqb q r

-- no operation of worker w that the record begins looks at register r: one that does is refused
abbrev pub KeepsOff : ℕ → List ℕ → ℕ → Decoded → Answer → Type 0
KeepsOff r rows w (Asks (SetUp z)) a = Unit {0}
KeepsOff r rows w (Asks (Begin v c)) a = v ≡ w → a ≡ Ok → looks_in r rows c ≡ false
KeepsOff r rows w (Asks (Step v)) a = Unit {0}
KeepsOff r rows w (Refuses k) a = Unit {0}

-- the record is one of worker w
abbrev pub is_of : ℕ → Decoded → Bool
is_of w (Asks (SetUp z)) = false
is_of w (Asks (Begin v c)) = eqb v w
is_of w (Asks (Step v)) = eqb v w
is_of w (Refuses k) = false

-- one record of each run: both are of worker w, or neither is; if they are, w gets the same answer
pub record SameTo (w : ℕ) (e e' : Exchange) : Type 0 where
  pub both : is_of w (decode e.bytes) ≡ is_of w (decode e'.bytes)
  pub equal : is_of w (decode e.bytes) ≡ true → e.answer ≡ e'.answer

-- what was sent and answered
abbrev pub told : Hub → List Ruled → List Exchange
told h bs = map exchange (events h bs)

-- In two runs that differ only in values put to register r, a worker that keeps off r in one of them gets the same answers throughout, at
-- the same records.
abbrev pub SameForWorker : Type 0
SameForWorker =
    (row : Lent) (setup : Ruled) → (apply_ruled (blank row) setup).answer ≡ Ok
    → (r : ℕ) (records records' : List Ruled) → Pairwise (Alike r) records records'
    → (w : ℕ)
    → All (λ e. KeepsOff r (rows_in (apply_ruled (blank row) setup).hub) w (decode e.bytes) e.answer)
    (events (apply_ruled (blank row) setup).hub records)
    → Pairwise (SameTo w) (told (apply_ruled (blank row) setup).hub records) (told (apply_ruled (blank row) setup).hub records')

------------------------------------------------------------------------
-- A worker without the right to read register r

-- the table of rights that a hub has
abbrev pub table_in : Hub → List ℕ
table_in (blank row) = row.table
table_in (up s) = s.site.table

-- H15.4: there is a table with rows, and none of them gives worker w the right to read register r
abbrev pub WithoutRead : List ℕ → ℕ → ℕ → Type 0
WithoutRead [] w r = ⊥
WithoutRead (row ∷ l) w r = may_on (row ∷ l) w ToRead r ≡ false

-- H15.7: in two runs that differ only in values put to register r, every worker without the right to read r gets the same answers throughout
abbrev pub SameWithoutRead : Type 0
SameWithoutRead =
    (row : Lent) (setup : Ruled) → (apply_ruled (blank row) setup).answer ≡ Ok
    → (r : ℕ) (records records' : List Ruled) → Pairwise (Alike r) records records'
    → (w : ℕ) → WithoutRead (table_in (apply_ruled (blank row) setup).hub) w r
    → Pairwise (SameTo w) (told (apply_ruled (blank row) setup).hub records) (told (apply_ruled (blank row) setup).hub records')
