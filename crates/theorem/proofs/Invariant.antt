-- The invariant: what holds of a store that records left, together with what demand 3 follows along with it. Its parts are the fields of
-- `Inv` and, for one worker, of `Works`; each names what it says. A change of a step has to show again those parts that speak of what the
-- step changes: a worker's place (`PlaceHolds`, `Fits`), slots (`linked`, `stamps`, `free_alone`), pools and queue (`once`, `pending_old`, `queue`).
--
-- Besides the store the invariant speaks of: `olds`, for each register the slots of its versions below the newest, newest first; the calls
-- of the history so far; their order so far; and the plain registers that this order has led to.
use mathlib.Core.Path.{◌≡◌, ap}
use mathlib.Core.Bool.{Bool, true, false, cond}
use mathlib.Core.Logic.{◌⊎◌, ⊎_elim}
use mathlib.Core.List.{List, [], ◌∷◌}
use mathlib.Core.Option.{Option, none, some}
use Prim.Native.Nat.{ℕ, ◌+◌, ◌*◌, ◌-◌, ◌≤◌, ◌<◌}
use native.Mathlib.Omega.{arith}
use lib.Dec.{ltb}
use lib.ListN.{length, get_or, take}
use borrow.Author.Tests as Tests
use Rattle.model.specs.Totals.{group_of, register_of, row_at, of_group, follow}
use Rattle.model.specs.Rules.{twelve_digits}
use Rattle.model.specs.Store.{absent, Reading, Content, Slot, Range, TimeStep, OpenAnnounce, OpenPass, CloseWithdraw, MarkKeep, MarkRelease}
use Rattle.model.specs.Store.{Purpose, Single, Marked, Totaling, Goal, Doing, Idle, PutPublish, PutStamp, PutHandIn, FlushTake}
use Rattle.model.specs.Store.{FlushRead, FlushFree, OnTime, ReadEnter, ReadStand, GetShow, Worker, Store, worker_at, newest_of}
use Rattle.model.specs.Store.{mark_count, mark_at, holders, held}
use Rattle.model.specs.Marks.{time_for}
use Rattle.model.specs.About.{Hand, Empty, Covered, Merged, Needless, about}
use Rattle.model.specs.Record.{Operation, Put, Open, Read, Close, Get, Collect, Total, Mark, Release, MarkedRead}
use Rattle.model.specs.Demand.{Unfinished, Call, Plain, sum_over, occurrences, All, call_at}
use Rattle.model.specs.Reached.{sum_by}
use Rattle.model.proofs.Basic.{hit, lt_cases}
use Rattle.theorem.proofs.Linear.{Lin}
use Rattle.theorem.proofs.Slots.{nth}
use Rattle.theorem.proofs.Chain.{Linked, Sees, On, Fine}
use Rattle.theorem.proofs.Count.{cnt}

-- What most parts look at: the store without its queue, free slots and workers' places. So a part is carried over a change that leaves these.
pub record Ctx : Type 0 where
  pub slots : List Slot
  pub clock : ℕ
  pub newest : List ℕ
  pub olds : List (List ℕ)
  pub held : ℕ → ℕ
  pub marks : List ℕ
  pub registers : ℕ
  pub holders : ℕ
  pub rows : List ℕ

abbrev pub ctx : Store → List (List ℕ) → Ctx
ctx s olds =
    record {
      slots = s.slots;
      clock = s.clock;
      newest = s.newest;
      olds = olds;
      held = held s;
      marks = s.marks;
      registers = s.site.V';
      holders = holders s;
      rows = s.site.rows;
    }

-- the slot of register r's newest version
abbrev pub top : Ctx → ℕ → ℕ
top x r = get_or x.newest r absent

-- the slots of its older versions, newest first
abbrev pub old : Ctx → ℕ → List ℕ
old x r = get_or x.olds r []

-- register r's versions, newest first
abbrev pub chain : Ctx → ℕ → List ℕ
chain x r = top x r ∷ old x r

------------------------------------------------------------------------
-- Pending versions: covered, and on their way to be freed

-- how often slot c is in a hand
abbrev pub in_hand_of : ℕ → Hand → ℕ
in_hand_of c Empty = 0
in_hand_of c (Covered d) = hit d c
in_hand_of c (Merged m ts) = cnt c m
in_hand_of c (Needless m) = cnt c m

-- at a worker's place
abbrev pub in_doing : ℕ → Doing → ℕ
in_doing c d = in_hand_of c (about d).hand

-- by a worker
abbrev pub pend_w : ℕ → Worker → ℕ
pend_w c y = in_doing c y.doing + cnt c y.pool

-- how often slot c is pending: with a worker or in a queued pool
abbrev pub pend : ℕ → List Worker → List (List Range) → ℕ
pend c ws q = sum_by (pend_w c) ws + sum_by (cnt c) q

-- 1 for a slot of the hub, else 0
abbrev pub below : ℕ → ℕ → ℕ
below c n = cond (ltb c n) 1 0

------------------------------------------------------------------------
-- One worker

-- a range has its slot's own low and high, and both have been reached by the clock: the version is stamped and covered
abbrev pub Good : Ctx → Range → Type 0
Good x ρ = (ρ.low ≡ (nth x.slots ρ.slot).low) × (ρ.high ≡ (nth x.slots ρ.slot).high) × (ρ.high ≤ x.clock) × (ρ.low ≤ x.clock)

-- an announced time that the clock has passed, or none: where no open is between its steps
abbrev pub Settled : Ctx → ℕ → Type 0
Settled x t = (t ≡ absent) ⊎ (t < x.clock)

-- While a flush reads the times: each holder read so far has now no time, or some time that was read, or one that no merged range covers. The
-- last is the heart of demand 3: a time announced after the pools were taken is the clock, and the clock is at least every high in them. A mark's
-- time is one that a worker held, and workers are read before marks: so a time that a mark got since was read, or is new.
abbrev pub Asked : Ctx → List ℕ → Range → Type 0
Asked x ts ρ = (v : ℕ) → v < length ts → (x.held v ≡ absent) ⊎ ((0 < occurrences (x.held v) ts) ⊎ (ρ.high ≤ x.held v))

-- the marks are asked last, and all at once
abbrev pub AskedOf : Ctx → List ℕ → Type 0
AskedOf x ts = (length ts + mark_count ≤ x.holders) ⊎ (length ts ≡ x.holders)

-- no time held needs the range: what the split leaves to be freed
abbrev pub Spared : Ctx → Range → Type 0
Spared x ρ = (v : ℕ) → v < x.holders → x.held v < absent → ρ.low ≤ x.held v → x.held v < ρ.high → ⊥

-- the worker's snapshot at time t: it has a copy, and in each register's list the version that the time needs has the copy's value
abbrev pub Snap : Ctx → Plain → ℕ → ℕ → Type 0
Snap x p w t = (f : ℕ → Content) × (p.copy w ≡ some f) × ((r : ℕ) → r < x.registers → Sees x.slots t (f r) (chain x r))

-- a mark is empty; or its time is past, and in each register's list the version that the time needs has the value of the copy under the mark
abbrev pub MarkHolds : Ctx → Plain → ℕ → Type 0
MarkHolds x p m =
    let a = get_or x.marks m absent in
    ((a ≡ absent) × (p.kept m ≡ none))
    ⊎ ((a < x.clock)
    × (f : ℕ → Content) × (p.kept m ≡ some f) × ((r : ℕ) → r < x.registers → Sees x.slots a (f r) (chain x r)))

-- the time as of which a worker with the announced time t reads, and the copy in which the value is shown
abbrev pub time_in : Ctx → ℕ → Purpose → ℕ
time_in x t y = time_for x.marks t y

abbrev pub copy_for : Plain → ℕ → Purpose → Option (ℕ → Content)
copy_for p w Single = p.copy w
copy_for p w (Marked m) = p.kept m
copy_for p w (Totaling g i y) = p.copy w

-- of a read as of the worker's own time, it has one that is past; of a marked read, there is such a mark
abbrev pub Sourced : ℕ → ℕ → Purpose → Type 0
Sourced clock t Single = t < clock
Sourced clock t (Marked m) = (m < mark_count) × ((t ≡ absent) ⊎ (t < clock))
Sourced clock t (Totaling g i y) = t < clock

-- Where a value of register r is read for a total: the register is that of its row, which is one of its group; the sums are those of the rows of
-- the group before it over the worker's copy, and each value was one of twelve digits.
abbrev pub Summed : List ℕ → Plain → ℕ → ℕ → Purpose → Type 0
Summed rows p w r Single = Unit {0}
Summed rows p w r (Marked m) = Unit {0}
Summed rows p w r (Totaling g i y) =
    (i < length rows)
    × (r ≡ register_of (row_at rows i))
    × (group_of (row_at rows i) ≡ g)
    × (y.plus + y.minus ≤ twelve_digits * length (of_group g (take i rows)))
    × ((f : ℕ → Content) × (p.copy w ≡ some f) × (y ≡ sum_over f (of_group g (take i rows))))

abbrev pub SummedFor : Ctx → Plain → ℕ → Goal → Type 0
SummedFor x p w g = Summed x.rows p w g.register g.purpose

-- what holds of the announced time t before a step that moves it
abbrev pub TimeHolds : Ctx → ℕ → TimeStep → Type 0
TimeHolds x t OpenAnnounce = t ≡ absent
TimeHolds x t OpenPass = (t ≤ x.clock) × (t < 4294967295)
TimeHolds x t CloseWithdraw = t < x.clock
TimeHolds x t (MarkKeep m) = (m < mark_count) × (t < x.clock)
TimeHolds x t (MarkRelease m) = (m < mark_count) × Settled x t

-- what holds at a worker's place, whose announced time is t
abbrev pub PlaceHolds : Ctx → Plain → ℕ → ℕ → Doing → Type 0
PlaceHolds x p w t Idle = Settled x t
PlaceHolds x p w t (PutPublish r y) = (r < x.registers) × Settled x t
PlaceHolds x p w t (PutStamp r c) = (r < x.registers) × Settled x t × (0 < occurrences c (old x r))
PlaceHolds x p w t (PutHandIn r c) = (r < x.registers) × Settled x t × (0 < occurrences c (old x r)) × ((nth x.slots c).high ≤ x.clock)
PlaceHolds x p w t FlushTake = Settled x t
PlaceHolds x p w t (FlushRead m ts) = Settled x t × All (Good x) m × AskedOf x ts × All (Asked x ts) m
PlaceHolds x p w t (FlushFree m) = Settled x t × All (Good x) m × All (Spared x) m
PlaceHolds x p w t (OnTime y) = TimeHolds x t y
PlaceHolds x p w t (ReadEnter g) = (g.register < x.registers) × Sourced x.clock t g.purpose × SummedFor x p w g
PlaceHolds x p w t (ReadStand g c) =
    (g.register < x.registers)
    × Sourced x.clock t g.purpose
    × ((time_in x t g.purpose < x.clock)
    × (f : ℕ → Content)
    × (copy_for p w g.purpose ≡ some f)
    × On x.slots (time_in x t g.purpose) c (f g.register) (chain x g.register))
    × SummedFor x p w g
PlaceHolds x p w t (GetShow r) = (r < x.registers) × Settled x t

-- call k is the one that worker w is performing
pub record Running (h : List Call) (w k : ℕ) : Type 0 where
  pub within : k < length h
  pub own : (call_at h k).worker ≡ w
  pub unfinished : (call_at h k).ending ≡ Unfinished
  pub only : (i : ℕ) → i < length h → (call_at h i).worker ≡ w → (call_at h i).ending ≡ Unfinished → i ≡ k

-- worker w performs none
abbrev pub NoneRunning : List Call → ℕ → Type 0
NoneRunning h w = (i : ℕ) → i < length h → (call_at h i).worker ≡ w → (call_at h i).ending ≡ Unfinished → ⊥

abbrev pub IsPut : Operation → Type 0
IsPut c = (r : ℕ) × (y : Reading) × (c ≡ Put r y)

-- The operation that is performed fits the worker's place, and n, how often its call stands in the order, says whether it has taken effect: a
-- put once its version is stamped, an open once the clock is past its time, all others at their end.
abbrev pub FitsTime : Ctx → ℕ → Operation → TimeStep → ℕ → Type 0
FitsTime x t c OpenAnnounce n = (c ≡ Open) × (n ≡ 0)
FitsTime x t c OpenPass n = (c ≡ Open) × (((t ≡ x.clock) × (n ≡ 0)) ⊎ ((t < x.clock) × (n ≡ 1)))
FitsTime x t c CloseWithdraw n = (c ≡ Close) × (n ≡ 0)
FitsTime x t c (MarkKeep m) n = (c ≡ Mark m) × (n ≡ 0)
FitsTime x t c (MarkRelease m) n = (c ≡ Release m) × (n ≡ 0)

-- a flush ends a put that has taken effect, or is a collect
abbrev pub FitsFlush : Operation → ℕ → Type 0
FitsFlush c n = (IsPut c × (n ≡ 1)) ⊎ ((c ≡ Collect) × (n ≡ 0))

-- a read's value, a marked read's, or one of a total
abbrev pub Serves : Operation → ℕ → Purpose → Type 0
Serves c r Single = c ≡ Read r
Serves c r (Marked m) = c ≡ MarkedRead r m
Serves c r (Totaling g i y) = c ≡ Total g

abbrev pub Fits : Ctx → ℕ → Operation → Doing → ℕ → Type 0
Fits x t c Idle n = ⊥
Fits x t c (PutPublish r y) n = (c ≡ Put r y) × (n ≡ 0)
Fits x t c (PutStamp r d) n =
    (y : Reading)
    × (c ≡ Put r y)
    × ((((nth x.slots d).high ≡ absent) × (n ≡ 0) × ((nth x.slots (top x r)).value ≡ some y))
    ⊎ (((nth x.slots d).high ≤ x.clock) × (n ≡ 1)))
Fits x t c (PutHandIn r d) n = IsPut c × (n ≡ 1)
Fits x t c FlushTake n = FitsFlush c n
Fits x t c (FlushRead m ts) n = FitsFlush c n
Fits x t c (FlushFree m) n = FitsFlush c n
Fits x t c (OnTime y) n = FitsTime x t c y n
Fits x t c (ReadEnter g) n = Serves c g.register g.purpose × (n ≡ 0)
Fits x t c (ReadStand g d) n = Serves c g.register g.purpose × (n ≡ 0)
Fits x t c (GetShow r) n = (c ≡ Get r) × (n ≡ 0)

-- a worker that is not idle performs a call that fits its place
abbrev pub Busy : Ctx → List Call → List ℕ → ℕ → ℕ → Doing → Type 0
Busy x h o w t d = (k : ℕ) × Running h w k × Fits x t (call_at h k).operation d (occurrences k o)

-- an idle one performs none
abbrev pub CurrentOf : Ctx → List Call → List ℕ → ℕ → ℕ → Doing → Bool → Type 0
CurrentOf x h o w t d true = NoneRunning h w
CurrentOf x h o w t d false = Busy x h o w t d

abbrev pub Current : Ctx → List Call → List ℕ → ℕ → ℕ → Doing → Type 0
Current x h o w t d = CurrentOf x h o w t d (about d).idle

-- all of one worker
pub record Works (x : Ctx) (h : List Call) (o : List ℕ) (p : Plain) (w : ℕ) (y : Worker) : Type 0 where
  -- the ranges of its local pool
  pub pool : All (Good x) y.pool
  -- its announced time is not in the future, and the clock can pass it
  pub announced : (y.announced ≡ absent) ⊎ ((y.announced ≤ x.clock) × (y.announced < 4294967295))
  -- once the clock is past the announced time there is a snapshot
  pub snapshot : y.announced < x.clock → Snap x p w y.announced
  -- its place
  pub doing : PlaceHolds x p w y.announced y.doing
  -- the call that it performs
  pub current : Current x h o w y.announced y.doing

------------------------------------------------------------------------
-- The whole, before record `now`

pub record Inv (start : ℕ → Content) (now : ℕ) (s : Store) (olds : List (List ℕ)) (h : List Call) (o : List ℕ) (p : Plain) : Type 0 where
  -- shapes
  pub workers_length : length s.workers ≡ s.site.P
  pub newest_length : length s.newest ≡ s.site.V'
  pub slots_length : length s.slots ≡ s.site.N
  pub olds_length : length olds ≡ s.site.V'
  pub marks_length : length s.marks ≡ mark_count
  pub slots_few : s.site.N ≤ absent
  pub clock_fits : s.clock < absent
  -- every slot is in just one place: pending, free, or a register's newest version
  pub once : (c : ℕ) → pend c s.workers s.queue + (occurrences c s.free + occurrences c s.newest) ≡ below c s.site.N
  -- a free slot has no neighbours
  pub free_alone : (c : ℕ) → 0 < occurrences c s.free → ((nth s.slots c).older ≡ absent) × ((nth s.slots c).newer ≡ absent)
  -- the pending versions are those below the newest of some register, each once
  pub pending_old : (c : ℕ) → sum_by (occurrences c) olds ≡ pend c s.workers s.queue
  -- each register's versions are a doubly linked list
  pub linked : (r : ℕ) → r < s.site.V' → Linked s.slots absent (chain (ctx s olds) r)
  -- The newest version's high is open. It is stamped and has the plain register's value; or it is not, and then the next older one has that
  -- value and an open high. All others have low and high.
  pub stamps : (r : ℕ) → r < s.site.V' → Fine s.slots s.clock (p.registers r) (chain (ctx s olds) r)
  -- the ranges of the queued pools
  pub queue : All (All (Good (ctx s olds))) s.queue
  pub workers : (w : ℕ) → w < s.site.P → Works (ctx s olds) h o p w (worker_at s w)
  pub marks : (m : ℕ) → m < mark_count → MarkHolds (ctx s olds) p m
  -- an unstamped newest version belongs to a put that is at its second step
  pub stamper : (r : ℕ) → r < s.site.V' → (nth s.slots (newest_of s r)).low ≡ absent
      → (w : ℕ) × (w < s.site.P) × (c : ℕ) × ((worker_at s w).doing ≡ PutStamp r c) × ((nth s.slots c).high ≡ absent)
  -- only the hub's workers perform calls
  pub outside : (w : ℕ) → s.site.P ≤ w → NoneRunning h w
  -- the calls' order so far is one, and has led to the plain registers p
  pub linear : Lin s.site.rows start now h o p
  -- the rows of totals are those of a list that a setup accepts
  pub rows_fit : follow s.site.V' 0 0 s.site.rows ≡ true

------------------------------------------------------------------------
-- Who holds a time

pub held-worker : (s : Store) (v : ℕ) → v < s.site.P → held s v ≡ (worker_at s v).announced
held-worker s v b = rw (Tests.lt-ltb v s.site.P b)

pub held-mark : (s : Store) (m : ℕ) → held s (s.site.P + m) ≡ mark_at s m
held-mark s m = rw (Tests.le-ltb (s.site.P + m) s.site.P (omega arith)) (ap (mark_at s) (let e : (s.site.P + m) - s.site.P ≡ m = omega arith in e))

-- with the same announced times and marks each holds what it held
pub held_same : (s s' : Store) → s'.site.P ≡ s.site.P → s'.marks ≡ s.marks → (v : ℕ)
    → (v < s.site.P → (worker_at s' v).announced ≡ (worker_at s v).announced) → held s' v ≡ held s v
held_same s s' e q v f = ⊎_elim (λ u. rw (e, u.1) (f u.0)) (λ u. rw (e, q, u.1)) (lt_cases v s.site.P)
