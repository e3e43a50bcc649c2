-- Demand 3: H6.3 to H6.23 of docs/HUB.md, as one statement about a whole list of records. Proved in theorem/proofs/Main.antt.
--
-- A list of records after an accepted setup gives events. From the records and the answers alone come the operations (calls) with
-- their begins and ends. The order of the calls is a definition: the effects in the order in which they happen. The statement says that
-- it is an order between begins and ends, that plain registers fed in that order show what every finished get, read, marked read and total
-- answered, and that nothing needed is freed and nothing freed twice.
--
-- What rests on reading by eye besides this file: the model's `decode` (which bytes are the worker, the register and the value); `apply`, from
-- which lows, highs, announced times and the clock come; and where a store has its parts: `slot_at`, `worker_at`, `newest_of`, the head of `free`,
-- the places of `Doing`, and `absent` for a time that is not there.
use Rattle.std.specs.Prelude.{◌≡◌, Bool, true, false, cond, not, ◌&&◌, List, [], ◌∷◌, ◌++◌, map, ℕ, zero, suc, ◌+◌, ◌≤◌, ◌<◌, ltb, leb, eqb, length, get_or}
use Rattle.std.proofs.Math.Option.{Option, none, some}
use Rattle.model.specs.Store.{absent, Reading, Content, Doing, PutPublish, Store, Hub, blank, up, worker_at, slot_at, newest_of, holders, Lent, lent₀}
use Rattle.model.specs.Store.{held}
use Rattle.model.specs.About.{Effect, NoEffect, ByStamp, ByClock, about}
use Rattle.model.specs.Rules.{Given, none_given, Ruled}
use Rattle.model.specs.Totals.{Sum, sum₀, register_of, of_group}
use Rattle.model.specs.Sums.{add_row}
use Rattle.model.specs.Answer.{Answer, Ok, Going, Freed, Done, said}
use Rattle.model.specs.Steps.{answer_for, signed}
use Rattle.model.specs.Record.{Operation, Put, Open, Read, Close, Get, Collect, Total, Mark, Release, MarkedRead, SetUp, Begin, Step}
use Rattle.model.specs.Record.{Decoded, Asks, Refuses, decode}
use Rattle.model.specs.Apply.{takes_step, apply_ruled}

------------------------------------------------------------------------
-- H6.4, H6.5: a list of records after an accepted setup; each meets the hub as the one before left it.

-- a record, what was lent with it for a setup, the hub that it met, its answer, the hub that it left
pub record Event : Type 0 where
  pub given : Given
  pub bytes : List ℕ
  pub before : Hub
  pub answer : Answer
  pub after : Hub

-- the events of a list of records, of any bytes and any lengths and each under its own rules, that starts with hub h
unfoldable pub events : Hub → List Ruled → List Event
events h [] = []
events h (b ∷ bs) =
    let a = apply_ruled h b in
    record { given = b.rules.given; bytes = b.bytes; before = h; answer = a.answer; after = a.hub } ∷ events a.hub bs

-- what is seen of an event from outside
pub record Exchange : Type 0 where
  pub given : Given
  pub bytes : List ℕ
  pub answer : Answer

abbrev pub exchange : Event → Exchange
exchange e = record { given = e.given; bytes = e.bytes; answer = e.answer }

------------------------------------------------------------------------
-- H6.7, H6.8: operations. One begins with its record, answered `ok`, and ends at its worker's first step after that whose answer is neither
-- `going` nor `freed S`: refused with `no K`, else finished. One without such a step is unfinished.

pub data Ending : Type 0 where
  Unfinished : Ending
  -- at this record
  RefusedAt : ℕ → Ending
  -- at this record, with this answer
  FinishedAt : ℕ → Answer → Ending

-- an operation of the list: what its record asks for, its worker, the number of its record, its end
pub record Call : Type 0 where
  pub operation : Operation
  pub worker : ℕ
  pub begun : ℕ
  pub ending : Ending

-- what stands where a history has no call
abbrev pub call₀ : Call
call₀ = record { operation = Collect; worker = 0; begun = 0; ending = Unfinished }

abbrev pub call_at : List Call → ℕ → Call
call_at h i = get_or h i call₀

-- the end, at record i with answer a, by the refusal that it gives
abbrev pub end_by : ℕ → Answer → Option ℕ → Ending
end_by i a none = FinishedAt i a
end_by i a (some k) = RefusedAt i

-- Only a step record of the worker between begin and end counts, and each of these takes a step: `StepsTaken` below.
abbrev pub end_as : ℕ → Answer → Ending
end_as i a = end_by i a (said a).refusal

-- an end is the first one: what has ended stays so
unfoldable pub end_once : Ending → Ending → Ending
end_once Unfinished e = e
end_once (RefusedAt i) e = RefusedAt i
end_once (FinishedAt i a) e = FinishedAt i a

-- a call, after a step of worker w at record i was answered a, which ends an operation
unfoldable pub end_for : ℕ → ℕ → Answer → Call → Call
end_for i w a c =
    record {
      operation = c.operation;
      worker = c.worker;
      begun = c.begun;
      ending = cond (eqb c.worker w) (end_once c.ending (end_as i a)) c.ending;
    }

-- the calls so far, after record i, which reads as given and was answered a
unfoldable pub observe : ℕ → Decoded → Answer → List Call → List Call
observe i (Asks (SetUp z)) a l = l
observe i (Asks (Begin w o)) a l =
    cond (said a).ok (l ++ (record { operation = o; worker = w; begun = i; ending = Unfinished } ∷ [])) l
observe i (Asks (Step w)) a l = cond (said a).ends (map (end_for i w a) l) l
observe i (Refuses k) a l = l

-- The calls of a list of exchanges, the first of which has number i, after the calls given. H6.6: numbers count from the record after the
-- setup; the log's count from the setup.
unfoldable pub history : ℕ → List Exchange → List Call → List Call
history i [] l = l
history i (e ∷ es) l = history (i + 1) es (observe i (decode e.bytes) e.answer l)

-- an operation of worker w is between its begin and its end
abbrev pub Performs : List Call → ℕ → Type 0
Performs h w = (i : ℕ) × (i < length h) × ((call_at h i).worker ≡ w) × ((call_at h i).ending ≡ Unfinished)

-- a step record of such a worker takes a step
abbrev pub StepTaken : List Call → Decoded → Hub → Type 0
StepTaken h (Asks (SetUp z)) before = Unit {0}
StepTaken h (Asks (Begin w o)) before = Unit {0}
StepTaken h (Asks (Step w)) before = Performs h w → takes_step before (Asks (Step w)) ≡ true
StepTaken h (Refuses k) before = Unit {0}

-- H6.9: of the events given, the first of which has number i and finds the calls h, none that `history` takes for a step of an operation is
-- refused on reading.
unfoldable pub StepsTaken : ℕ → List Event → List Call → Type 0
StepsTaken i [] h = Unit {0}
StepsTaken i (e ∷ es) h =
    StepTaken h (decode e.bytes) e.before × StepsTaken (i + 1) es (observe i (decode e.bytes) e.answer h)

------------------------------------------------------------------------
-- H6.16: plain registers, with what a setup gives them at first, for each worker a copy of them or none, none at first, and for each mark one or none, none at first
-- (H13.9). They are a function of the register's number here; an operation that began names one below V.

pub record Plain : Type 0 where
  pub registers : ℕ → Content
  pub copy : ℕ → Option (ℕ → Content)
  pub kept : ℕ → Option (ℕ → Content)

-- what they hold at first, after a setup with what was given: none has a value
abbrev pub start_of : Given → ℕ → Content
start_of g r = none

abbrev pub plain₀ : (ℕ → Content) → Plain
plain₀ start = record { registers = start; copy = λ w. none; kept = λ m. none }

-- f with x at i
abbrev pub update {ℓ} : {A : Type ℓ} → (ℕ → A) → ℕ → A → ℕ → A
update f i x j = cond (eqb j i) x (f j)

abbrev pub with_copies : Plain → (ℕ → Option (ℕ → Content)) → Plain
with_copies p f = record { registers = p.registers; copy = f; kept = p.kept }

abbrev pub with_kept : Plain → (ℕ → Option (ℕ → Content)) → Plain
with_kept p f = record { registers = p.registers; copy = p.copy; kept = f }

-- H6.17: a put sets its register, an open gives its worker a new copy, a close takes it away; H13.9: a mark keeps its worker's copy under the mark,
-- a release drops it; the others change nothing.
unfoldable pub feed : Plain → ℕ → Operation → Plain
feed p w (Put r x) = record { registers = update p.registers r (some x); copy = p.copy; kept = p.kept }
feed p w Open = with_copies p (update p.copy w (some p.registers))
feed p w (Read r) = p
feed p w Close = with_copies p (update p.copy w none)
feed p w (Get r) = p
feed p w Collect = p
feed p w (Total g) = p
feed p w (Mark m) = with_kept p (update p.kept m (p.copy w))
feed p w (Release m) = with_kept p (update p.kept m none)
feed p w (MarkedRead r m) = p

-- what is shown of a copy; nothing without one
unfoldable pub in_copy : Option (ℕ → Content) → ((ℕ → Content) → Answer) → Option Answer
in_copy none q = none
in_copy (some f) q = some (q f)

-- H12.10: the sums of rows over a copy
unfoldable pub sum_over : (ℕ → Content) → List ℕ → Sum
sum_over f [] = sum₀
sum_over f (x ∷ l) = add_row (sum_over f l) x (f (register_of x))

-- what shows that there is no copy
unfoldable pub no_copy : Option (ℕ → Content) → Answer → Option Answer
no_copy none a = some a
no_copy (some f) a = none

-- H6.18: the answer that shows what is there, with the rows of the list of totals: of a get its register, of a read its register in its worker's
-- copy, or nothing without one. H12.10: of a total the sum of its group's rows over that copy. H13.9: of a marked read its register in the copy
-- under its mark; of a mark `done` where there is no copy under it, of a release where there is one.
unfoldable pub shows : List ℕ → Plain → ℕ → Operation → Option Answer
shows rows p w (Put r x) = none
shows rows p w Open = none
shows rows p w (Read r) = in_copy (p.copy w) (λ f. answer_for (f r))
shows rows p w Close = none
shows rows p w (Get r) = some (answer_for (p.registers r))
shows rows p w Collect = none
shows rows p w (Total g) = in_copy (p.copy w) (λ f. signed (sum_over f (of_group g rows)))
shows rows p w (Mark m) = no_copy (p.kept m) Done
shows rows p w (Release m) = in_copy (p.kept m) (λ f. Done)
shows rows p w (MarkedRead r m) = in_copy (p.kept m) (λ f. answer_for (f r))

------------------------------------------------------------------------
-- H6.13: the order, a list of indices in the history: the calls by their effects along the list of records.

unfoldable pub is_unfinished : Ending → Bool
is_unfinished Unfinished = true
is_unfinished (RefusedAt i) = false
is_unfinished (FinishedAt i a) = false

-- the index of the call that worker w is performing; the history's length if there is none
unfoldable pub running_of : List Call → ℕ → ℕ
running_of [] w = 0
running_of (c ∷ h) w = cond (eqb c.worker w && is_unfinished c.ending) 0 (suc (running_of h w))

-- H6.14: as store s became store t, the version that covers the one in slot c was stamped: its low was set, and with it the high of the
-- version in c. (Only the stamp of the version directly above it sets a high.)
abbrev pub stamped_over : Store → Store → ℕ → Bool
stamped_over s t c = eqb (slot_at s c).high absent && not (eqb (slot_at t c).high absent)

-- as store s became store t, the clock passed the time a
abbrev pub passed : Store → Store → ℕ → Bool
passed s t a = leb s.clock a && ltb a t.clock

-- Of the effect that a worker's place waits for and its announced time: its put is stamped, or its open's time is passed. A put whose version is
-- unstamped stands before its second step; so does an open whose time is not passed.
abbrev pub comes : (ℕ → Bool) → (ℕ → Bool) → ℕ → Effect → Bool
comes stamped pass a NoEffect = false
comes stamped pass a (ByStamp c) = stamped c
comes stamped pass a ByClock = pass a

abbrev pub takes_effect : (ℕ → Bool) → (ℕ → Bool) → ℕ → Doing → Bool
takes_effect stamped pass a d = comes stamped pass a (about d).effect

-- the numbers below n that pass a test, lowest first
unfoldable pub filter_below : (ℕ → Bool) → ℕ → List ℕ
filter_below q zero = []
filter_below q (suc n) = filter_below q n ++ cond (q n) (n ∷ []) []

-- The puts and opens that take effect as store s becomes store t, whichever worker steps. H6.15: of several opens that one step passes the
-- lowest worker's comes first; their copies are equal.
abbrev pub change_effects : List Call → Store → Store → List ℕ
change_effects h s t =
    map (running_of h)
    (filter_below (λ v. takes_effect (stamped_over s t) (passed s t) (worker_at s v).announced (worker_at s v).doing) s.site.P)

-- H6.13: these take effect at their end
unfoldable pub at_end : Operation → Bool
at_end (Put r x) = false
at_end Open = false
at_end (Read r) = true
at_end Close = true
at_end (Get r) = true
at_end Collect = true
at_end (Total g) = true
at_end (Mark m) = true
at_end (Release m) = true
at_end (MarkedRead r m) = true

-- the answer finishes an operation: it ends it and is no refusal
abbrev pub is_none : Option ℕ → Bool
is_none none = true
is_none (some k) = false

abbrev pub finishes : Answer → Bool
finishes a = (said a).ends && is_none (said a).refusal

-- the call of worker w that a step answered a finishes, where it takes effect at its end
unfoldable pub end_effects : List Call → ℕ → Answer → List ℕ
end_effects h w a = cond (finishes a && at_end (call_at h (running_of h w)).operation) (running_of h w ∷ []) []

-- the effects of a step of worker w
unfoldable pub step_effects : List Call → ℕ → Hub → Answer → Hub → List ℕ
step_effects h w (blank row) a after = []
step_effects h w (up s) a (blank row) = []
step_effects h w (up s) a (up t) = change_effects h s t ++ end_effects h w a

-- the effects of a record, which finds the calls h: only a step has any
unfoldable pub effects : List Call → Decoded → Hub → Answer → Hub → List ℕ
effects h (Asks (SetUp z)) before a after = []
effects h (Asks (Begin w o)) before a after = []
effects h (Asks (Step w)) before a after = step_effects h w before a after
effects h (Refuses k) before a after = []

-- the order of the calls of a list of events, the first of which has number i, after the calls given
unfoldable pub order : ℕ → List Event → List Call → List ℕ
order i [] h = []
order i (e ∷ es) h =
    effects h (decode e.bytes) e.before e.answer e.after
    ++ order (i + 1) es (observe i (decode e.bytes) e.answer h)

------------------------------------------------------------------------
-- What is claimed of the order

-- how often i stands in the order
unfoldable pub occurrences : ℕ → List ℕ → ℕ
occurrences i [] = 0
occurrences i (j ∷ o) = cond (eqb j i) 1 0 + occurrences i o

-- each entry has it
abbrev pub All {ℓ} : {A : Type ℓ} → (A → Type 0) → List A → Type 0
All P [] = Unit {0}
All P (x ∷ l) = P x × All P l

-- H6.12: how often a call stands in the order: once if it finished, never if it was refused, at most once if it is unfinished. In `order` an
-- unfinished one stands just where it had its effect, so an open whose time another worker's step passed stands there before it ends.
abbrev pub Stands : Ending → ℕ → Type 0
Stands Unfinished n = n ≤ 1
Stands (RefusedAt i) n = n ≡ 0
Stands (FinishedAt i a) n = n ≡ 1

-- it ended before record k
abbrev pub EndsBefore : ℕ → Ending → Type 0
EndsBefore k Unfinished = ⊥
EndsBefore k (RefusedAt i) = i < k
EndsBefore k (FinishedAt i a) = i < k

-- H6.11: no call that stands later ended before an earlier one began
unfoldable pub Ordered : List Call → List ℕ → Type 0
Ordered h [] = Unit {0}
Ordered h (i ∷ o) = All (λ j. EndsBefore (call_at h i).begun (call_at h j).ending → ⊥) o × Ordered h o

-- it was finished before record k
abbrev pub FinishedBefore : ℕ → Ending → Type 0
FinishedBefore k Unfinished = ⊥
FinishedBefore k (RefusedAt i) = ⊥
FinishedBefore k (FinishedAt i a) = i < k

-- the first was finished, and later the second
abbrev pub FinishedBy : Ending → Ending → Type 0
FinishedBy e Unfinished = ⊥
FinishedBy e (RefusedAt i) = ⊥
FinishedBy e (FinishedAt i a) = FinishedBefore i e

-- H6.13: those that take effect at their end stand in the order of their ends
unfoldable pub ByEnds : List Call → List ℕ → Type 0
ByEnds h [] = Unit {0}
ByEnds h (i ∷ o) =
    All (λ j. at_end (call_at h i).operation ≡ true → at_end (call_at h j).operation ≡ true
    → FinishedBy (call_at h i).ending (call_at h j).ending) o
    × ByEnds h o

-- H6.19: what a finished operation answered is what is shown
abbrev pub AnswersWith : Ending → Option Answer → Type 0
AnswersWith Unfinished x = Unit {0}
AnswersWith (RefusedAt i) x = Unit {0}
AnswersWith (FinishedAt i a) x = x ≡ some a

-- the operations that show something
abbrev pub showing : Operation → Bool
showing (Put r x) = false
showing Open = false
showing (Read r) = true
showing Close = false
showing (Get r) = true
showing Collect = false
showing (Total g) = true
showing (Mark m) = true
showing (Release m) = true
showing (MarkedRead r m) = true

abbrev pub AgreesIf : Bool → Ending → Option Answer → Type 0
AgreesIf true e s = AnswersWith e s
AgreesIf false e s = Unit {0}

abbrev pub Agrees : Operation → Ending → Option Answer → Type 0
Agrees c e s = AgreesIf (showing c) e s

-- H6.17, H6.19: from plain registers p on, the calls along o are fed one by one, and each one that shows something is shown what it answered
unfoldable pub RegistersAgree : List ℕ → List Call → Plain → List ℕ → Type 0
RegistersAgree rows h p [] = Unit {0}
RegistersAgree rows h p (i ∷ o) =
    Agrees (call_at h i).operation (call_at h i).ending (shows rows p (call_at h i).worker (call_at h i).operation)
    × RegistersAgree rows h (feed p (call_at h i).worker (call_at h i).operation) o

-- o is an order of the calls h on a hub with these rows of totals, whose registers held `start` at first
pub record IsOrder (rows : List ℕ) (start : ℕ → Content) (h : List Call) (o : List ℕ) : Type 0 where
  -- it names calls of the history only,
  pub within : (i : ℕ) → length h ≤ i → occurrences i o ≡ 0
  -- each as often as its ending says,
  pub stands : (i : ℕ) → i < length h → Stands (call_at h i).ending (occurrences i o)
  -- each between its begin and its end,
  pub ordered : Ordered h o
  -- at its end, but for puts and opens,
  pub by_ends : ByEnds h o
  -- and plain registers show what was answered.
  pub registers_agree : RegistersAgree rows h (plain₀ start) o

------------------------------------------------------------------------
-- What is claimed of freeing

-- H6.21: where `freed S` is answered, no open snapshot's time, and no held mark's, needed the range of the version in S just before. H6.20: a
-- snapshot is open while its worker has an announced time.
abbrev pub FreesNothingNeeded : Hub → Answer → Type 0
FreesNothingNeeded (blank row) a = Unit {0}
FreesNothingNeeded (up s) a =
    (c : ℕ) → a ≡ Freed c
    → (v : ℕ) → v < holders s → held s v < absent
    → (slot_at s c).low ≤ held s v → held s v < (slot_at s c).high → ⊥

-- H5.7: a put's first step took slot c: it was the first free slot, and is then its register's newest version, with the put's value
abbrev pub TookIn : ℕ → ℕ → Hub → Answer → Hub → Type 0
TookIn c w (blank row) a after = ⊥
TookIn c w (up s) a (blank row) = ⊥
TookIn c w (up s) a (up t) =
    (a ≡ Going)
    × (r : ℕ) × (x : Reading) × ((worker_at s w).doing ≡ PutPublish r x)
    × (l : List ℕ) × (s.free ≡ c ∷ l)
    × (newest_of t r ≡ c) × ((slot_at t c).value ≡ some x)

abbrev pub TookBy : ℕ → Decoded → Hub → Answer → Hub → Type 0
TookBy c (Asks (SetUp z)) before a after = ⊥
TookBy c (Asks (Begin w o)) before a after = ⊥
TookBy c (Asks (Step w)) before a after = TookIn c w before a after
TookBy c (Refuses k) before a after = ⊥

abbrev pub Took : ℕ → Event → Type 0
Took c e = TookBy c (decode e.bytes) e.before e.answer e.after

-- what stands where a list has no event
abbrev pub event₀ : Event
event₀ = record { given = none_given; bytes = []; before = blank lent₀; answer = Ok; after = blank lent₀ }

-- H6.22: between two answers `freed S` for one slot, a put's first step took that slot
abbrev pub FreedOnce : List Event → Type 0
FreedOnce es =
    (c i j : ℕ) → i < j → j < length es
    → (get_or es i event₀).answer ≡ Freed c → (get_or es j event₀).answer ≡ Freed c
    → (k : ℕ) × (i < k) × (k < j) × Took c (get_or es k event₀)

------------------------------------------------------------------------
-- Demand 3

-- of events on a hub with these rows of totals, whose registers held `start` at first
pub record Demand3 (rows : List ℕ) (start : ℕ → Content) (es : List Event) : Type 0 where
  -- what ends an operation is a step taken
  pub steps_taken : StepsTaken 0 es []
  -- there is one order of the operations: this one
  pub is_order : IsOrder rows start (history 0 (map exchange es) []) (order 0 es [])
  pub frees_nothing_needed : All (λ e. FreesNothingNeeded e.before e.answer) es
  pub freed_once : FreedOnce es

-- H12.3: the rows of totals that a hub has
abbrev pub rows_in : Hub → List ℕ
rows_in (blank row) = []
rows_in (up s) = s.site.rows

-- H6.4: for every lent row, every setup record that is answered `ok`, and every list of records after it, whatever the rules of each.
abbrev pub Demand : Type 0
Demand =
    (row : Lent) (setup : Ruled) → (apply_ruled (blank row) setup).answer ≡ Ok
    → (records : List Ruled)
    → Demand3 (rows_in (apply_ruled (blank row) setup).hub) (start_of setup.rules.given) (events (apply_ruled (blank row) setup).hub records)
