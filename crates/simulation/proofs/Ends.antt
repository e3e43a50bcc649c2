-- What holds on any memory: a setup on memory that counts as set up gets 9, and a refusal changes nothing or, met at a step, sets one worker
-- idle. By cases on the decision and on the worker's place.
use Rattle.std.specs.Prelude.{Some, None}
use mathlib.Core.Path.{◌≡◌, refl, sym, ap, ◌∙◌}
use mathlib.Core.Bool.{Bool, true, false, cond, not}
use mathlib.Core.List.{List}
use Prim.Native.Nat.{ℕ, ◌-◌, ◌%◌, ◌<◌}
use native.Mathlib.Omega.{arith}
use lib.Dec.{ltb, leb, eqb}
use lib.ListN.{length, get_or, set}
use lib.Seq.{set-get_or}
use Rattle.model.specs.Store.{absent, last_clock, count_of}
use Rattle.model.specs.Record as Record
use Rattle.model.specs.Record.{Sizes, SetUp, Asks, command_of, unused_zero, decode}
use Rattle.model.specs.Demand.{occurrences}
use Rattle.model.specs.Refusals.{on_reading, at_step}
use Rattle.model.specs.Answer as Model-as-Answer
use Rattle.model.proofs.Basic.{cond_both}
use Rattle.values.specs.Meaning.{content_of, answer_of}
use Rattle.values.specs.declared.Answer.{Answer}
use Rattle.values.specs.declared.Answer.TheVariants.{Going, Value, Below, Done, No}
use Rattle.arrays.specs.Arrays.{short}
use Rattle.versions.specs.Versions.{slot_at_in, stamped_in}
use Rattle.worker.specs.Rep.{time_of}
use Rattle.worker.specs.Rep.{Announced}
use Rattle.model.specs.Rules.{Given, twelve_digits}
use Rattle.model.specs.Totals.{row_at, goes_on}
use Rattle.values.specs.Meaning.{Content}
use Rattle.worker.specs.declared.Purpose.{Purpose}
use Rattle.worker.specs.declared.Purpose.TheVariants.{Single, Marked, Totaling}
use Rattle.worker.specs.declared.Doing.{Doing}
use Rattle.worker.specs.declared.Doing.TheVariants.{Idle, PutPublish, PutStamp, PutHandIn, FlushTake, FlushRead, FlushFree}
use Rattle.worker.specs.declared.Doing.TheVariants.{OnTime, ReadEnter, ReadStand, GetShow}
use Rattle.worker.specs.declared.TimeStep.TheVariants.{OpenAnnounce, OpenPass, CloseWithdraw, MarkKeep, MarkRelease}
use Rattle.places.specs.About.{about_of}
use Rattle.worker.specs.declared.Pool.{Pool}
use Rattle.worker.specs.declared.Worker.{Worker}
use Rattle.marks.specs.declared.MarkNeed.{MarkNeed}
use Rattle.marks.specs.declared.MarkNeed.TheVariants.{Empty, Unread}
use Rattle.marks.specs.Marks.{read_as, read_by, refusal_in, time_in}
use Rattle.marks.proofs.Refused.{refusal-by}
use Rattle.state.specs.State.{nobody, worker_in, table_kept, with_workers_in, with_worker_in, with_reading_in, at_place}
use Rattle.gate.specs.Gate.{Decided}
use Rattle.gate.specs.declared.Gate.TheVariants.{Make, Start, Go}
use Rattle.std.specs.Prelude.{Ok as Grants, Err as Refuse}
use Rattle.gate.specs.Gate.{has_time}
use Rattle.gate.proofs.Tests.{begin-gate_by}
use Rattle.decision.specs.Decision.{setup_ok, gate_of}
use Rattle.announcing.specs.declared.Outcome.{Outcome}
use Rattle.worker.specs.declared.Sum.{Sum}
use Rattle.total_sums.specs.Sums.{sum_with}
use Rattle.step.specs.declared.Next.{Next}
use Rattle.step.specs.declared.Next.TheVariants.{Taken, Mark}
use Rattle.announcing.specs.Announcing.{outcome_of}
use Rattle.step.specs.Step.{Stepped, newest_at, still_at, need_of, read_or_split, free_or_done, step_of}
use Rattle.announcing.specs.Announcing.{open_announce_step, open_pass_step, close_withdraw_step}
use Rattle.step.specs.Step.{total_found_of, found_of, put_publish_step, put_stamp_step, read_enter_step, read_stand_step, get_show_step}
use Rattle.showing.specs.Shown.{answer_to, signed_of}
use Rattle.flush.specs.Flush.{handed_pool, put_hand_in_step}
use Rattle.simulation.specs.Memory.{Memory, with_hub, Result, answered}
use Rattle.simulation.specs.Shell.{rows_kept, marks_read, read_after, taken_in, handed_in, took_in, read_in, all_read_in, marked_in}
use Rattle.simulation.specs.Shell.{split_in, freed_in, next_in, finish_in, go_in}
use Rattle.simulation.specs.Shell.{obey_in, gate_in, done_as}
use Rattle.simulation.specs.Public.{idle_in, takes_step_in, idled_in, EndsBy, OnAny}
use Rattle.simulation.proofs.Gates.{gate_by}

------------------------------------------------------------------------
-- Memory that counts as set up

setup-nine : (up : Bool) (m : Memory) (given : Given) (b : List ℕ) → up ≡ true → (z : Sizes) → decode b ≡ Asks (SetUp z)
    → answer_of (done_as up m given b).answer ≡ Model-as-Answer.No 9
unfolding done_as gate_of obey_in
setup-nine up m given b e z d =
    let said : Record.Decoded → Bool → Model-as-Answer.Answer =
    λ r t. answer_of (obey_in m given (gate_by r (get_or b 1 0) t (length m.slots) given m.hub)).answer in
    λ i. said (d i) (e i)

------------------------------------------------------------------------
-- The refusals that are given on reading

-- one of their numbers
abbrev Numbered : ℕ → Type 0
Numbered k = 0 < occurrences k on_reading

-- the number with which a record is refused before it is a command
abbrev ReadNumbered : Record.Decoded → Type 0
ReadNumbered (Asks c) = Unit {0}
ReadNumbered (Record.Refuses k) = Numbered k

-- the number with which the gate refuses a record that reads as r, which takes no step then, and the worker that it lets step
abbrev GateNumbered : Record.Decoded → Bool → Memory → Decided → Type 0
GateNumbered r up m (Refuse k) = Numbered k × (takes_step_in up m r ≡ false)
GateNumbered r up m (Grants (Make x v n k)) = Unit {0}
GateNumbered r up m (Grants (Start w e)) = Unit {0}
GateNumbered r up m (Grants (Go w)) = (r ≡ Asks (Record.Step w)) × (up ≡ true) × (ltb w m.hub.site.p ≡ true)

-- 6, 1 and 2
read_numbered : (b : List ℕ) → ReadNumbered (decode b)
unfolding decode occurrences
read_numbered b =
    cond_both ReadNumbered (ltb (length b) 16) _ _ (λ e. omega arith)
    (λ e. cond_both ReadNumbered (ltb 11 (get_or b 0 0)) _ _ (λ f. omega arith)
    (λ f. cond_both ReadNumbered (unused_zero b (command_of b (get_or b 0 0))) _ _ (λ g. tt) (λ g. omega arith)))

-- 9 and 5 of a setup, 8, those of a begin, and 3 of a step
gate_numbered : (r : Record.Decoded) → ReadNumbered r → (up : Bool) (m : Memory) (v long : ℕ) (idle has : Bool) (list rows marks reading table : List ℕ)
    → GateNumbered r up m (gate_of r up m.hub.site.p v long idle has list rows marks reading table)
unfolding gate_of takes_step_in occurrences
gate_numbered (Record.Refuses k) n up m v long idle has list rows marks reading table = (n, refl)
gate_numbered (Asks (SetUp z)) n up m v long idle has list rows marks reading table =
    let N : Decided → Type 0 = GateNumbered (Asks (SetUp z)) up m in
    cond_both N up _ _ (λ e. (omega arith, refl))
    (λ e. cond_both N (setup_ok z.P z.V' z.N z.clock long list) _ _ (λ f. tt) (λ f. (omega arith, refl)))
gate_numbered (Asks (Record.Begin w o)) n up m v long idle has list rows marks reading table =
    let N : Decided → Type 0 = GateNumbered (Asks (Record.Begin w o)) up m in
    cond_both N up _ _ (λ e. begin-gate_by N m.hub.site.p v w o idle has rows marks reading table (λ k f. (f, refl)) (λ f. tt)) (λ e. (omega arith, refl))
gate_numbered (Asks (Record.Step w)) n up m v long idle has list rows marks reading table =
    let N : Decided → Type 0 = GateNumbered (Asks (Record.Step w)) up m in
    cond_both N up _ _
    (λ e. cond_both N (ltb w m.hub.site.p) _ _ (λ f. (refl, e, f)) (λ f. (omega arith, rw (e, f))))
    (λ e. (omega arith, rw e))

------------------------------------------------------------------------
-- A step of worker w

module _ (up : Bool) (m : Memory) (r : Record.Decoded) where
  -- what the record leaves and is answered ends well
  abbrev EndsWell : Answer → Memory → Type 0
  EndsWell y m' = EndsBy up m r (Model-as-Answer.said (answer_of y)).refusal m'

  abbrev Ends : Result → Type 0
  Ends z = EndsWell z.answer z.memory

  module _ (w : ℕ) (s : r ≡ Asks (Record.Step w)) (set-up : up ≡ true) (below : ltb w m.hub.site.p ≡ true) where
    abbrev x : Worker
    x = worker_in m.hub w

    abbrev StepEnds : Stepped → Type 0
    StepEnds z = Ends (finish_in m w x z)

    -- a step that leaves the row and the newest versions as they were
    abbrev NextEnds : Next → Type 0
    NextEnds z = Ends (next_in m w x z)

    abbrev StillEnds : Outcome → Type 0
    StillEnds o = NextEnds (Taken o)

    abbrev refusedAt : ℕ → Outcome
    refusedAt k = outcome_of Idle x.announced m.hub.clock m.hub.free (No k)

    -- a step is taken where the worker is not idle
    takes : (d : Doing) → x.doing ≡ d → takes_step_in up m r ≡ not (about_of d).idle
    unfolding takes_step_in
    takes d e = rw (s, set-up, below, e)

    -- what stands for it among what is read of marks stays, where it read none
    still-reading : read_by x.doing ≡ 0
        → with_hub m (with_reading_in (with_worker_in m.hub w (at_place x Idle)) (read_after m.hub w x Idle)) ≡ idle_in m w
    still-reading q =
        ap (λ (l : List ℕ). with_hub m (with_reading_in (with_worker_in m.hub w (at_place x Idle)) l))
        (ap (λ (k : ℕ). set m.hub.reading w (cond (eqb k 0) (get_or m.hub.reading w 0) 0)) q ∙ set-get_or m.hub.reading w 0)

    -- 11: the worker was idle, and its record is put back as it was
    idle-ends : x.doing ≡ Idle → StillEnds (refusedAt 11)
    unfolding next_in taken_in occurrences
    idle-ends e =
        let kept : idle_in m w ≡ m =
        ap (λ (d : Doing). with_hub m (with_workers_in m.hub (set m.hub.workers w (at_place x d)))) (sym e)
        ∙ ap (λ (l : List Worker). with_hub m (with_workers_in m.hub l)) (set-get_or m.hub.workers w nobody) in
        record {
          number = rw (takes Idle e) (omega arith);
          leaves = rw (takes Idle e) (still-reading (ap read_by e) ∙ kept);
        }

    -- 14, 15, 18, 19, 20 and 21 set the worker idle
    sets-idle : (k : ℕ) → takes_step_in up m r ≡ true → 0 < occurrences k at_step → read_by x.doing ≡ 0 → StillEnds (refusedAt k)
    unfolding next_in taken_in idled_in
    sets-idle k e n q = record { number = rw e n; leaves = rw (e, s) (still-reading q) }

    -- 19, 20 or 21, or what follows
    mark-ends : (y : MarkNeed) → takes_step_in up m r ≡ true → read_by x.doing ≡ 0 → (next : Next) → NextEnds next
        → NextEnds (cond (eqb (refusal_in y m.hub.marks (marks_read m.hub)) 0) next (Taken (refusedAt (refusal_in y m.hub.marks (marks_read m.hub)))))
    unfolding occurrences
    mark-ends y e q next a =
        refusal-by (λ k. NextEnds (cond (eqb k 0) next (Taken (refusedAt k)))) y m.hub.marks (marks_read m.hub) a
        (sets-idle 19 e (omega arith) q) (sets-idle 20 e (omega arith) q) (sets-idle 21 e (omega arith) q)

    -- put (3)
    hand-in-ends : (c : ℕ) → Ends (handed_in m w x c)
    unfolding handed_in put_hand_in_step
    hand-in-ends c =
        let q : Pool = handed_pool x.pool c (slot_at_in m.slots c) in
        cond_both (λ (y : Answer). EndsWell y (handed_in m w x c).memory) (eqb q.len m.hub.site.batch) Going Done (λ f. tt)
        (λ f. tt)

    -- flush (2) and (3)
    read-ends : (n k : ℕ) → NextEnds (read_or_split n k m.hub.site.p)
    unfolding next_in read_in all_read_in split_in
    read-ends n k = cond_both NextEnds (ltb k m.hub.site.p) _ _ (λ f. tt) (λ f. cond_both NextEnds (eqb k m.hub.site.p) _ _ (λ g. tt) (λ g. tt))

    -- flush (4) and (5)
    free-ends : (n : ℕ) → NextEnds (free_or_done n x.announced m.hub.clock m.hub.free)
    unfolding next_in taken_in freed_in
    free-ends n = cond_both NextEnds (eqb n 0) _ _ (λ f. tt) (λ f. tt)

    -- open (2)
    pass-ends : (t : Announced) → StillEnds (open_pass_step t m.hub.clock m.hub.free)
    unfolding next_in taken_in open_pass_step
    pass-ends None = tt
    pass-ends (Some t) = tt

    -- what a total answers
    signed-ends : (y : Sum) → StillEnds (outcome_of Idle x.announced m.hub.clock m.hub.free (signed_of y))
    unfolding next_in taken_in
    signed-ends y =
        cond_both (λ (a : Answer). StillEnds (outcome_of Idle x.announced m.hub.clock m.hub.free a)) (leb y.minus y.plus)
        (Value (record { count = y.plus - y.minus; status = y.status })) (Below (record { count = y.minus - y.plus; status = y.status }))
        (λ q. tt) (λ q. tt)

    -- what a get or a read answers
    shown-ends : (v : Content) (m' : Memory) → EndsWell (answer_to v) m'
    shown-ends None m' = tt
    shown-ends (Some v) m' = tt

    -- read (2) where the version is found; 18
    found-ends : takes_step_in up m r ≡ true → (y : Purpose) (v : Content) → read_by x.doing ≡ read_as y
        → StillEnds (found_of y v x.announced m.hub.clock m.hub.free (rows_kept m.hub))
    unfolding next_in taken_in total_found_of occurrences
    found-ends e Single v q = shown-ends v _
    found-ends e (Marked i) v q = shown-ends v _
    found-ends e (Totaling g i k plus minus) v q =
        cond_both StillEnds (leb (count_of (content_of v)) twelve_digits) _ _
        (λ f. cond_both StillEnds (goes_on (rows_kept m.hub) g i) _ _ (λ n. tt) (λ n. signed-ends (sum_with (record { plus = plus; minus = minus; status = k }) (row_at (rows_kept m.hub) i) v)))
        (λ f. sets-idle 18 e (omega arith) q)

    -- by the worker's place
    step-ends : (d : Doing) → x.doing ≡ d → Ends (go_in m w x d)
    unfolding go_in next_in taken_in took_in marked_in step_of put_publish_step put_stamp_step open_announce_step read_enter_step read_stand_step get_show_step close_withdraw_step occurrences
    step-ends Idle e = idle-ends e
    step-ends (PutPublish i v) e =
        cond_both StepEnds (eqb m.hub.free 0) _ _ (λ f. sets-idle 14 (takes (PutPublish i v) e) (omega arith) (ap read_by e)) (λ f. tt)
    step-ends (PutStamp i v) e = tt
    step-ends (PutHandIn i v) e = hand-in-ends v
    step-ends FlushTake e = tt
    step-ends (FlushRead n k) e = read-ends n k
    step-ends (FlushFree n) e = free-ends n
    step-ends (OnTime OpenAnnounce) e =
        cond_both StillEnds (eqb m.hub.clock last_clock) _ _ (λ f. sets-idle 15 (takes (OnTime OpenAnnounce) e) (omega arith) (ap read_by e)) (λ f. tt)
    step-ends (OnTime OpenPass) e = pass-ends x.announced
    step-ends (OnTime CloseWithdraw) e = tt
    step-ends (OnTime (MarkKeep i)) e = mark-ends (Empty i) (takes (OnTime (MarkKeep i)) e) (ap read_by e) (Mark i (time_of x.announced)) tt
    step-ends (OnTime (MarkRelease i)) e = mark-ends (Unread i) (takes (OnTime (MarkRelease i)) e) (ap read_by e) (Mark i absent) tt
    step-ends (ReadEnter i) e =
        let entered : Stepped = record {
          next = Taken (outcome_of (ReadStand i (short (newest_at m.newest i.register))) x.announced m.hub.clock m.hub.free Going);
          row = stamped_in m.slots (newest_at m.newest i.register) m.hub.clock;
          newest = m.newest;
        } in
        refusal-by (λ k. StepEnds (cond (eqb k 0) entered (still_at (refusedAt k) m.slots m.newest))) (need_of i.purpose) m.hub.marks
        (marks_read m.hub) tt
        (sets-idle 19 (takes (ReadEnter i) e) (omega arith) (ap read_by e))
        (sets-idle 20 (takes (ReadEnter i) e) (omega arith) (ap read_by e))
        (sets-idle 21 (takes (ReadEnter i) e) (omega arith) (ap read_by e))
    step-ends (ReadStand i v) e =
        cond_both StillEnds (leb (slot_at_in m.slots v).low (time_in i.purpose x.announced m.hub.marks)) _ _
        (λ f. found-ends (takes (ReadStand i v) e) i.purpose (slot_at_in m.slots v).value (ap read_by e)) (λ f. tt)
    step-ends (GetShow i) e = shown-ends (slot_at_in m.slots (newest_at m.newest i)).value _

------------------------------------------------------------------------
-- A record

module _ (up : Bool) (m : Memory) (given : Given) where
  -- by the decision
  gate_ends : (r : Record.Decoded) (g : Decided) → GateNumbered r up m g → Ends up m r (obey_in m given g)
  unfolding obey_in
  gate_ends r (Refuse k) n = record { number = rw n.1 n.0; leaves = rw n.1 }
  gate_ends r (Grants (Make p v k t)) n = tt
  gate_ends r (Grants (Start w f)) n = tt
  gate_ends r (Grants (Go w)) n = step-ends up m r w n.0 n.1 n.2 (worker_in m.hub w).doing refl

  module _ (b : List ℕ) where
    ends-well : Ends up m (decode b) (done_as up m given b)
    unfolding done_as
    ends-well =
        let x : Worker = worker_in m.hub (get_or b 1 0 % 16) in
        gate_ends (decode b) (gate_in up m given b)
        (gate_numbered (decode b) (read_numbered b) up m m.hub.site.v (length m.slots) (about_of x.doing).idle (has_time x.announced) given.totals (rows_kept m.hub)
        m.hub.marks (marks_read m.hub) (table_kept m.hub))

    -- a record that is refused before it is a command
    refused-read : (k : ℕ) → decode b ≡ Record.Refuses k → done_as up m given b ≡ answered m (No k)
    unfolding done_as gate_of obey_in
    refused-read k e = ap (λ (r : Record.Decoded). obey_in m given (gate_by r (get_or b 1 0) up (length m.slots) given m.hub)) e

    pub on-any : OnAny up m b (done_as up m given b).answer (done_as up m given b).memory
    on-any =
        record {
          ends = ends-well;
          reading = λ k e.
              (ap (λ (r : Result). answer_of r.answer) (refused-read k e), ap (λ (r : Result). r.memory) (refused-read k e));
          nine = setup-nine up m given b;
        }
