-- The loop over the records: what holds before each, and that each arm keeps it. A turn with what the loop then does is what the definition says of
-- the record (Acts.antt).
use Rattle.std.specs.Prelude.{◌≡◌, ℕ, ◌+◌, ◌*◌, ◌%◌, ◌<◌, ◌≤◌, Bool, true, false, ◌||◌, Some, None, List, [], map, length, get_or, set, replicate}
use mathlib.Core.Path.{refl, sym, ap, ◌∙◌, subst}
use mathlib.Core.Bool.{true≢false}
use native.Mathlib.Omega.{arith}
use native.Mathlib.Numerals.{add-one}
use lib.ListN.{length-set}
use Rattle.model.specs.Rules.{Given}
use Rattle.model.specs.Record as Model
use Rattle.values.specs.declared.Answer.{Answer}
use Rattle.values.specs.declared.Window.{Window}
use Rattle.answers.specs.Numbers.{kind_of, number_of}
use Rattle.worker.specs.declared.Doing.TheVariants.{FlushFree}
use Rattle.worker.specs.declared.Pool.{Pool}
use Rattle.worker.specs.declared.Worker.{Worker}
use Rattle.worker.specs.Rep.{time_of, pool_rep}
use Rattle.worker.proofs.Rep.{padded-nil}
use Rattle.places.specs.About.{about_of}
use Rattle.queue.specs.State.{pools_in}
use Rattle.state.specs.State.{nobody, at_place}
use Rattle.gate.specs.Gate.{Decided}
use Rattle.gate.specs.declared.Gate.TheVariants.{Make, Start, Go}
use Rattle.std.specs.Prelude.{Ok as Grants, Err as Refuse}
use Rattle.gate.specs.Gate.{has_time}
use Rattle.decision.proofs.Named.{Named, named, decode-names}
use Rattle.splitting.specs.Splitting.{split_left, split_queue, split_merged}
use Rattle.turns.specs.declared.Arm.{Arm}
use Rattle.turns.specs.declared.Arm.TheVariants.{Reads, Makes, HandsIn, Splits, Moves}
use Rattle.turns.specs.declared.Fixed.{Fixed}
use Rattle.turns.specs.declared.Turn.{Turn}
use Rattle.turns.specs.Parts.{Parts}
use Rattle.turns.specs.Turns.{Turned, turn_by, decided_in, turn_of}
use Rattle.simulation.specs.Memory.{Memory}
use Rattle.simulation.specs.Shell.{off_worker, done_as}
use Rattle.simulation.specs.Records.{record_at}
use Rattle.simulation.specs.Loop.{State, next, after}
use Rattle.hub_core.specs.Stretch.{site_of, memory_of, state_with, Went}
use Rattle.hub_core.proofs.Acts.{timed, with_split, handed_worker, split_worker, acted, is_makes, result_of, Names, obeys, turn_said, turn_makes}
use Rattle.hub_core.proofs.Tested.{sizes_few}

pub or_false : (t : Bool) → (t || false) ≡ t
or_false true = refl
or_false false = refl

or_true : (t : Bool) → (t || true) ≡ true
or_true true = refl
or_true false = refl

-- the constant for the empty pool
abbrev empty_pool : Pool
empty_pool = record { slots = replicate 64 0; lows = replicate 64 0; highs = replicate 64 0; len = 0 }

empty-pool : pool_rep [] ≡ empty_pool
empty-pool i = record { slots = padded-nil 64 i; lows = padded-nil 64 i; highs = padded-nil 64 i; len = 0 }

-- a worker whose pool is that constant
abbrev pub emptied_worker : Worker → ℕ → Worker
emptied_worker x n = record { doing = FlushFree n; announced = x.announced; pool = empty_pool }

empty-is : (x : Worker) (n : ℕ) → split_worker x n ≡ emptied_worker x n
empty-is x n i = record { doing = FlushFree n; announced = x.announced; pool = empty-pool i }

------------------------------------------------------------------------
-- One record

-- record k of the bytes b; what is lent is f, the list, the rows and the rights; the workers' records are ws and the parts a
module _ (f : Fixed) (few : f.up ≡ true → f.p ≤ 16) (list rows rights : List ℕ) (given : Given) (lent : given.totals ≡ list) (b : List ℕ) (ws : List Worker)
    (a : Parts) where
  -- byte 1 modulo sixteen
  abbrev w : ℕ
  w = get_or b 1 0 % 16

  abbrev x : Worker
  x = get_or ws w nobody

  abbrev g : Decided
  g = decided_in f x.doing x.announced given.totals rows rights b a

  abbrev r : Turned
  r = turn_by f w x.doing x.announced x.pool.len rows a g

  who : Named f.up (get_or b 1 0) f.p (length a.slots) g
  who =
      named (Model.decode b) (get_or b 1 0) (decode-names b) f.up f.p f.v (length a.slots) (about_of x.doing).idle
      (has_time x.announced) given.totals _ a.running.marks _ _

  module _ (n k : ℕ) (kinds numbers : List ℕ) (last : Answer) where
    abbrev m : Memory
    m = memory_of (site_of f n rows rights) ws a

    abbrev T : State
    T = state_with f.up m kinds numbers last

    -- the decision says who
    names : (g : Decided) → Named f.up (get_or b 1 0) f.p (length a.slots) g → Names f n rows rights ws w given g
    names (Refuse k) h = tt
    names (Grants (Make p v m k)) h = tt
    names (Grants (Start v d)) (u, e, h) = let l = few u in e ∙ omega arith
    names (Grants (Go v)) (u, e, h) = let l = few u in (e ∙ omega arith, l)

    done : done_as f.up m given b ≡ result_of f n rows rights ws w given r
    unfolding done_as
    done = obeys f n rows rights ws w given a g (names g who)

    -- the state after the record
    abbrev pub stateAfter : Turned → State
    stateAfter r =
        state_with (f.up || is_makes r.turn.arm) (acted r.turn.arm (site_of f n rows rights) ws w r.turn r.parts given)
        (set kinds k r.turn.said.kind) (set numbers k r.turn.said.number) r.turn.said.answer

    next-is : next T given k b ≡ stateAfter r
    unfolding next
    next-is =
        let z = r.turn.said in
        let s = turn_said f n rows rights ws w given a g in
        (λ i. state_with (f.up || turn_makes f n rows rights ws w given a g i) (done i).memory
        (set kinds k (kind_of (done i).answer)) (set numbers k (number_of (done i).answer)) (done i).answer)
        ∙ (λ i. state_with (f.up || is_makes r.turn.arm) (acted r.turn.arm (site_of f n rows rights) ws w r.turn r.parts given)
        (set kinds k (sym s.0 i)) (set numbers k (sym s.1 i)) z.answer)

    pub turn-taken : (z : Turned) → z ≡ r → next T given k b ≡ stateAfter z
    turn-taken z e = next-is ∙ ap stateAfter (sym e)

  -- a setup that is accepted has at most sixteen workers
  made_few : (g : Decided) → Named f.up (get_or b 1 0) f.p (length a.slots) g
      → is_makes (turn_by f w x.doing x.announced x.pool.len rows a g).turn.arm ≡ true
      → (turn_by f w x.doing x.announced x.pool.len rows a g).turn.sizes.p ≤ 16
  unfolding turn_by
  made_few (Refuse k) h e = absurd (true≢false (sym e))
  made_few (Grants (Make p v m k)) h e = (sizes_few p v m k (length a.slots) h.1).0
  made_few (Grants (Start v d)) h e = absurd (true≢false (sym e))
  made_few (Grants (Go v)) h e = absurd (true≢false (sym e ∙ sym (turn_makes f 0 rows rights ws w given a (Grants (Go v)))))

  pub few_made : (z : Turned) → z ≡ r → z.turn.arm ≡ Makes → z.turn.sizes.p ≤ 16
  few_made z e m =
      subst (λ (y : Turned). y.turn.sizes.p ≤ 16) (sym e) (made_few g who (sym (ap (λ (y : Turned). is_makes y.turn.arm) e) ∙ ap is_makes m))

------------------------------------------------------------------------
-- The records so far

-- those before k, from `from` on, met the state s and left the state t; both are known but for how many slots the setup has
pub record SoFar (given : Given) (bytes : List ℕ) (from count k : ℕ) (s t : ℕ → State) : Type 0 where
  pub inside : k ≤ count
  pub onward : from ≤ k
  pub state : (S : State) (n : ℕ) → s n ≡ after S given bytes from → t n ≡ after S given bytes k

-- one record more
one_more_lem : {given : Given} {bytes : List ℕ} {from count k : ℕ} {s t : ℕ → State} (t' : ℕ → State) → SoFar given bytes from count k s t → k < count
    → ((n : ℕ) → next (t n) given k (record_at bytes k) ≡ t' n) → SoFar given bytes from count (k + 1) s t'
unfolding after
one_more_lem {given = given} {bytes = bytes} {k = k} t' R more e =
    record {
      inside = omega arith;
      onward = let h = R.onward in omega arith;
      state = λ S n h. rw (add-one k) (sym (e n) ∙ ap (λ (y : State). next y given k (record_at bytes k)) (R.state S n h));
    }

-- Record k is one of worker v, and its turn left t and the parts a'; the answer is written.
module _ {given : Given} {bytes : List ℕ} {from count k : ℕ} {s : ℕ → State} (f : Fixed) (few : f.up ≡ true → f.p ≤ 16) (list rows rights : List ℕ)
    (lent : given.totals ≡ list) (ws : List Worker) (a : Parts) (kinds numbers : List ℕ) (last : Answer)
    (R : SoFar given bytes from count k s (λ n. state_with f.up (memory_of (site_of f n rows rights) ws a) kinds numbers last)) (more : k < count)
    (b : List ℕ) (cut : b ≡ record_at bytes k) (v : ℕ) (named : v ≡ get_or b 1 0 % 16) (t : Turn) (a' : Parts)
    (turned : record { turn = t; parts = a' }
    ≡ turn_of f (v % 16) (get_or ws v nobody).doing (get_or ws v nobody).announced (get_or ws v nobody).pool.len list rows rights b a)
    (kinds' numbers' : List ℕ) (last' : Answer)
    (wrote : (last' ≡ t.said.answer) × ((kinds' ≡ set kinds k t.said.kind) × (numbers' ≡ set numbers k t.said.number))) where
  -- the same of the record as the definition cuts it
  abbrev c : List ℕ
  c = record_at bytes k

  abbrev u : ℕ
  u = get_or c 1 0 % 16

  who_is : v ≡ u
  who_is = named ∙ ap (λ (l : List ℕ). get_or l 1 0 % 16) cut

  turned_is : record { turn = t; parts = a' } ≡ r f few list rows rights given lent c ws a
  unfolding turn_of
  turned_is =
      let d : u % 16 ≡ u = omega arith in
      turned
      ∙ (λ i. turn_of f (who_is i % 16) (get_or ws (who_is i) nobody).doing (get_or ws (who_is i) nobody).announced (get_or ws (who_is i) nobody).pool.len
      (sym lent i) rows rights (cut i) a)
      ∙ ap (λ (j : ℕ). turn_of f j (get_or ws u nobody).doing (get_or ws u nobody).announced (get_or ws u nobody).pool.len given.totals rows rights c a) d

  abbrev left : Arm → Bool → ℕ → ℕ → State
  left arm up v n = state_with up (acted arm (site_of f n rows rights) ws v t a' given) kinds' numbers' last'

  by_arm : (arm : Arm) (up : Bool) → t.arm ≡ arm → (f.up || is_makes arm) ≡ up
      → (n : ℕ) → next (state_with f.up (memory_of (site_of f n rows rights) ws a) kinds numbers last) given k c ≡ left arm up v n
  by_arm arm up e eu n =
      turn-taken f few list rows rights given lent c ws a n k kinds numbers last _ turned_is
      ∙ (λ i. state_with (f.up || is_makes (e i)) (acted (e i) (site_of f n rows rights) ws u t a' given) (sym wrote.1.0 i) (sym wrote.1.1 i)
      (sym wrote.0 i))
      ∙ (λ i. left arm (eu i) (sym who_is i) n)

  -- the loop goes on
  pub on_arm : (arm : Arm) → is_makes arm ≡ false → t.arm ≡ arm → SoFar given bytes from count (k + 1) s (left arm f.up v)
  on_arm arm not e =
      one_more_lem (left arm f.up v) R more (by_arm arm f.up e (ap (λ (y : Bool). f.up || y) not ∙ or_false f.up))

  -- and ends before a setup
  pub on_makes : t.arm ≡ Makes
      → Went given bytes from count (k + 1) (Some t.sizes) s (λ n. state_with f.up (memory_of (site_of f n rows rights) ws a') kinds' numbers' last')
  on_makes e =
      let M = one_more_lem (left Makes true v) R more (by_arm Makes true e (or_true f.up)) in
      record {
        inside = M.inside;
        onward = λ h. let i = R.onward in omega arith;
        few = few_made f few list rows rights given lent c ws a _ turned_is e;
        state = M.state;
      }

  -- what the loop leaves
  abbrev Leaves : List Worker → Parts → Type 0
  Leaves ws' p = SoFar given bytes from count (k + 1) s (λ n. state_with f.up (memory_of (site_of f n rows rights) ws' p) kinds' numbers' last')

  -- flush (2): the time of worker j is read
  pub on_reads : (i j : ℕ) (times : List ℕ) → t.arm ≡ Reads → i ≡ t.read → j ≡ i % 16
      → times ≡ set a'.running.times (28 * v + j) (time_of (get_or ws j nobody).announced)
      → Leaves (set ws v (at_place (get_or ws v nobody) t.doing)) (timed a' times)
  on_reads i j times e ei ej et =
      let q : j ≡ t.read % 16 = ej ∙ ap (λ (l : ℕ). l % 16) ei in
      let all : times ≡ set a'.running.times (28 * v + t.read % 16) (time_of (get_or ws (t.read % 16) nobody).announced) =
      et ∙ ap (λ (l : ℕ). set a'.running.times (28 * v + l) (time_of (get_or ws l nobody).announced)) q in
      subst (λ (l : List ℕ). Leaves (set ws v (at_place (get_or ws v nobody) t.doing)) (timed a' l)) (sym all) (on_arm Reads refl e)

  -- put (3)
  pub on_hands_in : (y : Worker) → t.arm ≡ HandsIn → y ≡ handed_worker (get_or ws v nobody) t → Leaves (set ws v y) a'
  on_hands_in y e ey = subst (λ (z : Worker). Leaves (set ws v z) a') (sym ey) (on_arm HandsIn refl e)

  -- flush (4), once the reads of all workers are moved
  pub on_moves : (ws' : List Worker) → t.arm ≡ Moves
      → ws' ≡ map (off_worker t.slot t.older) (set ws v (at_place (get_or ws v nobody) t.doing)) → Leaves ws' a'
  on_moves ws' e ew = subst (λ (z : List Worker). Leaves z a') (sym ew) (on_arm Moves refl e)

  -- flush (3)
  pub on_splits : (j n : ℕ) (window : Window) (queue lens merged : List ℕ) → t.arm ≡ Splits → j ≡ t.read
      → n ≡ split_left a'.lent.merged v t.merged a'.running.times j (get_or ws v nobody).pool
      → pools_in queue lens window
      ≡ split_queue (pools_in a'.lent.queue a'.lent.lens a'.running.window) a'.lent.merged v t.merged a'.running.times j f.batch (get_or ws v nobody).pool
      → merged ≡ split_merged a'.lent.merged v t.merged a'.running.times j (get_or ws v nobody).pool
      → Leaves (set ws v (emptied_worker (get_or ws v nobody) n)) (with_split a' (pools_in queue lens window) merged)
  on_splits j n window queue lens merged e ej en eq em =
      let y = get_or ws v nobody in
      let y₀ : emptied_worker y n ≡ split_worker y (split_left a'.lent.merged v t.merged a'.running.times t.read y.pool) =
      sym (empty-is y n) ∙ ap (split_worker y) (en ∙ ap (λ (l : ℕ). split_left a'.lent.merged v t.merged a'.running.times l y.pool) ej) in
      let q₀ : pools_in queue lens window
      ≡ split_queue (pools_in a'.lent.queue a'.lent.lens a'.running.window) a'.lent.merged v t.merged a'.running.times t.read f.batch y.pool =
      eq ∙ ap (λ (l : ℕ). split_queue (pools_in a'.lent.queue a'.lent.lens a'.running.window) a'.lent.merged v t.merged a'.running.times l f.batch y.pool) ej in
      let d₀ : merged ≡ split_merged a'.lent.merged v t.merged a'.running.times t.read y.pool =
      em ∙ ap (λ (l : ℕ). split_merged a'.lent.merged v t.merged a'.running.times l y.pool) ej in
      subst (λ (z : Worker). Leaves (set ws v z) (with_split a' (pools_in queue lens window) merged)) (sym y₀)
      (subst (λ (p : Parts). Leaves (set ws v (split_worker y (split_left a'.lent.merged v t.merged a'.running.times t.read y.pool))) p)
      (λ l. with_split a' (sym q₀ l) (sym d₀ l)) (on_arm Splits refl e))

-- before the first record, and behind the last
pub begun : {given : Given} {bytes : List ℕ} {from count : ℕ} {s : ℕ → State} → from ≤ count → SoFar given bytes from count from s s
begun h = record { inside = h; onward = omega arith; state = λ S n e. e }

pub ended : {given : Given} {bytes : List ℕ} {from count k : ℕ} {s t : ℕ → State} → SoFar given bytes from count k s t → count ≤ k
    → Went given bytes from count count None s t
ended {given = given} {bytes = bytes} {count = count} {k = k} R h =
    let i = R.inside in
    let all : k ≡ count = omega arith in
    record {
      inside = omega arith;
      onward = λ e. e;
      few = tt;
      state = λ S n e. R.state S n e ∙ ap (after S given bytes) all;
    }

-- a row of answers and the workers keep their number
pub kept_long : (l : List ℕ) (k x : ℕ) {l' : List ℕ} {n : ℕ} → l' ≡ set l k x → length l ≡ n → length l' ≡ n
kept_long l k x e h = ap length e ∙ length-set l k x ∙ h

pub replaced : (ws : List Worker) (v : ℕ) (y : Worker) {n : ℕ} → length ws ≡ n → length (set ws v y) ≡ n
replaced ws v y h = length-set ws v y ∙ h
