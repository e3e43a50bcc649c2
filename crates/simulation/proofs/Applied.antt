-- What the loop leaves of a buffer is what the contract of the public functions says: the answers in the two rows, each record on any memory, and
-- on memory that holds a hub what the model does.
use mathlib.Core.Path.{◌≡◌, refl, sym, ap, ◌∙◌, subst}
use mathlib.Core.Bool.{Bool, ◌||◌}
use mathlib.Core.List.{List, map}
use Prim.Native.Nat.{ℕ, zero, suc, ◌+◌, ◌%◌, ◌<◌}
use native.Mathlib.Omega.{arith}
use native.Mathlib.Numerals.{add-one}
use lib.Dec.{ltb}
use lib.ListN.{length, get_or, set}
use Rattle.model.specs.Rules.{Given}
use Rattle.lists.specs.Over.{over}
use Rattle.lists.proofs.Over.{get_d_over_in}
use Rattle.model.specs.Store.{Hub, up_from}
use Rattle.model.specs.Answer.{said}
use Rattle.model.specs.Record as Record
use Rattle.model.specs.Record.{SetUp, Asks, decode}
use Rattle.model.specs.Demand.{Exchange}
use Rattle.model.proofs.Basic.{cond_both}
use Rattle.values.specs.Meaning.{answer_of}
use Rattle.values.specs.declared.Answer.{Answer}
use Rattle.answers.specs.Numbers.{kind_of, number_of, answer_from}
use Rattle.worker.specs.declared.Worker.{Worker}
use Rattle.places.specs.About.{about_of}
use Rattle.state.specs.State.{worker_in, table_kept}
use Rattle.arrays.specs.Arrays.{fill_to}
use Rattle.gate.specs.Gate.{Decided}
use Rattle.gate.specs.Gate.{has_time}
use Rattle.gate.proofs.Tests.{begin-gate_by}
use Rattle.decision.specs.Decision.{setup_ok, gate_of}
use Rattle.simulation.specs.Memory.{Memory}
use Rattle.simulation.specs.Left.{Sized}
use Rattle.simulation.specs.Shell.{rows_kept, marks_read, obey_in, gate_in, done_as}
use Rattle.simulation.specs.Holds.{Holds, AsModel}
use Rattle.simulation.specs.Public.{OnAny, exchange_of}
use Rattle.simulation.specs.Records.{record_at}
use Rattle.simulation.specs.Loop.{makes, State, next, after, before, RanAll}
use Rattle.simulation.specs.Buffer.{answer_at, exchange_at, sets_up, EachOnAny, Applies}
use Rattle.simulation.proofs.Bytes.{Bytes}
use Rattle.simulation.proofs.Below.{map-map, map-long, same_below, at_below, fill_over}
use Rattle.simulation.proofs.Again.{one_answer}
use Rattle.simulation.proofs.Ends.{on-any}
use Rattle.simulation.proofs.Ranged.{comes_back}
use Rattle.simulation.proofs.Assembly.{StepsSimulate}
use Rattle.simulation.proofs.OneByOne.{state_at, answer_to, exchanged_at, hub_to, so_far, does_each}

------------------------------------------------------------------------
-- The two rows

module _ (m : Memory) (given : Given) (bytes kinds numbers : List ℕ) where
  abbrev run : ℕ → State
  run k = after (before m kinds numbers) given bytes k

  -- what stands in the rows makes no difference to the records
  rows_apart : (k : ℕ) → ((run k).up ≡ (state_at m given bytes k).up) × ((run k).memory ≡ (state_at m given bytes k).memory)
  unfolding after next
  rows_apart zero = (refl, refl)
  rows_apart (suc k) =
      let s = rows_apart k in
      let b = record_at bytes k in
      (λ i. s.0 i || makes (gate_in (s.0 i) (s.1 i) given b), λ i. (done_as (s.0 i) (s.1 i) given b).memory)

  answers-apart : (k : ℕ) → (run (suc k)).last ≡ answer_to m given bytes k
  unfolding after next
  answers-apart k =
      let s = rows_apart k in
      λ i. (done_as (s.0 i) (s.1 i) given (record_at bytes k)).answer

  kinds_filled : (n : ℕ) → (run n).kinds ≡ fill_to kinds (λ k. kind_of (answer_to m given bytes k)) n
  unfolding after next fill_to
  kinds_filled zero = refl
  kinds_filled (suc n) = λ i. set (kinds_filled n i) n (kind_of (answers-apart n i))

  numbers_filled : (n : ℕ) → (run n).numbers ≡ fill_to numbers (λ k. number_of (answer_to m given bytes k)) n
  unfolding after next fill_to
  numbers_filled zero = refl
  numbers_filled (suc n) = λ i. set (numbers_filled n i) n (number_of (answers-apart n i))

------------------------------------------------------------------------
-- Each record on any memory

-- the decision sets up just where a setup is answered `ok`
module _ (m : Memory) (given : Given) where
  abbrev SetsUp : Record.Decoded → Decided → Type 0
  SetsUp r g = makes g ≡ sets_up r (said (answer_of (obey_in m given g).answer)).ok

  gate_sets_up : (r : Record.Decoded) (up : Bool) (p v long : ℕ) (idle has : Bool) (rows marks reading table : List ℕ)
      → SetsUp r (gate_of r up p v long idle has given.totals rows marks reading table)
  unfolding gate_of sets_up obey_in
  gate_sets_up (Record.Refuses k) up p v long idle has rows marks reading table = refl
  gate_sets_up (Asks (SetUp z)) up p v long idle has rows marks reading table =
      let N : Decided → Type 0 = SetsUp (Asks (SetUp z)) in
      cond_both N up _ _ (λ e. refl) (λ e. cond_both N (setup_ok z.P z.V' z.N z.clock long given.totals) _ _ (λ e. refl) (λ e. refl))
  gate_sets_up (Asks (Record.Begin w o)) up p v long idle has rows marks reading table =
      let N : Decided → Type 0 = SetsUp (Asks (Record.Begin w o)) in
      cond_both N up _ _ (λ e. begin-gate_by N p v w o idle has rows marks reading table (λ k f. refl) (λ f. refl)) (λ e. refl)
  gate_sets_up (Asks (Record.Step w)) up p v long idle has rows marks reading table =
      let N : Decided → Type 0 = SetsUp (Asks (Record.Step w)) in
      cond_both N up _ _ (λ e. cond_both N (ltb w p) _ _ (λ e. refl) (λ e. refl)) (λ e. refl)

module _ (m : Memory) (given : Given) (bytes : List ℕ) where
  flag_is : (k : ℕ)
      → (state_at m given bytes (suc k)).up ≡ ((state_at m given bytes k).up || sets_up (decode (record_at bytes k)) (said (answer_of (answer_to m given bytes k))).ok)
  unfolding after next done_as
  flag_is k =
      let s : State = state_at m given bytes k in
      let x : Memory = s.memory in
      let w : Worker = worker_in x.hub (get_or (record_at bytes k) 1 0 % 16) in
      ap (λ (t : Bool). s.up || t)
      (gate_sets_up x given (decode (record_at bytes k)) s.up x.hub.site.p x.hub.site.v (length x.slots) (about_of w.doing).idle (has_time w.announced)
      (rows_kept x.hub) x.hub.marks (marks_read x.hub) (table_kept x.hub))

  any_at : (k : ℕ)
      → OnAny (state_at m given bytes k).up (state_at m given bytes k).memory (record_at bytes k) (answer_to m given bytes k) (state_at m given bytes (suc k)).memory
  unfolding after next
  any_at k = on-any (state_at m given bytes k).up (state_at m given bytes k).memory given (record_at bytes k)

  each_from : (n k c : ℕ) → c ≡ k + n
      → EachOnAny (state_at m given bytes k).up (state_at m given bytes k).memory (map (record_at bytes) (up_from k n)) (map (answer_to m given bytes) (up_from k n))
      (state_at m given bytes c).memory
  unfolding EachOnAny up_from
  each_from zero k c e =
      let same : c ≡ k = omega (arith, e) in
      ap (λ (j : ℕ). (state_at m given bytes j).memory) same
  each_from (suc n) k c e = (
    (state_at m given bytes (suc k)).memory,
    any_at k,
    subst (λ (t : Bool). EachOnAny t (state_at m given bytes (suc k)).memory (map (record_at bytes) (up_from (k + 1) n))
        (map (answer_to m given bytes) (up_from (k + 1) n)) (state_at m given bytes c).memory) (flag_is k)
        (subst (λ (j : ℕ). EachOnAny (state_at m given bytes (suc k)).up (state_at m given bytes (suc k)).memory (map (record_at bytes) (up_from j n))
        (map (answer_to m given bytes) (up_from j n)) (state_at m given bytes c).memory) (sym (add-one k)) (each_from n (suc k) c (omega (arith, e)))),
  )

------------------------------------------------------------------------
-- The contract

module _ (steps : StepsSimulate) (m : Memory) (given : Given) (bytes kinds numbers : List ℕ) (n : ℕ) (m' : Memory) (kinds' numbers' : List ℕ)
    (Z : Sized m) (B : Bytes bytes) (R : RanAll m given bytes kinds numbers n m' kinds' numbers') where
  abbrev ys : List Answer
  ys = map (answer_to m given bytes) (up_from 0 n)

  is_left : m' ≡ (state_at m given bytes n).memory
  is_left = R.ran.memory ∙ (rows_apart m given bytes kinds numbers n).1

  are_kinds : kinds' ≡ over (map kind_of ys) kinds
  are_kinds =
      R.ran.answer_kinds
      ∙ kinds_filled m given bytes kinds numbers n
      ∙ fill_over kinds (λ k. kind_of (answer_to m given bytes k)) n (omega (arith, R.count))
      ∙ ap (λ (l : List ℕ). over l kinds) (map-map kind_of (answer_to m given bytes) (up_from 0 n))

  are_numbers : numbers' ≡ over (map number_of ys) numbers
  are_numbers =
      R.ran.answer_numbers
      ∙ numbers_filled m given bytes kinds numbers n
      ∙ fill_over numbers (λ k. number_of (answer_to m given bytes k)) n (omega (arith, R.count))
      ∙ ap (λ (l : List ℕ). over l numbers) (map-map number_of (answer_to m given bytes) (up_from 0 n))

  -- at k of such a row
  at_row : (f : Answer → ℕ) (l l' : List ℕ) (k : ℕ) → k < n → l' ≡ over (map f ys) l → get_or l' k 0 ≡ f (answer_to m given bytes k)
  at_row f l l' k h e =
      ap (λ (q : List ℕ). get_or q k 0) (e ∙ ap (λ (q : List ℕ). over q l) (sym (map-map f (answer_to m given bytes) (up_from 0 n))))
      ∙ get_d_over_in (map (λ j. f (answer_to m given bytes j)) (up_from 0 n)) l k 0 (omega (arith, map-long (λ j. f (answer_to m given bytes j)) n))
      ∙ at_below (λ j. f (answer_to m given bytes j)) 0 n k h

  -- the answer that is read from the rows is the one that was exchanged_at
  read_back_lem : (h : Hub) → Holds h m → (k : ℕ) → k < n → answer_at kinds' numbers' k ≡ answer_to m given bytes k
  read_back_lem h H k below =
      let x : Memory = (state_at m given bytes k).memory in
      let S = so_far steps m given bytes h H Z B k in
      let h' : Hub = hub_to steps m given bytes h H Z B k in
      (λ i. answer_from (at_row kind_of kinds kinds' k below are_kinds i) (at_row number_of numbers numbers' k below are_numbers i))
      ∙ comes_back given h' x (record_at bytes k) (answer_to m given bytes k) S.as_model.holds
      (one_answer ((does_each steps m given bytes h H Z B k).as_model h' S.as_model.holds))

  all_as_model : (h : Hub) → Holds h m → AsModel h m (map (exchange_at given bytes kinds' numbers') (up_from 0 n)) m'
  all_as_model h H =
      let same : map (exchange_at given bytes kinds' numbers') (up_from 0 n) ≡ map (exchanged_at steps m given bytes h H Z B) (up_from 0 n) =
      same_below (exchange_at given bytes kinds' numbers') (exchanged_at steps m given bytes h H Z B) n
      (λ k below. ap (exchange_of given (record_at bytes k)) (read_back_lem h H k below)) in
      subst (λ (l : List Exchange). AsModel h m l m') (sym same)
      (subst (AsModel h m (map (exchanged_at steps m given bytes h H Z B) (up_from 0 n))) (sym is_left) (so_far steps m given bytes h H Z B n).as_model)

  pub applies : Applies m given bytes kinds numbers n m' kinds' numbers'
  unfolding after
  applies =
      record {
        count = R.count;
        answers = ys;
        answer_kinds = are_kinds;
        answer_numbers = are_numbers;
        as_model = all_as_model;
        read_back = λ D. same_below (answer_at kinds' numbers') (answer_to m given bytes) n (read_back_lem D.0 D.1);
        on_any =
            subst (EachOnAny (state_at m given bytes 0).up m (map (record_at bytes) (up_from 0 n)) ys) (sym is_left)
            (each_from m given bytes n 0 n (omega arith));
        ran = R;
      }
