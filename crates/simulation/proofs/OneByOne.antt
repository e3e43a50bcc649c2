-- The call for a whole buffer does what the calls for its records do. The flag that it keeps says after each record whether the memory counts as
-- set up: memory that records left is left by records again, and memory that does not count as set up stays as it was, or a setup is accepted
-- and records left it. So each record does what the contract of one record says, and all of them together what the model does.
use mathlib.Core.Path.{◌≡◌, refl, sym, ap, ◌∙◌, subst}
use mathlib.Core.Bool.{Bool, true, false, ◌||◌}
use mathlib.Core.List.{List, [], ◌∷◌, map}
use Prim.Native.Nat.{ℕ, zero, suc, ◌%◌}
use lib.ListN.{length, get_or}
use Rattle.model.specs.Store as Model
use Rattle.model.specs.Store.{blank, up, up_from}
use Rattle.model.specs.Rules.{Given, in_force, under}
use Rattle.model.specs.Answer.{Ok}
use Rattle.model.specs.Record as Record
use Rattle.model.specs.Record.{SetUp, Asks}
use Rattle.model.specs.Apply.{apply, hub_after}
use Rattle.model.specs.Demand.{Exchange}
use Rattle.model.proofs.Basic.{cond_both}
use Rattle.values.specs.Meaning.{answer_of}
use Rattle.values.specs.declared.Answer.{Answer}
use Rattle.worker.specs.declared.Worker.{Worker}
use Rattle.places.specs.About.{about_of}
use Rattle.model.specs.Rights.{table_stands}
use Rattle.state.specs.State.{worker_in, table_kept}
use Rattle.simulation.proofs.Rights.{standing-stands}
use Rattle.gate.specs.Gate.{Decided}
use Rattle.gate.specs.declared.Gate.TheVariants.{Make}
use Rattle.std.specs.Prelude.{Ok as Grants, Err as Refuse}
use Rattle.gate.specs.Gate.{has_time}
use Rattle.decision.specs.Decision.{setup_ok, gate_of}
use Rattle.simulation.specs.Memory.{Memory}
use Rattle.simulation.specs.Left.{Sized, ready}
use Rattle.simulation.specs.Shell.{rows_kept, marks_read, obey_in, gate_in, done_as, done_of}
use Rattle.simulation.specs.Holds.{Holds, sent, AsModel}
use Rattle.simulation.specs.Public.{exchange_of, Does}
use Rattle.simulation.specs.Records.{record_at}
use Rattle.simulation.specs.Loop.{makes, State, next, after, before}
use Rattle.simulation.proofs.Bytes.{Bytes, record_bytes}
use Rattle.simulation.proofs.Below.{map_last}
use Rattle.simulation.proofs.Again.{LeftHub, setup-left, holds_written, one_answer, one_memory, one_holds}
use Rattle.simulation.proofs.Sound.{left_next}
use Rattle.simulation.proofs.Assembly.{StepsSimulate, left_ready, does}
use Rattle.simulation.proofs.Compose.{nothing_sent, both_sent}

-- before record k of the bytes, of which the first met the memory m: with no rows for the answers, which make no difference
abbrev pub state_at : Memory → Given → List ℕ → ℕ → State
state_at m given bytes k = after (before m [] []) given bytes k

-- the answer to record k
abbrev pub answer_to : Memory → Given → List ℕ → ℕ → Answer
answer_to m given bytes k = (state_at m given bytes (suc k)).last

------------------------------------------------------------------------
-- The flag after one record

-- where the memory does not count as set up, nothing begins and no step is taken
blank_gate : (P : Decided → Type 0) → ((k : ℕ) → P (Refuse k)) → ((p v n k : ℕ) → P (Grants (Make p v n k)))
    → (r : Record.Decoded) (p v long : ℕ) (idle has : Bool) (list rows marks reading table : List ℕ)
    → P (gate_of r false p v long idle has list rows marks reading table)
unfolding gate_of
blank_gate P f g (Record.Refuses k) p v long idle has list rows marks reading table = f k
blank_gate P f g (Asks (SetUp z)) p v long idle has list rows marks reading table =
    cond_both P (setup_ok z.P z.V' z.N z.clock long list) _ _ (λ e. g z.P z.V' z.N z.clock) (λ e. f 5)
blank_gate P f g (Asks (Record.Begin w o)) p v long idle has list rows marks reading table = f 8
blank_gate P f g (Asks (Record.Step w)) p v long idle has list rows marks reading table = f 8

-- a hub that records left counts as set up where memory holds it
held-ready : (h : Model.Hub) (m : Memory) → Holds h m → Sized m → LeftHub h → ready m ≡ true
held-ready h m H Z (t, e, L) = left_ready m (subst (λ (k : Model.Hub). Holds k m) e H) Z

module _ (steps : StepsSimulate) (m : Memory) (given : Given) (b : List ℕ) (Z : Sized m) (B : Bytes b) where
  -- what the flag is after the record
  abbrev Flagged : Type 0
  Flagged = ready (done_of m given b).memory ≡ (ready m || makes (gate_in (ready m) m given b))

  abbrev did : (h : Model.Hub) → Holds h m → AsModel h m (exchange_of given b (done_of m given b).answer ∷ []) (done_of m given b).memory
  did = (does steps m given b Z B).as_model

  -- the next hub is set up
  now_ready : (h : Model.Hub) → Holds h m → LeftHub (apply (in_force given) h b).hub → ready (done_of m given b).memory ≡ true
  now_ready h H L = held-ready (apply (in_force given) h b).hub (done_of m given b).memory (one_holds (did h H))
      (holds_written m (done_of m given b).memory Z given h b H (one_memory (did h H))).1 L

  module _ (row : Model.Lent) (H : Holds (blank row) m) where
    -- a refusal changes nothing
    flag-refused : (k : ℕ) → gate_in (ready m) m given b ≡ Refuse k → Flagged
    unfolding done_of done_as obey_in
    flag-refused k g = ap (λ (x : Decided). ready (obey_in m given x).memory) g ∙ H.0 ∙ sym (λ i. H.0 i || makes (g i))

    -- the table that stands is one that may be exchanged_at
    fits : table_stands row.table ≡ true
    fits = ap (λ (x : Model.Lent). table_stands x.table) H.1 ∙ standing-stands m.hub

    -- an accepted setup
    flag-made : (p v n k : ℕ) → gate_in (ready m) m given b ≡ Grants (Make p v n k) → Flagged
    unfolding done_of done_as obey_in
    flag-made p v n k g =
        let ok : (apply (in_force given) (blank row) b).answer ≡ Ok =
        sym (one_answer (did (blank row) H)) ∙ ap (λ (x : Decided). answer_of (obey_in m given x).answer) g in
        now_ready (blank row) H (setup-left given row b fits ok) ∙ sym (λ i. H.0 i || makes (g i))

  flagged : (h : Model.Hub) → Holds h m → Flagged
  flagged (up s) L =
      now_ready (up s) L (left_next L.store (under (in_force given) b)) ∙ sym (ap (λ (t : Bool). t || makes (gate_in (ready m) m given b)) (left_ready m L Z))
  flagged (blank row) H =
      let x : Worker = worker_in m.hub (get_or b 1 0 % 16) in
      blank_gate (λ (g : Decided). gate_in (ready m) m given b ≡ g → Flagged) (flag-refused row H) (flag-made row H)
      (Record.decode b) m.hub.site.p m.hub.site.v (length m.slots) (about_of x.doing).idle (has_time x.announced) given.totals (rows_kept m.hub)
      m.hub.marks (marks_read m.hub) (table_kept m.hub)
      (ap (λ (t : Bool). gate_in t m given b) H.0)

------------------------------------------------------------------------
-- The records of a buffer on memory that holds a hub

module _ (steps : StepsSimulate) (m : Memory) (given : Given) (bytes : List ℕ) (h : Model.Hub) (H : Holds h m) (Z : Sized m) (B : Bytes bytes) where
  -- record k and its answer
  abbrev pub exchanged_at : ℕ → Exchange
  exchanged_at k = exchange_of given (record_at bytes k) (answer_to m given bytes k)

  -- the model's hub before record k
  abbrev pub hub_to : ℕ → Model.Hub
  hub_to k = hub_after h (sent (map exchanged_at (up_from 0 k)))

  -- so far all is as the model has it, and the flag says whether the memory counts as set up
  pub record SoFar (k : ℕ) : Type 0 where
    pub as_model : AsModel h m (map exchanged_at (up_from 0 k)) (state_at m given bytes k).memory
    pub sized : Sized (state_at m given bytes k).memory
    pub flag : (state_at m given bytes k).up ≡ ready (state_at m given bytes k).memory

  module _ (k : ℕ) (S : SoFar k) where
    abbrev x : Memory
    x = (state_at m given bytes k).memory

    abbrev b : List ℕ
    b = record_at bytes k

    does-next : Does x given b (answer_to m given bytes k) (state_at m given bytes (suc k)).memory
    unfolding after next done_of
    does-next =
        subst (λ (u : Bool). Does x given b (done_as u x given b).answer (done_as u x given b).memory) (sym S.flag)
        (does steps x given b S.sized (record_bytes bytes k B))

    next-as-model : AsModel (hub_to k) x (exchanged_at k ∷ []) (state_at m given bytes (suc k)).memory
    next-as-model = does-next.as_model (hub_to k) S.as_model.holds

    flag-next : (state_at m given bytes (suc k)).up ≡ ready (state_at m given bytes (suc k)).memory
    unfolding after next done_of
    flag-next =
        (λ i. S.flag i || makes (gate_in (S.flag i) x given b))
        ∙ sym (flagged steps x given b S.sized (record_bytes bytes k B) (hub_to k) S.as_model.holds)
        ∙ sym (λ i. ready (done_as (S.flag i) x given b).memory)

    one_more_lem : SoFar (suc k)
    one_more_lem =
        let x' : Memory = (state_at m given bytes (suc k)).memory in
        record {
          as_model =
              subst (λ (l : List Exchange). AsModel h m l x') (sym (map_last exchanged_at k))
              (both_sent h m x x' (map exchanged_at (up_from 0 k)) (exchanged_at k ∷ []) S.as_model next-as-model);
          sized = (holds_written x x' S.sized given (hub_to k) b S.as_model.holds (one_memory next-as-model)).1;
          flag = flag-next;
        }

  pub so_far : (k : ℕ) → SoFar k
  unfolding after up_from
  so_far zero = record { as_model = nothing_sent h m H; sized = Z; flag = refl }
  so_far (suc k) = one_more_lem k (so_far k)

  -- each record does what the contract of one record says
  pub does_each : (k : ℕ) → Does (state_at m given bytes k).memory given (record_at bytes k) (answer_to m given bytes k) (state_at m given bytes (suc k)).memory
  does_each k = does-next k (so_far k)

  -- and is the call for one record, which tests the memory anew
  pub one_by_one : (k : ℕ)
      → ((state_at m given bytes (suc k)).memory ≡ (done_of (state_at m given bytes k).memory given (record_at bytes k)).memory)
      × (answer_to m given bytes k ≡ (done_of (state_at m given bytes k).memory given (record_at bytes k)).answer)
  unfolding after next done_of
  one_by_one k =
      let x : Memory = (state_at m given bytes k).memory in
      let f = (so_far k).flag in
      (λ i. (done_as (f i) x given (record_at bytes k)).memory, λ i. (done_as (f i) x given (record_at bytes k)).answer)
