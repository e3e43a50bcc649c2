-- The code does with each record what the model does: the decision on a record is the model's, and so is what follows a refusal, a begin, a
-- step or a setup. That a step is the model's is a parameter here, with what is known where a step is taken.
use mathlib.Core.Path.{◌≡◌, refl, sym, ap, ◌∙◌, subst}
use mathlib.Core.Bool.{Bool, true, false}
use mathlib.Core.List.{List}
use Prim.Native.Nat.{ℕ, ◌<◌}
use lib.ListN.{length, get_or}
use Rattle.model.specs.Store as Model
use native.Mathlib.Omega.{arith}
use Rattle.model.specs.Store.{Store, blank, up, worker_at}
use Rattle.model.specs.Rules.{Given, in_force, under}
use Rattle.model.specs.Answer.{Applied}
use Rattle.model.specs.Record.{decode}
use Rattle.model.specs.Steps.{step_at}
use Rattle.model.specs.Apply.{apply}
use Rattle.values.specs.Meaning.{answer_of}
use Rattle.worker.specs.declared.Worker.{Worker}
use Rattle.worker.specs.Rep.{doing_rep}
use Rattle.state.specs.declared.Hub.{Hub}
use Rattle.state.specs.State.{worker_in}
use Rattle.queue.specs.State.{Begins}
use Rattle.gate.specs.Gate.{Decided}
use Rattle.gate.specs.declared.Gate.TheVariants.{Make, Start, Go}
use Rattle.std.specs.Prelude.{Ok as Grants, Err as Refuse}
use Rattle.decision.proofs.Named.{decode-names}
use Rattle.simulation.specs.Memory.{Memory, lent_in, hub_rep, write, write_hub, Result}
use Rattle.simulation.specs.Left.{LeftByRecords, Left, Sized, ready}
use Rattle.simulation.specs.Shell.{go_in, obey_in, gate_in, done_as, done_of}
use Rattle.simulation.specs.Holds.{Holds}
use Rattle.simulation.specs.Public.{Does}
use Rattle.simulation.proofs.Bytes.{Bytes}
use Rattle.simulation.proofs.Sound.{Sound, sound, left_next}
use Rattle.simulation.proofs.Ready.{ready-left}
use Rattle.simulation.proofs.Simulates.{Simulates, step_in}
use Rattle.simulation.proofs.Laid.{hub_is, worker_at_lem, write_kept}
use Rattle.simulation.proofs.Gates.{gate_by, Means, Stepping, gate_left}
use Rattle.simulation.proofs.Refuse.{Follows, refused}
use Rattle.simulation.proofs.Begin.{begun}
use Rattle.simulation.proofs.Setup.{follows_blank}
use Rattle.simulation.proofs.Ends.{on-any}
use Rattle.simulation.proofs.Again.{as_model_lem}

-- each step of the code is the model's step, in a store that records left
abbrev pub StepsSimulate : Type 0
StepsSimulate =
    (s : Store) (m : Memory) (w : ℕ) (d : Model.Doing) → LeftByRecords s → Sound s → Sized m → Begins m.hub.window → m ≡ write s m → w < s.site.P
    → (worker_at s w).doing ≡ d → Sound (step_at s w d).store → Simulates s m w d

-- what the code leaves and answers on the bytes b, with the list lent, is what the model makes of the record, a
abbrev pub DoneAs : Model.Hub → Memory → Given → List ℕ → Applied → Type 0
DoneAs h m given b a = ((done_of m given b).memory ≡ write_hub h a.hub m) × (answer_of (done_of m given b).answer ≡ a.answer)

-- enough: the decision, and that what follows it is the model's
done_by : (h : Model.Hub) (m : Memory) (given : Given) (b : List ℕ) (a : Applied) (g : Decided) → gate_in (ready m) m given b ≡ g → Follows given h m g a
    → DoneAs h m given b a
unfolding done_of done_as
done_by h m given b a g e F =
    let does : obey_in m given (gate_in (ready m) m given b) ≡ obey_in m given g = ap (obey_in m given) e in
    (ap (λ (r : Result). r.memory) does ∙ F.memory, ap (λ (r : Result). answer_of r.answer) does ∙ F.answer)

------------------------------------------------------------------------
-- Memory that does not count as set up

module _ (m : Memory) (given : Given) (b : List ℕ) (Z : Sized m) (bytes : Bytes b) (e : ready m ≡ false) where
  -- the code does what the model's hub does that is not set up and whose row is lent
  pub done_blank : DoneAs (blank (lent_in m)) m given b (apply (in_force given) (blank (lent_in m)) b)
  unfolding apply
  done_blank =
      done_by (blank (lent_in m)) m given b (apply (in_force given) (blank (lent_in m)) b) _ (ap (λ (t : Bool). gate_in t m given b) e)
      (follows_blank m Z given (decode b) (get_or b 1 0))

------------------------------------------------------------------------
-- Memory that records left

-- it counts as set up
pub left_ready : {s : Store} (m : Memory) → Left s m → Sized m → ready m ≡ true
left_ready m L Z = ready-left m (sound L.store) Z L.begins L.laid

module _ (steps : StepsSimulate) where
  module _ (s : Store) (m : Memory) (given : Given) (b : List ℕ) (L : Left s m) (Z : Sized m) where
    abbrev laid : m ≡ write s m
    laid = L.laid

    S : Sound s
    S = sound L.store

    -- what the model makes of the record
    abbrev a : Applied
    a = apply (in_force given) (up s) b

    -- the record's decision, for the store and for the memory
    gate-is : gate_in (ready m) m given b ≡ gate_by (decode b) (get_or b 1 0) true (length m.slots) given (hub_rep s m.hub)
    gate-is = λ i. gate_by (decode b) (get_or b 1 0) (left_ready m L Z i) (length m.slots) given (hub_is s m laid i)

    -- the next store is sound
    next-sound : (t : Store) → a.hub ≡ up t → Sound t
    next-sound t e =
        let N = left_next L.store (under (in_force given) b) in
        let same : N.0 ≡ t = cc in
        subst Sound same (sound N.2)

    -- a step
    stepped : (w : ℕ) → Stepping s w a → Follows given (up s) m (Grants (Go w)) a
    unfolding obey_in
    stepped w T =
        let d : Model.Doing = (worker_at s w).doing in
        let at : (worker_in m.hub w).doing ≡ doing_rep d =
        ap (λ (h : Hub). (worker_in h w).doing) (hub_is s m laid) ∙ ap (λ (x : Worker). x.doing) (worker_at_lem s S w T.inside d refl) in
        let does : obey_in m given (Grants (Go w)) ≡ step_in m w d = ap (go_in m w (worker_in m.hub w)) at in
        let M : Simulates s m w d =
        steps s m w d L.store S Z L.begins laid T.inside refl (next-sound (step_at s w d).store (ap (λ (x : Applied). x.hub) T.is)) in
        record {
          memory = ap (λ (r : Result). r.memory) does ∙ M.memory ∙ ap (λ (x : Applied). write_hub (up s) x.hub m) (sym T.is);
          answer = ap (λ (r : Result). answer_of r.answer) does ∙ M.answer ∙ ap (λ (x : Applied). x.answer) (sym T.is);
        }

    -- by the decision
    by-gate : (g : Decided) → Means s g a → Follows given (up s) m g a
    by-gate (Refuse k) t = subst (Follows given (up s) m (Refuse k)) (sym t) (refused (up s) m k (laid ∙ write_kept s s m (omega arith)))
    by-gate (Grants (Make p v n k)) t = absurd t
    by-gate (Grants (Start w d)) t =
        let B = t.2 in
        subst (Follows given (up s) m (Grants (Start w d))) (sym B.is)
        (rw t.1 (begun s m S Z laid w B.inside B.idle t.0))
    by-gate (Grants (Go w)) t = stepped w t

    -- on memory that records left the code does what the model does
    pub done-left : DoneAs (up s) m given b (apply (in_force given) (up s) b)
    unfolding apply
    done-left = done_by (up s) m given b a _ gate-is (by-gate _ (gate_left s S m.hub given (decode b) (get_or b 1 0) (decode-names b) (length m.slots)))
    -- on memory that holds a hub

  done_as_lem : (h : Model.Hub) (m : Memory) (given : Given) (b : List ℕ) → Holds h m → Sized m → Bytes b → DoneAs h m given b (apply (in_force given) h b)
  done_as_lem (blank row) m given b (e, r) Z B =
      subst (λ (l : Model.Lent). DoneAs (blank l) m given b (apply (in_force given) (blank l) b)) (sym r) (done_blank m given b Z B e)
  done_as_lem (up s) m given b L Z B = done-left s m given b L Z

  -- the public function's contract
  pub does : (m : Memory) (given : Given) (b : List ℕ) → Sized m → Bytes b → Does m given b (done_of m given b).answer (done_of m given b).memory
  unfolding done_of
  does m given b Z bytes =
      record {
        as_model = λ h H.
            let D = done_as_lem h m given b H Z bytes in
            as_model_lem m (done_of m given b).memory Z given h b (done_of m given b).answer H D.0 D.1;
        on_any = on-any (ready m) m given b;
      }
