-- Mark and release: the code's step is the model's. It sets one mark's time, or is refused.
use mathlib.Core.Path.{◌≡◌, refl, ap, ◌∙◌, subst}
use mathlib.Core.List.{[], map}
use mathlib.Core.Option.{Option, none, some}
use Prim.Native.Nat.{ℕ, ◌%◌, ◌<◌}
use native.Mathlib.Nat.{mod-eq_of_lt}
use native.Mathlib.Omega.{arith}
use lib.ListN.{length, set}
use borrow.Author.Tests.{ne_eqb}
use Rattle.model.specs.Store as Model
use Rattle.model.specs.Store.{Store, absent, mark_count, worker_at, with_doing, with_marks, place}
use Rattle.model.specs.Answer as Model-as-Answer
use Rattle.model.specs.Marks.{MarkNeed, EmptyMark, UnreadMark, mark_refusal}
use Rattle.model.specs.Steps.{time_step, step_at, stopped_by, mark_keep, mark_release}
use Rattle.values.specs.declared.Answer.TheVariants.{No}
use Rattle.worker.specs.Rep.{announced_rep, worker_rep}
use Rattle.marks.specs.Marks.{refusal_in}
use Rattle.state.specs.declared.Hub.{Hub}
use Rattle.state.specs.State.{with_worker_in, with_marks_in}
use Rattle.step.specs.declared.Next.TheVariants.{Mark}
use Rattle.step.specs.Step.{Stepped, mark_or_stop, step_of}
use Rattle.simulation.specs.Memory.{Memory, read_of, hub_rep, hand_words, write}
use Rattle.simulation.specs.Left.{Sized}
use Rattle.simulation.specs.Shell.{marked_in, next_in, finish_in, go_in}
use Rattle.gate.specs.Gate.{mark_need_rep}
use Rattle.simulation.proofs.Sound.{Sound}
use Rattle.simulation.proofs.Simulates.{Simulates, record_at, simulated}
use Rattle.simulation.proofs.Laid.{write_kept, memory-path, hub_is, slots_is, newest_is, free_is, queue_is, lens_is, worker-put}
use Rattle.simulation.proofs.Laid.{list-kept, place_at}
use Rattle.simulation.proofs.Found.{step_found, step_is, time_is}
use Rattle.simulation.proofs.Marks.{UnreadIn, refusal-same, Numbered, numbered}
use Rattle.simulation.proofs.Kept.{kept_sim}

module _ (s : Store) (m : Memory) (w : ℕ) (S : Sound s) (Z : Sized m) (laid : m ≡ write s m) (wb : w < s.site.P) where
  -- mark i holds a, or none, where the need y meets no refusal
  module _ (x : Model.TimeStep) (e : (worker_at s w).doing ≡ Model.OnTime x) (i a : ℕ) (ib : i < mark_count) (y : MarkNeed) (yb : UnreadIn y)
      (code : step_found s m w (Model.OnTime x)
      ≡ record {
        next = mark_or_stop (refusal_in (mark_need_rep y) s.marks (map read_of s.workers)) i a (announced_rep (worker_at s w).announced) s.clock (length s.free);
        row = m.slots;
        newest = m.newest;
      })
      (model : step_at s w (Model.OnTime x)
      ≡ stopped_by (mark_refusal s y) s w (record { store = with_marks (place s w Model.Idle) (set s.marks i a); answer = Model-as-Answer.Done })) where
    abbrev d : Model.Doing
    d = Model.OnTime x

    abbrev after : Model.Worker
    after = with_doing (worker_at s w) Model.Idle

    abbrev left : Store
    left = with_marks (place s w Model.Idle) (set s.marks i a)

    hub-left : with_marks_in (with_worker_in m.hub w (worker_rep after)) (set m.hub.marks (i % 12) a) ≡ hub_rep left m.hub
    hub-left =
        let small : i % 12 ≡ i = mod-eq_of_lt ib in
        (λ j. with_marks_in (with_worker_in (hub_is s m laid j) w (worker_rep after)) (set (hub_is s m laid j).marks (small j) a))
        ∙ ap (λ (h : Hub). with_marks_in h (set s.marks i a)) (worker-put s S w wb m Z laid d after [] e refl refl)

    set-mark : mark_refusal s y ≡ none
        → ◌≡◌ {A = Stepped} (record {
          next = mark_or_stop (refusal_in (mark_need_rep y) s.marks (map read_of s.workers)) i a (announced_rep (worker_at s w).announced) s.clock (length s.free);
          row = m.slots;
          newest = m.newest;
        }) (record { next = Mark i a; row = m.slots; newest = m.newest })
    set-mark q = rw (refusal-same s S y yb, q)

    marks : mark_refusal s y ≡ none → Simulates s m w d
    unfolding go_in next_in marked_in stopped_by hand_words
    marks q =
        simulated s m w d S laid wb e _ _ (model ∙ ap (λ (k : Option ℕ). stopped_by k s w (record { store = left; answer = Model-as-Answer.Done })) q)
        (ap (finish_in m w (record_at s w d)) (step_is s m S laid w d ∙ code ∙ set-mark q))
        (memory-path hub-left (slots_is s m laid) (newest_is s m laid) (free_is s m laid) (queue_is s m laid) (lens_is s m laid)
        (list-kept s S w wb m Z laid d after [] e refl)
        ∙ write_kept s left m (omega arith))
        refl

    refuses : (k : ℕ) → mark_refusal s y ≡ some k → Simulates s m w d
    unfolding stopped_by hand_words
    refuses k q =
        let b = subst Numbered q (numbered s y) in
        kept_sim s m w d S Z laid wb e Model.Idle (worker_at s w).announced s.clock s.slots (No k)
        (code ∙ rw (refusal-same s S y yb, q, ne_eqb k 0 (λ z. omega (arith, z, b.0)))) (slots_is s m laid)
        (model ∙ ap (λ (k : Option ℕ). stopped_by k s w (record { store = left; answer = Model-as-Answer.Done })) q) refl refl

    mark-sim : Simulates s m w d
    mark-sim = by (mark_refusal s y) refl
      where
        by : (k : Option ℕ) → mark_refusal s y ≡ k → Simulates s m w d
        by none q = marks q
        by (some k) q = refuses k q

  pub mark_keep-sim : (i : ℕ) → (worker_at s w).doing ≡ Model.OnTime (Model.MarkKeep i) → Simulates s m w (Model.OnTime (Model.MarkKeep i))
  unfolding step_of step_at time_step mark_keep
  mark_keep-sim i e =
      mark-sim (Model.MarkKeep i) e i (worker_at s w).announced (place_at s S w wb (Model.OnTime (Model.MarkKeep i)) e) (EmptyMark i) tt
      (rw (time_is s w S wb)) refl

  pub mark_release-sim : (i : ℕ) → (worker_at s w).doing ≡ Model.OnTime (Model.MarkRelease i) → Simulates s m w (Model.OnTime (Model.MarkRelease i))
  unfolding step_of step_at time_step mark_release
  mark_release-sim i e =
      let b = place_at s S w wb (Model.OnTime (Model.MarkRelease i)) e in
      mark-sim (Model.MarkRelease i) e i absent b (UnreadMark i) b refl refl
