-- The begin of an operation: one worker goes from idle to the operation's first place. Both places have no times read and no list in hand, so
-- that only the worker's record changes.
use mathlib.Core.Path.{◌≡◌, refl, sym, ap, ◌∙◌}
use mathlib.Core.List.{List, [], ◌++◌}
use Prim.Native.Nat.{ℕ, ◌<◌}
use Rattle.model.specs.Rules.{Given}
use Rattle.model.specs.Store as Model
use native.Mathlib.Omega.{arith}
use Rattle.model.specs.Store.{Store, up, worker_at, with_doing, place}
use Rattle.model.specs.Answer as Answers
use Rattle.model.specs.Record as Record
use Rattle.model.specs.About.{Hand}
use Rattle.model.specs.Apply.{terms}
use Rattle.theorem.proofs.View.{first_hand}
use Rattle.worker.specs.declared.Worker.{Worker}
use Rattle.worker.specs.Rep.{doing_rep, times_in, times_read}
use Rattle.marks.specs.Marks.{read_by}
use Rattle.state.specs.declared.Hub.{Hub}
use Rattle.state.specs.State.{worker_in, with_worker_in, at_place}
use Rattle.gate.specs.declared.Gate.TheVariants.{Start}
use Rattle.std.specs.Prelude.{Ok as Grants}
use Rattle.simulation.specs.Memory.{Memory, hub_rep, hand_words, in_hand_words, write}
use Rattle.simulation.specs.Left.{Sized}
use Rattle.simulation.specs.Shell.{obey_in}
use Rattle.simulation.proofs.Sound.{Sound}
use Rattle.simulation.proofs.Laid.{write_kept, memory-path, hub_is, slots_is, newest_is, free_is, queue_is, lens_is, worker_at_lem}
use Rattle.simulation.proofs.Laid.{worker-put, list-kept}
use Rattle.simulation.proofs.Refuse.{Follows}

-- an operation begins with no time read, no mark and no list in hand
first_times : (rows : List ℕ) (o : Record.Operation) → times_read Model.Idle ≡ times_read (terms rows o).first ++ []
first_times rows o = sym (ap (λ (y : Hand). times_in y ++ []) (first_hand rows o))

first_reads : (rows : List ℕ) (o : Record.Operation) → read_by (doing_rep (terms rows o).first) ≡ 0
first_reads rows (Record.Put r x) = refl
first_reads rows Record.Open = refl
first_reads rows (Record.Read r) = refl
first_reads rows Record.Close = refl
first_reads rows (Record.Get r) = refl
first_reads rows Record.Collect = refl
first_reads rows (Record.Total g) = refl
first_reads rows (Record.Mark m) = refl
first_reads rows (Record.Release m) = refl
first_reads rows (Record.MarkedRead r m) = refl

first_words : (rows : List ℕ) (o : Record.Operation) → in_hand_words Model.Idle ≡ in_hand_words (terms rows o).first ++ []
unfolding hand_words
first_words rows o = sym (ap (λ (y : Hand). hand_words y ++ []) (first_hand rows o))

module _ (s : Store) (m : Memory) (S : Sound s) (Z : Sized m) (laid : m ≡ write s m)
    (w : ℕ) (inside : w < s.site.P) (idle : (worker_at s w).doing ≡ Model.Idle) (o : Record.Operation) where
  abbrev begun_worker : Model.Worker
  begun_worker = with_doing (worker_at s w) (terms s.site.rows o).first

  begun_hub : with_worker_in m.hub w (at_place (worker_in m.hub w) (doing_rep (terms s.site.rows o).first)) ≡ hub_rep (place s w (terms s.site.rows o).first) m.hub
  begun_hub =
      ap (λ (h : Hub). with_worker_in h w (at_place (worker_in h w) (doing_rep (terms s.site.rows o).first))) (hub_is s m laid)
      ∙ ap (λ (x : Worker). with_worker_in (hub_rep s m.hub) w (at_place x (doing_rep (terms s.site.rows o).first))) (worker_at_lem s S w inside (worker_at s w).doing refl)
      ∙ worker-put s S w inside m Z laid Model.Idle begun_worker [] idle (first_times s.site.rows o) (first_reads s.site.rows o)

  -- the code begins the operation as the model does
  pub begun : {given : Given} → Follows given (up s) m (Grants (Start w (doing_rep (terms s.site.rows o).first))) (record { hub = up (place s w (terms s.site.rows o).first); answer = Answers.Ok })
  unfolding obey_in
  begun =
      record {
        memory =
            memory-path begun_hub (slots_is s m laid) (newest_is s m laid) (free_is s m laid) (queue_is s m laid) (lens_is s m laid)
            (list-kept s S w inside m Z laid Model.Idle begun_worker [] idle (first_words s.site.rows o))
            ∙ write_kept s (place s w (terms s.site.rows o).first) m (omega arith);
        answer = refl;
      }
