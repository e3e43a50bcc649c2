-- A store written over memory lies in it, and the memory's arrays keep their lengths: each of the store's lists fits its array. So memory over
-- which the store after a setup or after one record more was written is memory that records left, and memory that holds a hub of the model holds
-- its next hub after a record that writes it.
use mathlib.Core.Path.{◌≡◌, refl, sym, ap, ◌∙◌, subst}
use mathlib.Core.Bool.{true, ◌&&◌}
use mathlib.Core.Logic.{◌⊎◌, inl, inr, ⊎_elim}
use mathlib.Core.List.{List, [], ◌∷◌, ◌++◌, map, reverse}
use Prim.Native.Nat.{ℕ, ◌*◌, ◌≤◌}
use native.Mathlib.Omega.{arith}
use lib.Dec.{leb}
use lib.ListN.{length, get_or, take, drop, replicate, length-append, length-drop, length-map, length-reverse, length-replicate}
use lib.Seq.{length-take-le, take_at, drop_at}
use Rattle.lists.specs.Over.{over}
use Rattle.lists.proofs.Over.{length_over}
use Rattle.model.specs.Store as Model
use Rattle.model.specs.Store.{Store, blank, up, start_worker, worker_at}
use Rattle.model.specs.Batch.{batch_of}
use Rattle.model.specs.Rights.{table_stands}
use Rattle.model.specs.Rules.{Given, in_force, under}
use Rattle.model.specs.Answer.{Ok, Applied}
use Rattle.model.specs.Record.{SetUp, Begin, Step, Decoded, Asks, Refuses, decode, rows_of, list_fits}
use Rattle.model.specs.Apply.{in_ranges, fresh, set_up, obey, apply_decoded, apply, hub_after}
use Rattle.model.specs.Demand.{All, events, Exchange}
use Rattle.model.proofs.Basic.{cond_both, All-from, All-map}
use Rattle.model.proofs.Batch.{allowed}
use Rattle.theorem.proofs.Setup.{accepts}
use Rattle.values.specs.declared.Answer.{Answer}
use Rattle.values.specs.Meaning.{answer_of}
use Rattle.worker.specs.Rep.{times_read, worker_rep}
use Rattle.slots.specs.Slots.{slot_rep}
use Rattle.ranges.specs.Words.{flat}
use Rattle.ranges.proofs.WordLaws.{length-flat}
use Rattle.queue.specs.State.{Begins}
use Rattle.queue.specs.Rep.{joined_ranges}
use Rattle.queue.proofs.MemoryLaws.{over-again, over_at-again, length-over_at}
use Rattle.queue.proofs.Rep.{words_inside, lengths_inside, begins_after}
use Rattle.simulation.specs.Memory.{read_of, Memory, in_hand_words, parts_over, write, with_hub, next_hub, write_hub}
use Rattle.simulation.specs.Left.{LeftByRecords, Left, Sized}
use Rattle.simulation.specs.Shell.{queue_in}
use Rattle.simulation.proofs.FlushQueue.{queue_sized}
use Rattle.simulation.specs.Holds.{Holds, memory_after, AsModel}
use Rattle.simulation.specs.Public.{exchange_of}
use Rattle.simulation.proofs.Sound.{Sound, sound, left_next}
use Rattle.simulation.proofs.Ready.{hand_short, times_short, length-joined}
use Rattle.simulation.proofs.Laid.{memory-path, site_path, hub_path}
use Rattle.simulation.proofs.Laws.{next-size}
use Rattle.simulation.proofs.Rights.{few_rights, standing-stands}

------------------------------------------------------------------------
-- The lists in hand

module _ (n : ℕ) (f : Model.Worker → List ℕ) where
  -- each list fits its worker's part
  abbrev Fit : List Model.Worker → Type 0
  Fit ws = All (λ x. length (f x) ≤ n) ws

  front_length : (p d : List ℕ) → length p ≤ n → n ≤ length d → length (over p (take n d)) ≡ n
  front_length p d h k =
      let e : length (take n d) ≡ n = length-take-le n d k in
      length_over p (take n d) (omega arith) ∙ e

  parts-length : (ws : List Model.Worker) (d : List ℕ) → n * length ws ≤ length d → Fit ws → length (parts_over n f ws d) ≡ length d
  unfolding parts_over
  parts-length [] d h t = refl
  parts-length (x ∷ ws) d h t =
      omega (
        arith,
        next-size n f (length ws),
        length-append (over (f x) (take n d)) (parts_over n f ws (drop n d)),
        front_length (f x) d t.0 (omega (arith, next-size n f (length ws))),
        parts-length ws (drop n d) (omega (arith, next-size n f (length ws), length-drop n d)) t.1,
        length-drop n d,
      )

  parts_again : (ws : List Model.Worker) (d : List ℕ) → n * length ws ≤ length d → Fit ws
      → parts_over n f ws d ≡ parts_over n f ws (parts_over n f ws d)
  unfolding parts_over
  parts_again [] d h t = refl
  parts_again (x ∷ ws) d h t =
      let p : List ℕ = f x in
      let a : List ℕ = over p (take n d) in
      let b : List ℕ = parts_over n f ws (drop n d) in
      let z = next-size n f (length ws) in
      let long : length a ≡ n = front_length p d t.0 (omega arith) in
      ap (λ (l : List ℕ). l ++ b) (sym (over-again p (take n d)))
      ∙ ap (λ (l : List ℕ). over p a ++ l) (parts_again ws (drop n d) (omega (arith, length-drop n d)) t.1)
      ∙ ap (λ (l : List ℕ). over p l ++ parts_over n f ws b) (sym (take_at a b n long))
      ∙ ap (λ (l : List ℕ). over p (take n (a ++ b)) ++ parts_over n f ws l) (sym (drop_at a b n long))

------------------------------------------------------------------------
-- A sound store

module _ (s : Store) (S : Sound s) (m : Memory) (Z : Sized m) (B : Begins m.hub.window) where
  hands : Fit 768 (λ x. in_hand_words x.doing) s.workers
  hands =
      All-from (λ x. length (in_hand_words x.doing) ≤ 768) start_worker s.workers
      (λ w h. hand_short s (worker_at s w).announced (worker_at s w).doing (S.places w (omega (arith, h, S.bounds.workers.2))))

  room : 768 * length s.workers ≤ length m.merged
  room = omega (arith, Z.merged, S.bounds.workers.1, S.bounds.workers.2)

  -- as many times are read as there are workers at the most
  reads : Fit 28 (λ x. times_read x.doing) s.workers
  reads =
      All-from (λ x. length (times_read x.doing) ≤ 28) start_worker s.workers
      (λ w h. times_short s S (worker_at s w).announced (worker_at s w).doing (S.places w (omega (arith, h, S.bounds.workers.2))))

  times_room : 28 * length s.workers ≤ length m.hub.times
  times_room = omega (arith, Z.times, S.bounds.workers.1, S.bounds.workers.2)

  -- the store lies in the memory that it was written over
  written_lies : write s m ≡ write s (write s m)
  written_lies =
      memory-path
      (hub_path
      (site_path refl refl refl refl refl (sym (over-again s.site.rows m.hub.site.rows)) refl
      (sym (over-again s.site.table m.hub.site.rights))) refl refl refl
      (parts_again 28 (λ x. times_read x.doing) s.workers m.hub.times times_room reads) refl refl refl)
      (sym (over-again (map slot_rep s.slots) m.slots))
      (sym (over-again s.newest m.newest))
      (sym (over-again (reverse s.free) m.free))
      (sym (over_at-again (3 * m.hub.window.from) (flat (joined_ranges s.queue)) m.queue (words_inside (queue_in m) (queue_sized m Z) B)))
      (sym (over_at-again m.hub.window.first (map length s.queue) m.lens (lengths_inside (queue_in m) (queue_sized m Z) B)))
      (parts_again 768 (λ x. in_hand_words x.doing) s.workers m.merged room hands)

  -- and the arrays keep their lengths
  written_sized : Sized (write s m)
  written_sized =
      record {
        workers =
            length_over (map worker_rep s.workers) (replicate 16 (worker_rep start_worker))
            (omega (
              arith,
              length-map s.workers worker_rep,
              length-replicate 16 (worker_rep start_worker),
              S.bounds.workers.1,
              S.bounds.workers.2,
            ))
            ∙ length-replicate 16 (worker_rep start_worker);
        times = parts-length 28 (λ x. times_read x.doing) s.workers m.hub.times times_room reads ∙ Z.times;
        marks = S.marks;
        reading =
            length_over (map read_of s.workers) (replicate 16 0)
            (omega (arith, length-map s.workers read_of, length-replicate {A = ℕ} 16 0, S.bounds.workers.1, S.bounds.workers.2))
            ∙ length-replicate {A = ℕ} 16 0;
        rows = length_over s.site.rows m.hub.site.rows (omega (arith, Z.rows, S.bounds.rows.1)) ∙ Z.rows;
        rights = length_over s.site.table m.hub.site.rights (omega (arith, Z.rights, few_rights s.site.table S.table)) ∙ Z.rights;
        newest = length_over s.newest m.newest (omega (arith, Z.newest, S.bounds.registers.1, S.bounds.registers.2)) ∙ Z.newest;
        free =
            length_over (reverse s.free) m.free
            (omega (arith, Z.free, length-reverse s.free, S.bounds.total, S.bounds.slots.1))
            ∙ Z.free;
        queue =
            length-over_at (3 * m.hub.window.from) (flat (joined_ranges s.queue)) m.queue
            (omega (arith, B.from, Z.queue, length-flat (joined_ranges s.queue), length-joined s.queue, S.bounds.total, S.bounds.slots.1))
            ∙ Z.queue;
        lens =
            length-over_at m.hub.window.first (map length s.queue) m.lens
            (omega (arith, B.first, B.from, Z.lens, length-map s.queue length, S.bounds.pools, S.bounds.slots.1))
            ∙ Z.lens;
        merged = parts-length 768 (λ x. in_hand_words x.doing) s.workers m.merged room hands ∙ Z.merged;
      }

------------------------------------------------------------------------
-- The hub that a record leaves

-- records left its store
abbrev pub LeftHub : Model.Hub → Type 0
LeftHub h = (t : Store) × (h ≡ up t) × LeftByRecords t

-- or it is not set up, and this is lent
abbrev pub BlankOrLeft : Model.Lent → Model.Hub → Type 0
BlankOrLeft row h = (h ≡ blank row) ⊎ LeftHub h

-- an accepted setup leaves such a store
pub setup-left : (given : Given) (row : Model.Lent) (b : List ℕ) → table_stands row.table ≡ true → (apply (in_force given) (blank row) b).answer ≡ Ok
    → LeftHub (apply (in_force given) (blank row) b).hub
unfolding hub_after
setup-left given row b fits ok =
    let A = accepts (in_force given) row b ok in (
      fresh (batch_of A.sizes.P) A.sizes (rows_of given.totals) row.table row.row,
      A.is,
      record { row = row; setup = under (in_force given) b; batch = allowed (in_force given) refl; table = fits; accepted = ok; records = []; left = A.is },
    )

-- every other record leaves the hub as it was
abbrev SameOrOk : Model.Lent → Applied → Type 0
SameOrOk row a = (a.hub ≡ blank row) ⊎ (a.answer ≡ Ok)

same_or_ok : (given : Given) (row : Model.Lent) (d : Decoded) → SameOrOk row (apply_decoded (in_force given) (blank row) d)
unfolding apply_decoded obey set_up
same_or_ok given row (Asks (SetUp z)) =
    cond_both (SameOrOk row) (in_ranges z && leb z.N (length row.row) && list_fits z.V' given.totals) _ _ (λ e. inr refl) (λ e. inl refl)
same_or_ok given row (Asks (Begin w o)) = inl refl
same_or_ok given row (Asks (Step w)) = inl refl
same_or_ok given row (Refuses k) = inl refl

blank_next : (given : Given) (row : Model.Lent) (b : List ℕ) → table_stands row.table ≡ true → BlankOrLeft row (apply (in_force given) (blank row) b).hub
unfolding apply
blank_next given row b fits = ⊎_elim (λ e. inl e) (λ ok. inr (setup-left given row b fits ok)) (same_or_ok given row (decode b))

pub hub_next : (given : Given) (row : Model.Lent) (h : Model.Hub) (b : List ℕ) → table_stands row.table ≡ true → BlankOrLeft row h
    → BlankOrLeft row (apply (in_force given) h b).hub
hub_next given row h b fits (inl e) =
    subst (λ (k : Model.Hub). BlankOrLeft row (apply (in_force given) k b).hub) (sym e) (blank_next given row b fits)
hub_next given row h b fits (inr (s, e, L)) =
    inr (subst (λ (k : Model.Hub). LeftHub (apply (in_force given) k b).hub) (sym e) (left_next L (under (in_force given) b)))

------------------------------------------------------------------------
-- The memory that a record leaves

module _ (m m' : Memory) (Z : Sized m) (given : Given) where
  -- the hub by value that is written over has its lengths
  hub_sized : (h₀ : Model.Hub) (t : Store)
      → (length (next_hub h₀ t m.hub).workers ≡ 16) × (length (next_hub h₀ t m.hub).times ≡ 448) × (length (next_hub h₀ t m.hub).site.rows ≡ 1024)
      × (length (next_hub h₀ t m.hub).marks ≡ 12) × (length (next_hub h₀ t m.hub).reading ≡ 16) × (length (next_hub h₀ t m.hub).site.rights ≡ 64)
  hub_sized (blank row) t = (refl, length-replicate {A = ℕ} 448 0, length-replicate {A = ℕ} 1024 0, refl, refl, Z.rights)
  hub_sized (up s) t = (Z.workers, Z.times, Z.rows, Z.marks, Z.reading, Z.rights)

  -- over m, which held the hub h₀, the hub h was written, in a window that begins well
  written : (h₀ h : Model.Hub) → ((t : Store) → Begins (next_hub h₀ t m.hub).window) → LeftHub h → m' ≡ write_hub h₀ h m
      → Holds h m' × Sized m'
  written h₀ h B (t, e, L) is =
      let x : Memory = with_hub m (next_hub h₀ t m.hub) in
      let Z' : Sized x =
      record {
        workers = (hub_sized h₀ t).0;
        times = (hub_sized h₀ t).1;
        marks = (hub_sized h₀ t).3;
        reading = (hub_sized h₀ t).4;
        rows = (hub_sized h₀ t).2;
        rights = (hub_sized h₀ t).5;
        newest = Z.newest;
        free = Z.free;
        queue = Z.queue;
        lens = Z.lens;
        merged = Z.merged;
      } in
      subst (λ (k : Model.Hub). Holds k m' × Sized m') (sym e)
      (subst (λ (x : Memory). Left t x × Sized x) (sym (is ∙ ap (λ (k : Model.Hub). write_hub h₀ k m) e)) (
        record { store = L; begins = record { first = (B t).first; from = (B t).from }; laid = written_lies t (sound L) x Z' (B t) },
        written_sized t (sound L) x Z' (B t),
      ))

  -- it is not set up: the memory is as it was
  unwritten : (row : Model.Lent) (h : Model.Hub) → Holds (blank row) m → h ≡ blank row → m' ≡ write_hub (blank row) h m → Holds h m' × Sized m'
  unwritten row h H e is =
      subst (λ (k : Model.Hub). Holds k m' × Sized m') (sym e)
      (subst (λ (x : Memory). Holds (blank row) x × Sized x) (sym (is ∙ ap (λ (k : Model.Hub). write_hub (blank row) k m) e)) (H, Z))

  -- whatever hub the memory held
  pub holds_written : (h : Model.Hub) (b : List ℕ) → Holds h m → m' ≡ write_hub h (apply (in_force given) h b).hub m
      → Holds (apply (in_force given) h b).hub m' × Sized m'
  holds_written (blank row) b H is =
      ⊎_elim (λ e. unwritten row (apply (in_force given) (blank row) b).hub H e is)
      (λ L. written (blank row) (apply (in_force given) (blank row) b).hub (λ t. record { first = omega arith; from = omega arith }) L is)
      (blank_next given row b (ap (λ (x : Model.Lent). table_stands x.table) H.1 ∙ standing-stands m.hub))
  holds_written (up s) b L is =
      let some = All-map (λ l a. a.0) s.queue (sound L.store).bounds.queued in
      written (up s) (apply (in_force given) (up s) b).hub (λ t. begins_after s.queue t.queue m.hub.window some L.begins)
      (left_next L.store (under (in_force given) b)) is

  -- so what a record leaves and answers is as the model has it
  pub as_model_lem : (h : Model.Hub) (b : List ℕ) (y : Answer) → Holds h m
      → m' ≡ write_hub h (apply (in_force given) h b).hub m → answer_of y ≡ (apply (in_force given) h b).answer → AsModel h m (exchange_of given b y ∷ []) m'
  unfolding events hub_after memory_after
  as_model_lem h b y L is a =
      record { answers = λ i. record { given = given; bytes = b; answer = a i } ∷ []; holds = (holds_written h b L is).0; memory = is }

-- what is known of one record
module _ {h : Model.Hub} {m m' : Memory} {x : Exchange} (A : AsModel h m (x ∷ []) m') where
  pub one_answer : x.answer ≡ (apply (in_force x.given) h x.bytes).answer
  unfolding events
  one_answer = ap (λ (l : List Exchange). (get_or l 0 x).answer) A.answers

  pub one_memory : m' ≡ write_hub h (apply (in_force x.given) h x.bytes).hub m
  unfolding memory_after
  one_memory = A.memory

  pub one_holds : Holds (apply (in_force x.given) h x.bytes).hub m'
  unfolding hub_after
  one_holds = A.holds
