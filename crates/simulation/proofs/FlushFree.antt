-- Flush (4): the code's step is the model's. The range that is freed next stands last in the worker's part of memory; its slot's neighbours
-- become each other's, the readers on it move to the older one, and the slot is free.
use mathlib.Core.Path.{◌≡◌, refl, sym, ap, ap₂, ◌∙◌, subst}
use mathlib.Core.Bool.{false}
use mathlib.Core.List.{List, [], ◌∷◌, ◌++◌, map, reverse, reverse-cons}
use Prim.Native.Nat.{ℕ, suc, ◌+◌, ◌-◌, ◌*◌, ◌≤◌, ◌<◌}
use native.Mathlib.Omega.{arith}
use lib.Dec.{eqb, ltb}
use lib.ListN.{length, get_or, set, drop, length-set, length-reverse, get_or-map}
use lib.Seq.{get_or-take, get_or-drop}
use borrow.Author.Tests.{lt-ltb, ne_eqb}
use Rattle.lists.specs.Over.{over}
use Rattle.model.specs.Store as Model
use Rattle.model.specs.Store.{Store, Range, start_worker, worker_at, slot_at, with_worker, with_workers, with_free, with_slots, with_doing}
use Rattle.model.specs.Answer as Model-as-Answer
use Rattle.model.specs.Versions.{unlink_slots}
use Rattle.model.specs.Steps.{step_at, flush_free, move_off, worker_off}
use Rattle.slots.specs.declared.Slot.{Slot}
use Rattle.slots.specs.Slots.{slot_rep}
use Rattle.arrays.specs.Arrays.{short}
use Rattle.versions.specs.Versions.{slot_at_in, unlinked_in}
use Rattle.worker.specs.declared.Worker.{Worker}
use Rattle.worker.specs.declared.Doing.TheVariants as D
use Rattle.worker.specs.Rep.{times_read, doing_rep}
use Rattle.marks.specs.Marks.{read_by}
use Rattle.ranges.specs.Words.{flat}
use Rattle.ranges.proofs.WordLaws.{length-flat, flat-snoc, range-in}
use Rattle.state.specs.declared.Hub.{Hub}
use Rattle.state.specs.State.{empty_hub, at_place, with_workers_in, with_free_in, with_times_in, with_reading_in}
use Rattle.step.specs.declared.Next.TheVariants.{Free}
use Rattle.step.specs.Step.{step_of}
use Rattle.flush.specs.Flush.{part_of}
use Rattle.freeing.specs.Freeing.{next_to_free, one_more, freed_step, freed_row, freed_free}
use Rattle.simulation.specs.Memory.{Memory, times_over, reads_over, hub_rep, hand_words, in_hand_words, merged_over, write}
use Rattle.simulation.specs.Left.{Sized}
use Rattle.simulation.specs.Shell.{off_worker, freed_in, next_in, go_in}
use Rattle.simulation.proofs.Laws.{free_push, merged_map, reads_kept}
use Rattle.simulation.proofs.Sound.{Sound, Apart, PlaceIn}
use Rattle.simulation.proofs.Simulates.{Simulates, record_at, simulated}
use Rattle.simulation.proofs.Laid.{write_kept, cond_yes, cond_no, memory-path, hub_is, slots_is, newest_is, free_is, queue_is}
use Rattle.simulation.proofs.Laid.{lens_is, slot_is}
use Rattle.simulation.proofs.Laid.{place_at, times-kept, worker-put, list_is, list-kept}
use Rattle.simulation.proofs.Rows.{unlinked-row}
use Rattle.simulation.proofs.FlushReaders.{Placed, off_list, off_times, off_all_reads, off_records}

module _ (s : Store) (m : Memory) (w : ℕ) (ρ : Range) (l : List Range) (S : Sound s) (Z : Sized m) (laid : m ≡ write s m) (wb : w < s.site.P)
    (e : (worker_at s w).doing ≡ Model.FlushFree (ρ ∷ l)) (next : Sound (step_at s w (Model.FlushFree (ρ ∷ l))).store) where
  abbrev d : Model.Doing
  d = Model.FlushFree (ρ ∷ l)

  abbrev n : ℕ
  n = suc (length l)

  abbrev c : ℕ
  c = ρ.slot

  abbrev o : ℕ
  o = (slot_at s c).older

  -- the worker's record, then the readers, the slots and the free slots
  abbrev went : Model.Worker
  went = with_doing (worker_at s w) (Model.FlushFree l)

  abbrev ws : List Model.Worker
  ws = set s.workers w went

  abbrev left : Store
  left = with_workers (with_free (with_slots (with_worker s w went) (unlink_slots s.slots c)) (c ∷ s.free)) (map (worker_off c o) ws)

  stepped : step_at s w d ≡ record { store = left; answer = Model-as-Answer.Freed c }
  unfolding step_at flush_free
  stepped = refl

  next-left : Sound left
  next-left = subst (λ (y : Model-as-Answer.Stepped). Sound y.store) stepped next

  within : PlaceIn s (worker_at s w).announced d
  within = place_at s S w wb d e

  apart : Apart s c
  apart = within.2.0

  small : s.site.N ≤ 2048
  small = S.bounds.slots.1

  ----------------------------------------------------------------------
  -- The range that is freed next

  part : part_of m.merged w ≡ over (flat (reverse (ρ ∷ l))) (part_of m.merged w)
  unfolding hand_words
  part = list_is s S w wb m Z laid d e (omega (arith, within.0, length-flat (reverse (ρ ∷ l)), length-reverse (ρ ∷ l)))

  slot_there : get_or m.merged (768 * w + 3 * length l) 0 ≡ c
  unfolding over
  slot_there =
      let y : List ℕ = drop (length (flat (reverse (ρ ∷ l)))) (part_of m.merged w) in
      let b = within.0 in
      sym (get_or-drop (768 * w) m.merged (3 * length l) 0)
      ∙ sym (get_or-take 768 (drop (768 * w) m.merged) (3 * length l) 0 (omega arith))
      ∙ ap (λ (z : List ℕ). get_or z (3 * length l) 0) part
      ∙ ap (λ (z : List Range). get_or (flat z ++ y) (3 * length l) 0) (reverse-cons ρ l)
      ∙ ap (λ (z : Range). z.slot) (range-in (reverse l) y ρ [] (length l) (length-reverse l))

  abbrev freed : ℕ
  freed = next_to_free m.merged w n

  next-is : freed ≡ c
  next-is =
      let b = within.0 in
      let p = S.bounds.workers.1 in
      let i : ℕ = 256 * w + (n - 1) in
      let j : 3 * i ≡ 768 * w + 3 * length l = omega arith in
      cond_yes (ltb i 4096) (get_or m.merged (3 * i) 0) 0 (lt-ltb i 4096 (omega arith)) ∙ ap (λ (k : ℕ). get_or m.merged k 0) j ∙ slot_there

  short-is : short freed ≡ c
  short-is = let i = apart.inside in let k = small in ap short next-is ∙ omega arith

  older_is : short (slot_at_in m.slots freed).older ≡ short o
  older_is =
      ap (λ (i : ℕ). short (slot_at_in m.slots i).older) next-is
      ∙ ap (λ (v : Slot). short v.older) (slot_is s m laid c (rw S.bounds.slots.2 apart.inside))

  ----------------------------------------------------------------------
  -- The parts of memory

  -- a slot more is free, and there is room for it
  room : length s.free < 2048
  room = let k = small in omega (arith, next-left.bounds.total)

  count_left : one_more m.hub.free ≡ suc (length s.free)
  count_left =
      let k = length s.free in
      ap (λ (h : Hub). one_more h.free) (hub_is s m laid) ∙ cond_yes (ltb k 2048) (k + 1) k (lt-ltb k 2048 room) ∙ omega arith

  free_left : set m.free m.hub.free (short freed) ≡ over (reverse (c ∷ s.free)) m.free
  free_left =
      ap₂ (set m.free) (ap (λ (h : Hub). h.free) (hub_is s m laid)) short-is
      ∙ free_push c s.free m.free (rw Z.free room) (free_is s m laid)

  slots_left : unlinked_in m.slots freed ≡ over (map slot_rep (unlink_slots s.slots c)) m.slots
  slots_left =
      let k = S.bounds.slots.2 in
      ap (unlinked_in m.slots) next-is
      ∙ ap (λ (r : List Slot). unlinked_in r c) (slots_is s m laid)
      ∙ unlinked-row s.slots m.slots c (rw k apart.inside) (rw k apart.newer) (omega (arith, small)) (rw k apart.older)

  merged_left : m.merged ≡ merged_over (map (worker_off c o) ws) m.merged
  unfolding hand_words
  merged_left =
      let last : List ℕ = ρ.slot ∷ ρ.low ∷ ρ.high ∷ [] in
      list-kept s S w wb m Z laid d went last e (ap flat (reverse-cons ρ l) ∙ flat-snoc (reverse l) ρ)
      ∙ sym (merged_map 768 (λ y. in_hand_words y.doing) (worker_off c o) (off_list left c o small) ws m.merged)

  times_left : m.hub.times ≡ times_over (map (worker_off c o) ws) m.hub.times
  times_left =
      times-kept s S w wb m Z laid d went [] e refl
      ∙ sym (merged_map 28 (λ y. times_read y.doing) (worker_off c o) (off_times left c o small) ws m.hub.times)

  -- the readers
  placed : Placed left c o small ws
  unfolding worker_off move_off
  placed v h =
      let k : v < s.site.P = subst (λ (z : ℕ). v < z) (length-set s.workers w went ∙ S.bounds.workers.2) h in
      let t = (worker_at left v).announced in
      (t, subst (λ (z : Model.Worker). PlaceIn left t z.doing) (get_or-map (worker_off c o) ws v start_worker) (next-left.places v k))

  -- the sixteen records of h with k ranges left to worker w, the readers moved from slot i to slot j
  abbrev moved_in : ℕ → ℕ → Hub → ℕ → List Worker
  moved_in i j h k = map (off_worker i j) (set h.workers w (at_place (record_at s w d) (D.FlushFree k)))

  workers_left : moved_in (short freed) (short (slot_at_in m.slots freed).older) m.hub (n - 1) ≡ (hub_rep left empty_hub).workers
  workers_left =
      let less : n - 1 ≡ length l = omega arith in
      (λ i. moved_in (short-is i) (older_is i) (hub_is s m laid i) (less i))
      ∙ ap (λ (h : Hub). map (off_worker c (short o)) h.workers) (worker-put s S w wb m Z laid d went [] e refl refl)
      ∙ off_records left c o small ws placed

  reads-left : m.hub.reading ≡ reads_over (map (worker_off c o) ws)
  reads-left =
      ap (λ (h : Hub). h.reading) (hub_is s m laid)
      ∙ reads_kept s w went S.bounds.workers.2 wb (ap (λ (y : Model.Doing). read_by (doing_rep y)) (sym e))
      ∙ sym (off_all_reads left c o small ws)

  pub freed_sim : Simulates s m w d
  unfolding go_in step_of next_in freed_in freed_step freed_row freed_free
  freed_sim =
      let some : eqb n 0 ≡ false = ne_eqb n 0 (λ z. omega arith) in
      simulated s m w d S laid wb e _ _ stepped
      (ap (next_in m w (record_at s w d)) (cond_no (eqb n 0) _ (Free n) some))
      (memory-path
      (λ i. with_reading_in (with_times_in (with_free_in (with_workers_in (hub_is s m laid i) (workers_left i)) (count_left i)) (times_left i)) (reads-left i))
      slots_left (newest_is s m laid) free_left (queue_is s m laid) (lens_is s m laid) merged_left ∙ write_kept s left m (omega arith))
      (ap Model-as-Answer.Freed short-is)
