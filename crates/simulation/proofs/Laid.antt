-- Memory in which a store lies, part by part: two memories and two hubs are equal by their fields, and what is known of one worker.
use mathlib.Core.Path.{◌≡◌, refl, sym, ap, ◌∙◌, subst}
use mathlib.Core.Bool.{Bool, true, false, true≢false, cond}
use mathlib.Core.List.{List, ◌++◌, map, reverse}
use Prim.Native.Nat.{ℕ, ◌*◌, ◌≤◌, ◌<◌}
use mathlib.Core.Logic.{⊎_elim}
use lib.Dec.{eqb}
use lib.ListN.{length, get_or, set, replicate, length-set, length-map}
use Rattle.lists.proofs.Over.{take-over}
use lib.Seq.{get_or-set_same}
use native.Mathlib.Omega.{arith}
use Rattle.lists.specs.Over.{over, over_at}
use Rattle.model.specs.Store as Model
use Rattle.model.specs.Store.{Store, up, start_worker, worker_at, slot_at, with_worker, with_doing}
use Rattle.model.specs.Demand.{All}
use Rattle.model.proofs.Basic.{All-at, eq_cases}
use Rattle.worker.specs.Rep.{times_read, doing_rep, worker_rep}
use Rattle.marks.specs.Marks.{read_by, read_next}
use Rattle.slots.specs.declared.Slot.{Slot}
use Rattle.slots.specs.Slots.{slot_rep, vacant_slot}
use Rattle.ranges.specs.Words.{flat}
use Rattle.queue.specs.Rep.{joined_ranges}
use Rattle.state.specs.declared.Site.{Site}
use Rattle.state.specs.declared.Hub.{Hub}
use Rattle.state.specs.State.{empty_hub, worker_in, with_worker_in, with_window_in, with_times_in, with_reading_in}
use Rattle.flush.specs.Flush.{part_of, with_part}
use Rattle.values.specs.declared.Window.{Window}
use Rattle.simulation.specs.Shell.{rows_kept, marks_read, read_after}
use Rattle.simulation.specs.Memory.{Memory, times_over, read_of, reads_over, hub_rep, in_hand_words, merged_over, write, with_hub, write_hub}
use Rattle.queue.proofs.Rep.{window_kept}
use Rattle.simulation.specs.Left.{Sized}
use Rattle.simulation.proofs.Laws.{worker_in_lem, read_at, reads-set, worker_set, worker_same, slot-at, part-of, part_set, part_kept}
use Rattle.simulation.proofs.Sound.{Sound, PlaceIn}

------------------------------------------------------------------------
-- A test that is decided

pub cond_yes : {A : Type 0} (t : Bool) (x y : A) → t ≡ true → cond t x y ≡ x
cond_yes true x y e = refl
cond_yes false x y e = absurd (true≢false (sym e))

pub cond_no : {A : Type 0} (t : Bool) (x y : A) → t ≡ false → cond t x y ≡ y
cond_no true x y e = absurd (true≢false e)
cond_no false x y e = refl

------------------------------------------------------------------------
-- Records by their fields

pub memory-path : {m m' : Memory} → m.hub ≡ m'.hub → m.slots ≡ m'.slots → m.newest ≡ m'.newest → m.free ≡ m'.free → m.queue ≡ m'.queue
    → m.lens ≡ m'.lens → m.merged ≡ m'.merged → m ≡ m'
memory-path h s n f q l g =
    λ i. record { hub = h i; slots = s i; newest = n i; free = f i; queue = q i; lens = l i; merged = g i }

pub site_path : {x y : Site} → x.p ≡ y.p → x.v ≡ y.v → x.n ≡ y.n → x.batch ≡ y.batch → x.listed ≡ y.listed → x.rows ≡ y.rows
    → x.granted ≡ y.granted → x.rights ≡ y.rights → x ≡ y
site_path p v n b k r g t =
    λ i. record { p = p i; v = v i; n = n i; batch = b i; listed = k i; rows = r i; granted = g i; rights = t i }

pub hub_path : {h h' : Hub} → h.site ≡ h'.site → h.clock ≡ h'.clock → h.free ≡ h'.free → h.window ≡ h'.window → h.times ≡ h'.times
    → h.marks ≡ h'.marks → h.reading ≡ h'.reading → h.workers ≡ h'.workers → h ≡ h'
hub_path x c f q t g b w =
    λ i. record { site = x i; clock = c i; free = f i; window = q i; times = t i; marks = g i; reading = b i; workers = w i }

------------------------------------------------------------------------
-- The member of a list that was replaced
pub all_set : {A : Type 0} (P : A → Type 0) (l : List A) (i : ℕ) (x : A) → i < length l → All P (set l i x) → P x
all_set P l i x h t = subst P (get_or-set_same l i x x h) (All-at P (set l i x) i x (rw (length-set l i x) h) t)

------------------------------------------------------------------------
-- Memory in which the store s lies

module _ (s : Store) (m : Memory) (laid : m ≡ write s m) where
  pub hub_is : m.hub ≡ hub_rep s m.hub
  hub_is = ap (λ (x : Memory). x.hub) laid

  pub slots_is : m.slots ≡ over (map slot_rep s.slots) m.slots
  slots_is = ap (λ (x : Memory). x.slots) laid

  pub newest_is : m.newest ≡ over s.newest m.newest
  newest_is = ap (λ (x : Memory). x.newest) laid

  pub free_is : m.free ≡ over (reverse s.free) m.free
  free_is = ap (λ (x : Memory). x.free) laid

  pub queue_is : m.queue ≡ over_at (3 * m.hub.window.from) (flat (joined_ranges s.queue)) m.queue
  queue_is = ap (λ (x : Memory). x.queue) laid

  pub lens_is : m.lens ≡ over_at m.hub.window.first (map length s.queue) m.lens
  lens_is = ap (λ (x : Memory). x.lens) laid

  pub times_is : m.hub.times ≡ times_over s.workers m.hub.times
  times_is = ap (λ (x : Memory). x.hub.times) laid

  pub merged_is : m.merged ≡ merged_over s.workers m.merged
  merged_is = ap (λ (x : Memory). x.merged) laid

  -- the rows of totals that count
  pub rows_is : rows_kept m.hub ≡ s.site.rows
  rows_is =
      ap (λ (x : Memory). rows_kept x.hub) laid ∙ take-over s.site.rows m.hub.site.rows (length s.site.rows) refl

  -- which mark each worker reads
  pub reads-is : length s.workers ≡ s.site.P → marks_read m.hub ≡ map read_of s.workers
  reads-is e =
      ap (λ (x : Memory). marks_read x.hub) laid
      ∙ take-over (map read_of s.workers) (replicate 16 0) s.site.P (length-map s.workers read_of ∙ e)

  -- the batch size
  pub batch_is : m.hub.site.batch ≡ s.site.B
  batch_is = ap (λ (x : Memory). x.hub.site.batch) laid

  pub marks_is : m.hub.marks ≡ s.marks
  marks_is = ap (λ (x : Memory). x.hub.marks) laid

  -- a slot that is loaded
  pub slot_is : (c : ℕ) → c < length s.slots → get_or m.slots c vacant_slot ≡ slot_rep (slot_at s c)
  slot_is c h = ap (λ (l : List Slot). get_or l c vacant_slot) slots_is ∙ slot-at s.slots m.slots c h

-- a store without fewer pools is written where the window begins
pub write_kept : (s t : Store) (m : Memory) → length s.queue ≤ length t.queue → write t m ≡ write_hub (up s) (up t) m
write_kept s t m h =
    ap (λ (v : Window). write t (with_hub m (with_window_in m.hub v))) (sym (window_kept s.queue t.queue m.hub.window h))

------------------------------------------------------------------------
-- A worker of a sound store

module _ (s : Store) (S : Sound s) (w : ℕ) (wb : w < s.site.P) where
  -- of the hub by value, at the place d
  pub worker_at_lem : (d : Model.Doing) → (worker_at s w).doing ≡ d → worker_in (hub_rep s empty_hub) w ≡ worker_rep (with_doing (worker_at s w) d)
  worker_at_lem d e =
      worker_in_lem s w S.bounds.workers.2 S.bounds.workers.1 wb ∙ ap (λ (y : Model.Doing). worker_rep (with_doing (worker_at s w) y)) e

  pub place_at : (d : Model.Doing) → (worker_at s w).doing ≡ d → PlaceIn s (worker_at s w).announced d
  place_at d e = subst (λ (y : Model.Doing). PlaceIn s (worker_at s w).announced y) e (S.places w wb)

  pub among : w < length s.workers
  among = subst (λ (k : ℕ). w < k) (sym S.bounds.workers.2) wb

  pub pool_short : length (worker_at s w).pool ≤ s.site.B
  pool_short = All-at (λ x. length x.pool ≤ s.site.B) s.workers w start_worker among S.bounds.local

  -- the list that it has in hand, in memory in which the store lies
  module _ (m : Memory) (Z : Sized m) (laid : m ≡ write s m) where
    at-most-16 : length s.workers ≤ 16
    at-most-16 = rw S.bounds.workers.2 S.bounds.workers.1

    -- its record replaced, where a front part of the times that it has read is left
    pub times-kept : (d : Model.Doing) (x : Model.Worker) (l : List ℕ) → (worker_at s w).doing ≡ d → times_read d ≡ times_read x.doing ++ l
        → m.hub.times ≡ times_over (set s.workers w x) m.hub.times
    times-kept d x l e h =
        part_kept 28 (λ y. times_read y.doing) s.workers m.hub.times w x l (omega (arith, at-most-16, Z.times)) among
        (ap times_read e ∙ h) (times_is s m laid)

    -- where it reads marks as before
    pub worker-put : (d : Model.Doing) (x : Model.Worker) (l : List ℕ) → (worker_at s w).doing ≡ d → times_read d ≡ times_read x.doing ++ l
        → read_of x ≡ read_by (doing_rep d)
        → with_worker_in (hub_rep s m.hub) w (worker_rep x) ≡ hub_rep (with_worker s w x) m.hub
    worker-put d x l e h q =
        worker_same s m.hub w x S.bounds.workers.2 S.bounds.workers.1 wb (q ∙ ap (λ (y : Model.Doing). read_by (doing_rep y)) (sym e))
        ∙ ap (with_times_in (hub_rep (with_worker s w x) m.hub)) (sym (times_is s m laid) ∙ times-kept d x l e h)

    -- what stands for it among what is read of marks, after a step to another place
    read-after : (d : Model.Doing) (x : Model.Worker) → (worker_at s w).doing ≡ d
        → read_after (hub_rep s m.hub) w (worker_rep (with_doing (worker_at s w) d)) (doing_rep x.doing) ≡ reads_over (set s.workers w x)
    read-after d x e =
        let old : get_or (reads_over s.workers) w 0 ≡ read_by (doing_rep d) =
        read_at s w S.bounds.workers.2 wb ∙ ap (λ (y : Model.Doing). read_by (doing_rep y)) e in
        ap (set (reads_over s.workers) w)
        (ap (read_next (doing_rep d) (doing_rep x.doing)) old ∙ next-is (read_by (doing_rep d)) (read_of x))
        ∙ reads-set s w x S.bounds.workers.2 wb
      where
        next-is : (a b : ℕ) → cond (eqb a b) a b ≡ b
        next-is a b = ⊎_elim (λ u. rw u.1 u.0) (λ u. rw u.1) (eq_cases a b)

    pub worker-taken : (d : Model.Doing) (x : Model.Worker) (l : List ℕ) → (worker_at s w).doing ≡ d → times_read d ≡ times_read x.doing ++ l
        → with_reading_in (with_worker_in (hub_rep s m.hub) w (worker_rep x))
        (read_after (hub_rep s m.hub) w (worker_rep (with_doing (worker_at s w) d)) (doing_rep x.doing))
        ≡ hub_rep (with_worker s w x) m.hub
    worker-taken d x l e h =
        ap (with_reading_in (with_worker_in (hub_rep s m.hub) w (worker_rep x))) (read-after d x e)
        ∙ worker_set s m.hub w x S.bounds.workers.2 S.bounds.workers.1 wb
        ∙ ap (with_times_in (hub_rep (with_worker s w x) m.hub)) (sym (times_is s m laid) ∙ times-kept d x l e h)

    pub list_is : (d : Model.Doing) → (worker_at s w).doing ≡ d → length (in_hand_words d) ≤ 768
        → part_of m.merged w ≡ over (in_hand_words d) (part_of m.merged w)
    list_is d e h =
        part-of 768 (λ y. in_hand_words y.doing) s.workers m.merged w (omega (arith, at-most-16, Z.merged)) among (merged_is s m laid)
        ∙ ap (λ (y : Model.Doing). over (in_hand_words y) (part_of m.merged w)) e

    -- a front part of it is left
    pub list-kept : (d : Model.Doing) (x : Model.Worker) (l : List ℕ) → (worker_at s w).doing ≡ d → in_hand_words d ≡ in_hand_words x.doing ++ l
        → m.merged ≡ merged_over (set s.workers w x) m.merged
    list-kept d x l e h =
        part_kept 768 (λ y. in_hand_words y.doing) s.workers m.merged w x l (omega (arith, at-most-16, Z.merged)) among
        (ap in_hand_words e ∙ h) (merged_is s m laid)

    -- another list is put there
    pub list_put : (x : Model.Worker) → length (in_hand_words x.doing) ≤ 768
        → with_part m.merged w (over (in_hand_words x.doing) (part_of m.merged w)) ≡ merged_over (set s.workers w x) m.merged
    list_put x h =
        part_set 768 (λ y. in_hand_words y.doing) s.workers m.merged w x (omega (arith, at-most-16, Z.merged)) among (merged_is s m laid)
