-- Memory in which a sound store lies counts as set up: each entry that has a range is one of the store's, and the store's numbers are in
-- range.
use mathlib.Core.Path.{◌≡◌, refl, sym, ap, ◌∙◌, subst}
use mathlib.Core.Bool.{Bool, true, false, ◌&&◌, ◌||◌}
use mathlib.Core.Logic.{◌⊎◌, inl, inr, ⊎_elim}
use mathlib.Core.List.{List, [], ◌∷◌, map, reverse}
use Prim.Native.Nat.{ℕ, ◌+◌, ◌*◌, ◌-◌, ◌≤◌, ◌<◌}
use native.Mathlib.Omega.{arith}
use lib.Dec.{leb}
use lib.ListN.{length, get_or, drop, length-map, length-append, length-reverse}
use lib.Seq.{get_or-take, get_or-drop}
use borrow.Author.Tests.{ltb-true, lt-ltb, le-leb, lt-leb, eq-eqb}
use Rattle.lists.specs.Over.{over}
use Rattle.lists.proofs.Over.{get_d_over_in}
use Rattle.model.specs.Store as Model
use Rattle.model.specs.Store.{Store, Range, absent, mark_count, start_worker, worker_at, newest_of}
use Rattle.model.specs.About.{about}
use Rattle.model.specs.Demand.{All}
use Rattle.model.specs.Rules.{twelve_digits}
use Rattle.model.specs.Totals.{group_of, sign_of, register_of, row_at}
use Rattle.model.specs.Reached.{sum_by, in_hand, versions_held, TotalFits}
use Rattle.model.proofs.Basic.{All-map, All-occurrences, get_d_map, All-at, and_both}
use Rattle.model.proofs.Totals.{row_fits_lem}
use Rattle.theorem.proofs.Count.{sum_by-one}
use Rattle.places.specs.About.{mark_read, about_of}
use Rattle.worker.specs.Rep.{times_read, padded, pool_rep, purpose_rep, doing_rep}
use Rattle.worker.proofs.Rep.{padded-at}
use Rattle.slots.specs.Slots.{vacant_slot}
use Rattle.values.specs.declared.Window.{Window}
use Rattle.state.specs.State.{empty_hub, worker_in}
use Rattle.ranges.specs.Words.{flat}
use Rattle.ranges.proofs.WordLaws.{length-flat}
use Rattle.queue.specs.State.{Begins}
use Rattle.queue.specs.Rep.{joined_ranges}
use Rattle.queue.proofs.Rep.{lens_held, words-held}
use Rattle.flush.specs.Flush.{part_of}
use Rattle.ready_place.specs.Place.{named_below, read_fits, purpose_fits, place_fits}
use Rattle.ready_queue.specs.Queue.{lens_sum}
use Rattle.ready_worker.specs.Worker.{pool_fits, list_fits, ranges_fit, hand_fits, worker_fits}
use Rattle.simulation.specs.Memory.{Memory, memory, hub_rep, hand_words, in_hand_words, write}
use Rattle.simulation.specs.Left.{Sized, ready}
use Rattle.simulation.specs.Shell.{queue_in}
use Rattle.simulation.proofs.FlushQueue.{queue_sized, queue_held}
use Rattle.simulation.specs.Ranges.{length_in, InRanges}
use Rattle.simulation.proofs.Each.{All-reverse, All-joined}
use Rattle.simulation.proofs.Rights.{few_rights, rights-in}
use Rattle.simulation.proofs.Scans as Scans
use Rattle.simulation.proofs.Scans.{ranges_below, NearIn, lens_sum_lem}
use Rattle.simulation.proofs.Ranges.{local, list, worker-tells, ready-exact}
use Rattle.simulation.proofs.Laws.{get_d_inside, slots_long}
use Rattle.simulation.proofs.Sound.{RangeIn, MarkIn, PlaceIn, Sound}
use Rattle.simulation.proofs.Laid.{memory-path, hub_is, slots_is, newest_is, free_is, slot_is}
use Rattle.simulation.proofs.Laid.{worker_at_lem, among, pool_short, list_is}

------------------------------------------------------------------------
-- One worker

-- a total's row and sums
purpose_yes : (rows : List ℕ) (y : Model.Purpose) → TotalFits rows y → purpose_fits (purpose_rep y) (length rows) ≡ true
purpose_yes rows Model.Single f = refl
purpose_yes rows (Model.Marked m) f = refl
purpose_yes rows (Model.Totaling g i y) f =
    rw (lt-ltb i (length rows) f.0, le-leb y.plus (31 * twelve_digits) (omega (arith, f.2)), le-leb y.minus (31 * twelve_digits) (omega (arith, f.2)))

place-yes : (s : Store) (t : ℕ) (d : Model.Doing) → PlaceIn s t d
    → TotalFits s.site.rows (about d).purpose
    → place_fits (about_of (doing_rep d)) s.site.P s.site.V' s.site.N (length s.site.rows) ≡ true
unfolding place_fits
place-yes s t d a f = go d a f
  where
    p : ℕ
    p = s.site.P

    v : ℕ
    v = s.site.V'

    n : ℕ
    n = s.site.N

    -- where no times are read there is nothing to test
    none : read_fits 0 p ≡ true
    none = rw (le-leb 0 p (omega arith))

    or_true : (t : Bool) → (t || true) ≡ true
    or_true true = refl
    or_true false = refl

    -- a flush has read no more than all workers' times, or all
    some : (j : ℕ) → (j ≤ p) ⊎ (j ≡ p + mark_count) → read_fits j p ≡ true
    some j (inl h) = rw (le-leb j p h)
    some j (inr h) = rw (eq-eqb j (p + mark_count) h) (or_true (leb j p))

    mark-yes : (y : Model.Purpose) → MarkIn y → named_below (mark_read (purpose_rep y)) mark_count ≡ true
    mark-yes Model.Single b = refl
    mark-yes (Model.Marked m) b = lt-ltb m mark_count b
    mark-yes (Model.Totaling g i y) b = refl

    k : List ℕ
    k = s.site.rows

    go : (d : Model.Doing) → PlaceIn s t d → TotalFits k (about d).purpose → place_fits (about_of (doing_rep d)) p v n (length k) ≡ true
    go Model.Idle a f = rw none
    go (Model.PutPublish r x) a f = rw (lt-ltb r v a, none)
    go (Model.PutStamp r c) a f = rw (lt-ltb r v a.0, lt-ltb c n a.1, none)
    go (Model.PutHandIn r c) a f = rw (lt-ltb r v a.0, lt-ltb c n a.1, none)
    go Model.FlushTake a f = rw none
    go (Model.FlushRead m ts) a f = rw (some (length ts) a.2)
    go (Model.FlushFree m) a f = rw none
    go (Model.OnTime Model.OpenAnnounce) a f = rw none
    go (Model.OnTime Model.OpenPass) a f = rw none
    go (Model.OnTime Model.CloseWithdraw) a f = rw none
    go (Model.OnTime (Model.MarkKeep m)) a f = rw (none, lt-ltb m mark_count a)
    go (Model.OnTime (Model.MarkRelease m)) a f = rw (none, lt-ltb m mark_count a)
    go (Model.ReadEnter g) a f = rw (lt-ltb g.register v a.0, none, purpose_yes k g.purpose f, mark-yes g.purpose a.1)
    go (Model.ReadStand g c) a f =
        rw (lt-ltb g.register v a.0, lt-ltb c n a.1, none, purpose_yes k g.purpose f, mark-yes g.purpose a.2)
    go (Model.GetShow r) a f = rw (lt-ltb r v a, none)

-- a list of ranges in a worker's part of the memory
list_yes : (l : List Range) (n w : ℕ) (merged : List ℕ) (most : ℕ) → length l ≤ most → length l ≤ 256 → All (λ ρ. ρ.slot < n) l
    → part_of merged w ≡ over (flat l) (part_of merged w) → list_fits (length l) w merged most n ≡ true
list_yes l n w merged most h g t e = Scans.list_yes w merged most n (length l) h at
  where
    at : (j : ℕ) → j < length l → get_or merged (3 * (256 * w + j)) 0 < n
    at j b =
        let k : 768 * w + 3 * j ≡ 3 * (256 * w + j) = omega arith in
        let f : get_or (part_of merged w) (3 * j) 0 ≡ get_or merged (3 * (256 * w + j)) 0 =
        get_or-take 768 (drop (768 * w) merged) (3 * j) 0 (omega arith) ∙ get_or-drop (768 * w) merged (3 * j) 0 ∙ ap (λ (i : ℕ). get_or merged i 0) k in
        omega (arith, f, ap (λ (d : List ℕ). get_or d (3 * j) 0) e, ranges_below l (part_of merged w) n t j b)

slots-of : (s : Store) (l : List Range) → All (RangeIn s) l → All (λ ρ. ρ.slot < s.site.N) l
slots-of s l t = All-map (λ ρ a. a.0) l t

hand_yes : (s : Store) (t : ℕ) (d : Model.Doing) (w : ℕ) (merged : List ℕ) (most : ℕ) → PlaceIn s t d → in_hand (about d).hand ≤ most
    → part_of merged w ≡ over (in_hand_words d) (part_of merged w) → ranges_fit (about_of (doing_rep d)).ranges w merged most s.site.N ≡ true
unfolding hand_words
hand_yes s t Model.Idle w merged most a h e = refl
hand_yes s t (Model.PutPublish r x) w merged most a h e = refl
hand_yes s t (Model.PutStamp r c) w merged most a h e = refl
hand_yes s t (Model.PutHandIn r c) w merged most a h e = refl
hand_yes s t Model.FlushTake w merged most a h e = refl
hand_yes s t (Model.FlushRead m ts) w merged most a h e = list_yes m s.site.N w merged most h a.0 (slots-of s m a.1) e
hand_yes s t (Model.FlushFree m) w merged most a h e =
    subst (λ (k : ℕ). list_fits k w merged most s.site.N ≡ true) (length-reverse m)
    (list_yes (reverse m) s.site.N w merged most (omega (arith, length-reverse m, h)) (omega (arith, length-reverse m, a.0))
    (All-reverse (λ (ρ : Range). ρ.slot < s.site.N) m (slots-of s m a.1)) e)
hand_yes s t (Model.OnTime Model.OpenAnnounce) w merged most a h e = refl
hand_yes s t (Model.OnTime Model.OpenPass) w merged most a h e = refl
hand_yes s t (Model.OnTime Model.CloseWithdraw) w merged most a h e = refl
hand_yes s t (Model.OnTime (Model.MarkKeep m)) w merged most a h e = refl
hand_yes s t (Model.OnTime (Model.MarkRelease m)) w merged most a h e = refl
hand_yes s t (Model.ReadEnter g) w merged most a h e = refl
hand_yes s t (Model.ReadStand g c) w merged most a h e = refl
hand_yes s t (Model.GetShow r) w merged most a h e = refl

-- the list in hand fits the worker's part
pub hand_short : (s : Store) (t : ℕ) (d : Model.Doing) → PlaceIn s t d → length (in_hand_words d) ≤ 768
unfolding hand_words
hand_short s t Model.Idle a = omega arith
hand_short s t (Model.PutPublish r x) a = omega arith
hand_short s t (Model.PutStamp r c) a = omega arith
hand_short s t (Model.PutHandIn r c) a = omega arith
hand_short s t Model.FlushTake a = omega arith
hand_short s t (Model.FlushRead m ts) a = omega (arith, length-flat m, a.0)
hand_short s t (Model.FlushFree m) a = omega (arith, length-flat (reverse m), length-reverse m, a.0)
hand_short s t (Model.OnTime y) a = omega arith
hand_short s t (Model.ReadEnter g) a = omega arith
hand_short s t (Model.ReadStand g c) a = omega arith
hand_short s t (Model.GetShow r) a = omega arith

-- the times read fit the worker's part
pub times_short : (s : Store) → Sound s → (t : ℕ) (d : Model.Doing) → PlaceIn s t d → length (times_read d) ≤ 28
times_short s S t Model.Idle a = omega arith
times_short s S t (Model.PutPublish r x) a = omega arith
times_short s S t (Model.PutStamp r c) a = omega arith
times_short s S t (Model.PutHandIn r c) a = omega arith
times_short s S t Model.FlushTake a = omega arith
times_short s S t (Model.FlushRead m ts) a =
    ⊎_elim (λ u. omega (arith, u, S.bounds.workers.1)) (λ u. omega (arith, u, S.bounds.workers.1)) a.2
times_short s S t (Model.FlushFree m) a = omega arith
times_short s S t (Model.OnTime y) a = omega arith
times_short s S t (Model.ReadEnter g) a = omega arith
times_short s S t (Model.ReadStand g c) a = omega arith
times_short s S t (Model.GetShow r) a = omega arith

-- a local pool
pool_fits_lem : (s : Store) (l : List Range) (most : ℕ) → length l ≤ most → length l ≤ 64 → All (RangeIn s) l
    → pool_fits (pool_rep l) most s.site.N ≡ true
pool_fits_lem s l most h g t = Scans.pool_yes (pool_rep l) most s.site.N h at
  where
    z : Range
    z = record { slot = 0; low = 0; high = 0 }

    at : (i : ℕ) → i < length l → get_or (padded 64 (map (λ ρ. ρ.slot) l)) i 0 < s.site.N
    at i b =
        let e : get_or (padded 64 (map (λ (ρ : Range). ρ.slot) l)) i 0 ≡ (get_or l i z).slot =
        padded-at 64 (map (λ (ρ : Range). ρ.slot) l) i (omega (arith, length-map l (λ (ρ : Range). ρ.slot)))
        ∙ get_d_map (λ (ρ : Range). ρ.slot) l i z 0 b in
        omega (arith, e, All-at (λ (ρ : Range). ρ.slot < s.site.N) l i z b (slots-of s l t))

------------------------------------------------------------------------
-- All of the memory

-- the ranges of the queued pools, counted
pub length-joined : (q : List (List Range)) → length (joined_ranges q) ≡ sum_by length q
unfolding sum_by
length-joined [] = refl
length-joined (l ∷ q) = omega (arith, length-append l (joined_ranges q), length-joined q)

-- pools of at least one range are no more than their ranges
each_counted : (q : List (List Range)) → All (λ l. 1 ≤ length l) q → length q ≤ sum_by length q
unfolding sum_by
each_counted [] t = omega arith
each_counted (l ∷ q) t = omega (arith, t.0, each_counted q t.1)

module _ {s : Store} (m : Memory) (S : Sound s) (Z : Sized m) (B : Begins m.hub.window) (laid : m ≡ write s m) where
  -- the memory with the store's hub in place of its own, which is the same
  abbrev same : Memory
  same = memory (hub_rep s m.hub) m.slots m.newest m.free m.queue m.lens m.merged

  -- what a worker holds is no newest version
  held : (w : ℕ) → w < s.site.P
      → in_hand (about (worker_at s w).doing).hand + length (worker_at s w).pool ≤ s.site.N - s.site.V'
  held w b = omega (arith, S.bounds.total, sum_by-one versions_held s.workers w start_worker (among s S w b))

  hand_few : (w : ℕ) → w < s.site.P → in_hand (about (worker_at s w).doing).hand ≤ 4 * s.site.B
  hand_few w b =
      let a = All-at (λ (x : Model.Worker). in_hand (about x.doing).hand ≤ 4 * s.site.B) s.workers w start_worker (among s S w b)
      S.bounds.merged in
      omega (arith, a)

  worker_yes : (w : ℕ) → w < s.site.P
      → worker_fits (worker_in (hub_rep s empty_hub) w) w m.merged (local same) (list same) s.site.P s.site.V' s.site.N
      (length s.site.rows)
      ≡ true
  unfolding worker_fits hand_fits
  worker_yes w b =
      let t : ℕ = (worker_at s w).announced in
      let d : Model.Doing = (worker_at s w).doing in
      let pool : length (worker_at s w).pool ≤ local same = omega (arith, pool_short s S w b, held w b) in
      let hand : in_hand (about d).hand ≤ list same = omega (arith, hand_few w b, held w b) in
      rw (
        worker_at_lem s S w b d refl,
        place-yes s t d (S.places w b) (All-at (λ x. TotalFits s.site.rows (about x.doing).purpose) s.workers w start_worker
            (among s S w b) S.bounds.totals),
        pool_fits_lem s (worker_at s w).pool (local same) pool (omega (arith, S.bounds.batch.1, pool_short s S w b)) (S.pools w b),
        lt-leb 16 w (omega (arith, b, S.bounds.workers.1)),
        hand_yes s t d w m.merged (list same) (S.places w b) hand
            (list_is s S w b m Z laid d refl (hand_short s t d (S.places w b))),
      )

  newest_below : (r : ℕ) → r < s.site.V' → get_or m.newest r 0 < s.site.N
  newest_below r b =
      let h : r < length s.newest = omega (arith, b, S.bounds.registers.2) in
      let e : get_or m.newest r 0 ≡ newest_of s r =
      ap (λ (l : List ℕ). get_or l r 0) (newest_is s m laid) ∙ get_d_over_in s.newest m.newest r 0 h ∙ get_d_inside s.newest r 0 absent h in
      omega (arith, e, S.newest r b)

  rows-below : (i : ℕ) → i < length s.site.rows → register_of (row_at (over s.site.rows m.hub.site.rows) i) < s.site.V'
  rows-below i b =
      let e : row_at (over s.site.rows m.hub.site.rows) i ≡ row_at s.site.rows i = get_d_over_in s.site.rows m.hub.site.rows i 0 b in
      let row : ℕ = row_at s.site.rows i in
      rw e (ltb-true (register_of row) s.site.V'
      (and_both (leb (group_of row) 31 && leb (sign_of row) 1) _ (row_fits_lem s.site.V' 0 0 s.site.rows S.bounds.rows.0 i b)).1)

  free_below : (i : ℕ) → i < length s.free → get_or m.free i 0 < s.site.N
  free_below i b =
      let h : i < length (reverse s.free) = omega (arith, b, length-reverse s.free) in
      let e : get_or m.free i 0 ≡ get_or (reverse s.free) i 0 =
      ap (λ (l : List ℕ). get_or l i 0) (free_is s m laid) ∙ get_d_over_in (reverse s.free) m.free i 0 h in
      let t : All (λ (f : ℕ). f < s.site.N) (reverse s.free) = All-reverse (λ (f : ℕ). f < s.site.N) s.free
      (All-occurrences s.free S.free) in
      omega (arith, e, All-at (λ (f : ℕ). f < s.site.N) (reverse s.free) i 0 h t)

  abbrev w : Window
  w = m.hub.window

  queue_below : (j : ℕ) → j < length (joined_ranges s.queue) → get_or m.queue (3 * (w.from + j)) 0 < s.site.N
  queue_below j b =
      let l : List Range = joined_ranges s.queue in
      let d : List ℕ = drop (3 * w.from) m.queue in
      let i : 3 * (w.from + j) ≡ 3 * w.from + 3 * j = omega arith in
      let e : get_or m.queue (3 * (w.from + j)) 0 ≡ get_or (over (flat l) d) (3 * j) 0 =
      ap (λ (k : ℕ). get_or m.queue k 0) i
      ∙ sym (get_or-drop (3 * w.from) m.queue (3 * j) 0)
      ∙ ap (λ (q : List ℕ). get_or q (3 * j) 0) (words-held s.queue (queue_in m) (queue_sized m Z) B (queue_held s m laid)) in
      omega (arith, e, ranges_below l d s.site.N (slots-of s l (All-joined (RangeIn s) s.queue S.queue)) j b)

  lens_behind : drop w.first m.lens ≡ over (map length s.queue) (drop w.first m.lens)
  lens_behind = lens_held s.queue (queue_in m) (queue_sized m Z) B (queue_held s m laid)

  lens_in : (i : ℕ) → i < length s.queue → (1 ≤ length_in m i) × (length_in m i ≤ 2 * s.site.B)
  lens_in i b =
      let h : i < length (map length s.queue) = omega (arith, b, length-map s.queue length) in
      let e : length_in m i ≡ length (get_or s.queue i []) =
      sym (get_or-drop w.first m.lens i 0)
      ∙ ap (λ (l : List ℕ). get_or l i 0) lens_behind
      ∙ get_d_over_in (map length s.queue) (drop w.first m.lens) i 0 h
      ∙ get_d_map length s.queue i [] 0 b in
      let a = All-at (λ (l : List Range). (1 ≤ length l) × (length l ≤ 2 * s.site.B)) s.queue i [] b S.bounds.queued in
      (omega (arith, e, a.0), omega (arith, e, a.1))

  lens_added : lens_sum m.lens w.first (length s.queue) ≡ length (joined_ranges s.queue)
  unfolding over
  lens_added = lens_sum_lem s.queue m.lens _ w.first lens_behind

  near-in : (c : ℕ) → c < s.site.N → NearIn s.site.N (get_or m.slots c vacant_slot)
  near-in c b = subst (NearIn s.site.N) (sym (slot_is s m laid c (omega (arith, b, S.bounds.slots.2)))) (S.near c b)

  -- its pools have at least one range each
  pools_few : length s.queue ≤ length (joined_ranges s.queue)
  pools_few = omega (arith, length-joined s.queue, each_counted s.queue (All-map (λ l a. a.0) s.queue S.bounds.queued))

  pub ranges_left : InRanges m
  ranges_left = subst InRanges (sym (memory-path (hub_is s m laid) refl refl refl refl refl refl)) in_ranges_lem
    where
      in_ranges_lem : InRanges same
      in_ranges_lem =
          let long : length s.slots ≤ length m.slots = slots_long s.slots m.slots (slots_is s m laid) in
          record {
            p = (S.bounds.workers.0, S.bounds.workers.1);
            v = (S.bounds.registers.0, S.bounds.registers.1);
            n = (S.bounds.slots.0, S.bounds.slots.1, omega (arith, S.bounds.slots.2));
            batch = S.bounds.batch;
            free = omega (arith, S.bounds.total);
            queued = omega (arith, S.bounds.total, length-joined s.queue);
            pools = pools_few;
            begins = record { first = B.first; from = B.from };
            lengths = lens_in;
            sum = lens_added;
            newest = newest_below;
            free_slots = free_below;
            queue_slots = queue_below;
            listed = S.bounds.rows.1;
            rows = rows-below;
            granted = few_rights s.site.table S.table;
            rights = rights-in s.site.table S.table m.hub.site.rights;
            neighbours = near-in;
            workers = λ w b. worker-tells same w (omega (arith, b, S.bounds.workers.1)) (worker_in (hub_rep s empty_hub) w) (worker_yes w b);
          }

  -- memory in which a sound store lies counts as set up
  pub ready-left : ready m ≡ true
  ready-left = (ready-exact m).1 ranges_left
