-- What the tie between memory and model needs of a store that records left: numbers in range, and slots apart. It follows from the model's
-- invariant, which holds after each record: a range's slot is pending and so counted below N, a pending version stands in its register's
-- list, where each slot is once.
use mathlib.Core.Path.{◌≡◌, refl, sym, ap, ◌∙◌, subst}
use mathlib.Core.Bool.{true}
use mathlib.Core.Logic.{◌≢◌, ◌⊎◌, inl, inr, ⊎_elim}
use mathlib.Core.List.{List, [], ◌∷◌, ◌++◌}
use Prim.Native.Nat.{ℕ, ◌*◌, ◌≤◌, ◌<◌, ◌+◌}
use native.Mathlib.Omega.{arith}
use lib.ListN.{length}
use Rattle.model.specs.Store as Model
use Rattle.model.specs.Store.{mark_count, Store, Range, up, absent, last_clock, start_worker, worker_at, slot_at, newest_of}
use Rattle.model.specs.Rights.{table_stands}
use Rattle.model.specs.Rules.{Rules, Ruled}
use Rattle.model.specs.Apply.{made_by, apply_ruled, hub_after}
use Rattle.model.specs.Demand.{Call, Plain, start_of, occurrences, All}
use Rattle.model.specs.About.{about}
use Rattle.model.specs.Reached.{sum_by, in_hand, Bounds}
use Rattle.model.proofs.Basic.{hit_same, hit-eq, occurrences-head, up_inj, All-at}
use Rattle.theorem.proofs.Count.{cnt, sum_by-one}
use Rattle.theorem.proofs.Chain.{neighbours}
use Rattle.theorem.proofs.Invariant.{ctx, old, chain, in_doing, pend_w, pend, Good, time_in, Sourced, PlaceHolds, Inv}
use Rattle.theorem.proofs.Apart.{below_in, chain-once, chain-in, free_in_lem, pend-chain}
use Rattle.theorem.proofs.Full.{near}
use Rattle.theorem.proofs.Setup.{accepts}
use Rattle.theorem.proofs.Reached.{Reached, reached-apply, reached-start, bounds}
use Rattle.simulation.specs.Left.{LeftByRecords}
use Rattle.simulation.proofs.Chains.{three, next-older, head_older, old-low, stands_in}

-- a range names a slot, and its low and high are times
abbrev pub RangeIn : Store → Range → Type 0
RangeIn s ρ = (ρ.slot < s.site.N) × (ρ.low ≤ last_clock) × (ρ.high ≤ last_clock)

-- the version in slot c, which is to be freed, and its neighbours are apart
pub record Apart (s : Store) (c : ℕ) : Type 0 where
  pub inside : c < s.site.N
  pub older : ((slot_at s c).older ≡ absent) ⊎ ((slot_at s c).older < s.site.N)
  pub newer : (slot_at s c).newer < s.site.N
  pub c≢older : (slot_at s c).older ≢ c
  pub c≢newer : (slot_at s c).newer ≢ c
  pub older≢newer : (slot_at s c).older ≢ (slot_at s c).newer

-- the announced time before a step that moves it
abbrev pub TimeIn : Store → ℕ → Model.TimeStep → Type 0
TimeIn s t Model.OpenAnnounce = Unit {0}
TimeIn s t Model.OpenPass = (t ≤ s.clock) × (t < last_clock)
TimeIn s t Model.CloseWithdraw = Unit {0}
TimeIn s t (Model.MarkKeep m) = m < mark_count
TimeIn s t (Model.MarkRelease m) = m < mark_count

-- the mark as of which a value is read, if any
abbrev pub MarkIn : Model.Purpose → Type 0
MarkIn Model.Single = Unit {0}
MarkIn (Model.Marked m) = m < mark_count
MarkIn (Model.Totaling g i y) = Unit {0}

-- the numbers that a worker's place holds
abbrev pub PlaceIn : Store → ℕ → Model.Doing → Type 0
PlaceIn s t Model.Idle = Unit {0}
PlaceIn s t (Model.PutPublish r x) = r < s.site.V'
PlaceIn s t (Model.PutStamp r c) = (r < s.site.V') × (c < s.site.N)
PlaceIn s t (Model.PutHandIn r c) = (r < s.site.V') × (c < s.site.N) × ((slot_at s c).low ≤ last_clock) × ((slot_at s c).high ≤ last_clock)
PlaceIn s t Model.FlushTake = Unit {0}
PlaceIn s t (Model.FlushRead m ts) = (length m ≤ 256) × All (RangeIn s) m × ((length ts ≤ s.site.P) ⊎ (length ts ≡ s.site.P + mark_count))
PlaceIn s t (Model.FlushFree m) = (length m ≤ 256) × All (RangeIn s) m × All (λ ρ. Apart s ρ.slot) m
PlaceIn s t (Model.OnTime y) = TimeIn s t y
PlaceIn s t (Model.ReadEnter g) = (g.register < s.site.V') × MarkIn g.purpose
PlaceIn s t (Model.ReadStand g c) = (g.register < s.site.V') × (c < s.site.N) × MarkIn g.purpose
PlaceIn s t (Model.GetShow r) = r < s.site.V'

pub record Sound (s : Store) : Type 0 where
  -- the sizes, the lengths and how long the lists are
  pub bounds : Bounds s
  -- the table of rights is one that may be given
  pub table : table_stands s.site.table ≡ true
  pub newest : (r : ℕ) → r < s.site.V' → newest_of s r < s.site.N
  -- an unstamped newest version has an older one, in another slot
  pub unstamped : (r : ℕ) → r < s.site.V' → (slot_at s (newest_of s r)).low ≡ absent
      → ((slot_at s (newest_of s r)).older < s.site.N) × ((slot_at s (newest_of s r)).older ≢ newest_of s r)
  -- a free slot is a slot, and no register's newest version or the next older one
  pub free : (f : ℕ) → 0 < occurrences f s.free → f < s.site.N
  pub free_apart : (f : ℕ) → 0 < occurrences f s.free → (r : ℕ) → r < s.site.V'
      → (f ≢ newest_of s r) × (f ≢ (slot_at s (newest_of s r)).older)
  pub near : (c : ℕ) → c < s.site.N
      → (((slot_at s c).older ≡ absent) ⊎ ((slot_at s c).older < s.site.N)) × (((slot_at s c).newer ≡ absent) ⊎ ((slot_at s c).newer < s.site.N))
  pub announced : (w : ℕ) → w < s.site.P → ((worker_at s w).announced ≡ absent) ⊎ ((worker_at s w).announced < last_clock)
  pub pools : (w : ℕ) → w < s.site.P → All (RangeIn s) (worker_at s w).pool
  pub places : (w : ℕ) → w < s.site.P → PlaceIn s (worker_at s w).announced (worker_at s w).doing
  pub queue : All (All (RangeIn s)) s.queue
  pub marks : length s.marks ≡ mark_count

------------------------------------------------------------------------
-- The model's invariant holds of it

reached-from : (first : Rules) (table : List ℕ) (bs : List Ruled) (s t : Store) → Reached first table s → hub_after (up s) bs ≡ up t → Reached first table t
unfolding hub_after
reached-from first table [] s t R e = subst (Reached first table) (up_inj s t e) R
reached-from first table (b ∷ bs) s t R e =
    let N = reached-apply b.rules s R b.bytes in
    reached-from first table bs N.0 t N.2 (subst (λ (h : Model.Hub). hub_after h bs ≡ up t) N.1 e)

pub reached : {s : Store} (L : LeftByRecords s) → Reached L.setup.rules L.row.table s
reached {s} L =
    let rules : Rules = L.setup.rules in
    let A = accepts rules L.row L.setup.bytes L.accepted in
    reached-from rules L.row.table L.records
    (made_by rules A.sizes L.row) s (reached-start rules L.batch A)
    (subst (λ (h : Model.Hub). hub_after h L.records ≡ up s) A.is L.left)

------------------------------------------------------------------------
-- What the invariant says of ranges and slots

module _ {start : ℕ → Model.Content} {now : ℕ} {s : Store} {olds : List (List ℕ)} {h : List Call} {o : List ℕ} {p : Plain} (I : Inv start now s olds h o p) where
  in-chain : (r : ℕ) → r < s.site.V' → (c : ℕ) → 0 < occurrences c (chain (ctx s olds) r) → c < s.site.N
  in-chain r b c z = omega (arith, chain-in I r b c z, I.slots_length)

  in-old : (r : ℕ) → r < s.site.V' → (c : ℕ) → 0 < occurrences c (old (ctx s olds) r) → c < s.site.N
  unfolding occurrences
  in-old r b c z = in-chain r b c (omega (arith, z))

  newest_in : (r : ℕ) → r < s.site.V' → newest_of s r < s.site.N
  newest_in r b = in-chain r b (newest_of s r) (occurrences-head (newest_of s r) (old (ctx s olds) r))

  -- a pending version is in a slot
  pend_in : (c : ℕ) → 0 < pend c s.workers s.queue → c < s.site.N
  pend_in c z = below_in c s.site.N (omega (arith, I.once c))

  -- ranges whose versions are pending, with their slots' own times
  ranges_in_lem : (l : List Range) → ((c : ℕ) → 0 < cnt c l → 0 < pend c s.workers s.queue) → All (Good (ctx s olds)) l → All (RangeIn s) l
  unfolding cnt
  ranges_in_lem [] f t = tt
  ranges_in_lem (ρ ∷ l) f t = (
    (pend_in ρ.slot (f ρ.slot (omega (arith, hit_same ρ.slot))), omega (arith, t.0.3, I.clock_fits), omega (arith, t.0.2, I.clock_fits)),
    ranges_in_lem l (λ c z. f c (omega (arith, z))) t.1,
  )

  queue_in_lem : (q : List (List Range)) → ((c : ℕ) → 0 < sum_by (cnt c) q → 0 < pend c s.workers s.queue) → All (All (Good (ctx s olds))) q
      → All (All (RangeIn s)) q
  unfolding sum_by
  queue_in_lem [] f t = tt
  queue_in_lem (l ∷ q) f t = (ranges_in_lem l (λ c z. f c (omega (arith, z))) t.0, queue_in_lem q (λ c z. f c (omega (arith, z))) t.1)

  apart : (c : ℕ) → 0 < pend c s.workers s.queue → Apart s c
  unfolding occurrences
  apart c z =
      let a = pend-chain I c z in
      let k = I.linked a.0 a.1 in
      let n = neighbours s.slots absent (newest_of s a.0) (old (ctx s olds) a.0) c k a.2 in
      let t =
      three s.slots absent (newest_of s a.0) (old (ctx s olds) a.0) c k a.2
      (λ i. omega (arith, chain-once I a.0 a.1 i)) (λ i y. omega (arith, in-chain a.0 a.1 i y, I.slots_few)) in
      record {
        inside = pend_in c z;
        older = ⊎_elim inl (λ u. inr (in-old a.0 a.1 (slot_at s c).older u)) n.1;
        newer = in-chain a.0 a.1 (slot_at s c).newer n.0;
        c≢older = t.c≢older;
        c≢newer = t.c≢newer;
        older≢newer = t.older≢newer;
      }

  apart_all : (l : List Range) → ((c : ℕ) → 0 < cnt c l → 0 < pend c s.workers s.queue) → All (λ ρ. Apart s ρ.slot) l
  unfolding cnt
  apart_all [] f = tt
  apart_all (ρ ∷ l) f = (apart ρ.slot (f ρ.slot (omega (arith, hit_same ρ.slot))), apart_all l (λ c z. f c (omega (arith, z))))

  unstamped_apart : (r : ℕ) → r < s.site.V' → (slot_at s (newest_of s r)).low ≡ absent
      → ((slot_at s (newest_of s r)).older < s.site.N) × ((slot_at s (newest_of s r)).older ≢ newest_of s r)
  unfolding occurrences
  unstamped_apart r b e =
      let n = next-older s.slots s.clock (p.registers r) (newest_of s r) (old (ctx s olds) r) I.clock_fits (I.linked r b)
      (I.stamps r b) e in (
        in-old r b (slot_at s (newest_of s r)).older n,
        λ z. omega (arith, chain-once I r b (newest_of s r), hit_same (newest_of s r), subst (λ (i : ℕ). 0 < occurrences i (old (ctx s olds) r)) z n),
      )

  free_slot : (f : ℕ) → 0 < occurrences f s.free → f < s.site.N
  free_slot f z = omega (arith, free_in_lem I f z, I.slots_length)

  free_apart_lem : (f : ℕ) → 0 < occurrences f s.free → (r : ℕ) → r < s.site.V' → (f ≢ newest_of s r) × (f ≢ (slot_at s (newest_of s r)).older)
  unfolding occurrences
  free_apart_lem f z r b = (
    (λ e. omega (arith, chain-once I r b f, hit-eq (newest_of s r) f (sym e))),
    (λ e.
        ⊎_elim
        (λ u. omega (arith, free_slot f z, I.slots_few, e ∙ u))
        (λ u. omega (arith, chain-once I r b f, subst (λ (i : ℕ). 0 < occurrences i (old (ctx s olds) r)) (sym e) u))
        (head_older s.slots absent (newest_of s r) (old (ctx s olds) r) (I.linked r b))),
  )

  -- a worker's pool and the list in its hand are pending
  worker_pends : (w : ℕ) → w < s.site.P → (c : ℕ) → pend_w c (worker_at s w) ≤ pend c s.workers s.queue
  worker_pends w b c = omega (arith, sum_by-one (pend_w c) s.workers w start_worker (omega (arith, I.workers_length)))

  mark_in_lem : (k t : ℕ) (y : Model.Purpose) → Sourced k t y → MarkIn y
  mark_in_lem k t Model.Single a = tt
  mark_in_lem k t (Model.Marked m) a = a.0
  mark_in_lem k t (Model.Totaling g i y) a = tt

  place_in : (w t : ℕ) (d : Model.Doing) → PlaceHolds (ctx s olds) p w t d → in_hand (about d).hand ≤ 256
      → ((c : ℕ) → 0 < in_doing c d → 0 < pend c s.workers s.queue) → PlaceIn s t d
  place_in w t Model.Idle a n f = tt
  place_in w t (Model.PutPublish r x) a n f = a.0
  place_in w t (Model.PutStamp r c) a n f = (a.0, in-old r a.0 c a.2)
  place_in w t (Model.PutHandIn r c) a n f = (
    a.0,
    in-old r a.0 c a.2,
    omega (arith, old-low s.slots s.clock (p.registers r) (newest_of s r) (old (ctx s olds) r) (I.stamps r a.0) c a.2, I.clock_fits),
    omega (arith, a.3, I.clock_fits),
  )
  place_in w t Model.FlushTake a n f = tt
  place_in w t (Model.FlushRead m ts) a n f = (n, ranges_in_lem m f a.1, ⊎_elim (λ u. inl (omega (arith, u))) inr a.2)
  place_in w t (Model.FlushFree m) a n f = (n, ranges_in_lem m f a.1, apart_all m f)
  place_in w t (Model.OnTime Model.OpenAnnounce) a n f = tt
  place_in w t (Model.OnTime Model.OpenPass) a n f = a
  place_in w t (Model.OnTime Model.CloseWithdraw) a n f = tt
  place_in w t (Model.OnTime (Model.MarkKeep m)) a n f = a.0
  place_in w t (Model.OnTime (Model.MarkRelease m)) a n f = a.0
  place_in w t (Model.ReadEnter g) a n f = (a.0, mark_in_lem s.clock t g.purpose a.1)
  place_in w t (Model.ReadStand g c) a n f =
      let r = g.register in
      let x = ctx s olds in (
        a.0,
        in-chain r a.0 c (stands_in s.slots (time_in x t g.purpose) c (a.2.1 r) (chain x r) a.2.3),
        mark_in_lem s.clock t g.purpose a.1,
      )
  place_in w t (Model.GetShow r) a n f = a.0

------------------------------------------------------------------------
-- The statements

reached-sound : (first : Rules) (table : List ℕ) → table_stands table ≡ true → (s : Store) → Reached first table s → Sound s
reached-sound first table fits s R =
    record {
      bounds = B;
      table = ap table_stands R.fits.own ∙ fits;
      newest = newest_in I;
      unstamped = unstamped_apart I;
      free = free_slot I;
      free_apart = free_apart_lem I;
      near = near I;
      announced = λ w b. ⊎_elim inl (λ u. inr u.1) (I.workers w b).announced;
      pools = λ w b. ranges_in_lem I (worker_at s w).pool (λ c z. omega (arith, z, worker_pends I w b c)) (I.workers w b).pool;
      places =
          λ w b.
          place_in I w (worker_at s w).announced (worker_at s w).doing (I.workers w b).doing
          (omega (
            arith,
            B.batch.1,
            All-at (λ (x : Model.Worker). in_hand (about x.doing).hand ≤ 4 * s.site.B) s.workers w start_worker
                (omega (arith, b, I.workers_length)) B.merged,
          ))
          (λ c z. omega (arith, z, worker_pends I w b c));
      queue = queue_in_lem I s.queue (λ c z. omega (arith, z)) I.queue;
      marks = I.marks_length;
    }
  where
    I : Inv (start_of first.given) R.now s R.olds R.calls R.order R.plain
    I = R.inv

    B : Bounds s
    B = bounds s R

-- every store that records left is sound
pub sound : {s : Store} → LeftByRecords s → Sound s
sound {s} L = reached-sound L.setup.rules L.row.table L.table s (reached L)

after_more : (h : Model.Hub) (bs : List Ruled) (b : Ruled) → hub_after h (bs ++ (b ∷ [])) ≡ (apply_ruled (hub_after h bs) b).hub
unfolding hub_after
after_more h [] b = refl
after_more h (c ∷ bs) b = after_more (apply_ruled h c).hub bs b

-- a record more leaves such a store again
pub left_next : {s : Store} → LeftByRecords s → (b : Ruled) → (t : Store) × ((apply_ruled (up s) b).hub ≡ up t) × LeftByRecords t
left_next {s} L b =
    let N = reached-apply b.rules s (reached L) b.bytes in (
      N.0,
      N.1,
      record {
        row = L.row;
        setup = L.setup;
        batch = L.batch;
        table = L.table;
        accepted = L.accepted;
        records = L.records ++ (b ∷ []);
        left =
            after_more (apply_ruled (Model.blank L.row) L.setup).hub L.records b
            ∙ ap (λ (h : Model.Hub). (apply_ruled h b).hub) L.left
            ∙ N.1;
      },
    )
