-- The scans of the test of lent memory (crate `ready`) pass where each entry that they look at is in range, and nowhere else.
use Rattle.std.specs.Prelude.{Option, Some, None}
use mathlib.Core.Path.{◌≡◌, refl, sym, ap, ◌∙◌, subst}
use mathlib.Core.Bool.{Bool, true, false, cond, ◌&&◌, ◌||◌, true≢false}
use mathlib.Core.Logic.{◌⊎◌, inl, inr, ⊎_elim}
use mathlib.Core.List.{List, [], ◌∷◌, ◌++◌, map}
use Prim.Native.Nat.{ℕ, zero, suc, ◌+◌, ◌*◌, ◌≤◌, ◌<◌}
use native.Mathlib.Nat.{not-suc-le-zero, le_of_suc-le-suc}
use native.Mathlib.Omega.{arith}
use lib.Dec.{ltb, leb, eqb}
use lib.ListN.{length, drop, get_or, length-append}
use borrow.Author.Tests.{lt-ltb, le-ltb, le-leb, eq-eqb, ltb-true, ltb-false, leb-true, eqb-true}
use lib.Seq.{get_or-drop, drop-drop}
use Rattle.lists.specs.Over.{over}
use Rattle.lists.proofs.Over.{get_d_over_in}
use Rattle.model.specs.Totals.{register_of, row_at}
use Rattle.model.specs.Store.{Range, absent}
use Rattle.model.proofs.Basic.{All-at, eq_cases}
use Rattle.model.specs.Demand.{All}
use Rattle.slots.specs.declared.Slot.{Slot}
use Rattle.slots.specs.Slots as Slots
use Rattle.slots.specs.Slots.{vacant_slot, linked_to}
use Rattle.worker.specs.declared.Pool.{Pool}
use Rattle.state.specs.declared.Hub.{Hub}
use Rattle.state.specs.State.{worker_in}
use Rattle.ranges.specs.Words.{flat}
use Rattle.ranges.proofs.WordLaws.{length-flat}
use Rattle.queue.specs.Rep.{joined_ranges}
use Rattle.scans.specs.Scans.{rows_below, below_to, slots_below}
use Rattle.ready_place.specs.Place.{named_below}
use Rattle.ready_queue.specs.Queue.{lens_fit, lens_sum}
use Rattle.ready_worker.specs.Worker.{pool_fits, list_fits, ranges_fit, worker_fits}
use Rattle.ready.specs.Ready.{workers_fit}
use Rattle.ready_sizes.proofs.Sizes.{and_both}

------------------------------------------------------------------------
-- A test of all below k

-- f is the conjunction of the tests t of the numbers below k
module _ (f t : ℕ → Bool) (next : (k : ℕ) → f (suc k) ≡ f k && t k) where
  all_yes : f zero ≡ true → (k : ℕ) → ((i : ℕ) → i < k → t i ≡ true) → f k ≡ true
  all_yes z zero g = z
  all_yes z (suc k) g = next k ∙ both_yes (f k) (t k) (all_yes z k (λ i h. g i (omega (arith, h)))) (g k (omega arith))
    where
      both_yes : (a b : Bool) → a ≡ true → b ≡ true → a && b ≡ true
      both_yes true b p q = q
      both_yes false b p q = p

  all_tell : (k : ℕ) → f k ≡ true → (i : ℕ) → i < k → t i ≡ true
  all_tell zero e i h = absurd (not-suc-le-zero h)
  all_tell (suc k) e i h =
      let q = and_both (f k) (t k) (sym (next k) ∙ e) in
      ⊎_elim (λ u. subst (λ (j : ℕ). t j ≡ true) (sym u.0) q.1) (λ u. all_tell k q.0 i (omega (arith, h, u.0))) (eq_cases i k)

-- a test that is made where another fails
unless : (t y : Bool) → cond t false y ≡ true → (t ≡ false) × (y ≡ true)
unless true y e = absurd (true≢false (sym e))
unless false y e = (refl, e)

------------------------------------------------------------------------
-- Numbers below n

module _ (l : List ℕ) (n k : ℕ) where
  test_below : ℕ → Bool
  test_below i = ltb (get_or l i 0) n

  pub below-yes : ((i : ℕ) → i < k → get_or l i 0 < n) → below_to l n k ≡ true
  unfolding below_to test_below
  below-yes g = all_yes (below_to l n) test_below (λ j. refl) refl k (λ i h. lt-ltb (get_or l i 0) n (g i h))

  pub below-tells : below_to l n k ≡ true → (i : ℕ) → i < k → get_or l i 0 < n
  unfolding below_to test_below
  below-tells e i h = ltb-true (get_or l i 0) n (all_tell (below_to l n) test_below (λ j. refl) k e i h)

-- the rows of totals
module _ (rows : List ℕ) (v k : ℕ) where
  test_row : ℕ → Bool
  test_row i = ltb (register_of (row_at rows i)) v

  pub rows-yes : ((i : ℕ) → i < k → register_of (row_at rows i) < v) → rows_below rows v k ≡ true
  unfolding rows_below test_row
  rows-yes g = all_yes (rows_below rows v) test_row (λ j. refl) refl k (λ i h. lt-ltb (register_of (row_at rows i)) v (g i h))

  pub rows_tell : rows_below rows v k ≡ true → (i : ℕ) → i < k → register_of (row_at rows i) < v
  unfolding rows_below test_row
  rows_tell e i h = ltb-true (register_of (row_at rows i)) v (all_tell (rows_below rows v) test_row (λ j. refl) k e i h)

module _ (words : List ℕ) (i n k : ℕ) where
  test_slot : ℕ → Bool
  test_slot j = ltb (get_or words (3 * (i + j)) 0) n

  pub slots_yes : ((j : ℕ) → j < k → get_or words (3 * (i + j)) 0 < n) → slots_below words i n k ≡ true
  unfolding slots_below test_slot
  slots_yes g = all_yes (slots_below words i n) test_slot (λ j. refl) refl k (λ j h. lt-ltb (get_or words (3 * (i + j)) 0) n (g j h))

  pub slots_tell : slots_below words i n k ≡ true → (j : ℕ) → j < k → get_or words (3 * (i + j)) 0 < n
  unfolding slots_below test_slot
  slots_tell e j h = ltb-true (get_or words (3 * (i + j)) 0) n (all_tell (slots_below words i n) test_slot (λ u. refl) k e j h)

-- a number that a place names, if it names one
pub named_yes : (y : Option ℕ) (n : ℕ) → ((i : ℕ) → y ≡ Some i → i < n) → named_below y n ≡ true
named_yes None n g = refl
named_yes (Some i) n g = lt-ltb i n (g i refl)

pub named_tells : (y : Option ℕ) (n : ℕ) → named_below y n ≡ true → (i : ℕ) → y ≡ Some i → i < n
named_tells y n e i q = ltb-true i n (subst (λ (z : Option ℕ). named_below z n ≡ true) q e)

-- the slot of the j-th range in memory at whose front the ranges l lie
flat-slot : (l : List Range) (j : ℕ) (z : Range) → j < length l → get_or (flat l) (3 * j) 0 ≡ (get_or l j z).slot
flat-slot [] j z h = absurd (not-suc-le-zero h)
flat-slot (ρ ∷ l) zero z h = refl
flat-slot (ρ ∷ l) (suc j) z h =
    let e : 3 * suc j ≡ suc (suc (suc (3 * j))) = omega arith in
    rw e (flat-slot l j z (le_of_suc-le-suc h))

-- the ranges l, whose slots are below n, at the front of memory d
pub ranges_below : (l : List Range) (d : List ℕ) (n : ℕ) → All (λ ρ. ρ.slot < n) l
    → (j : ℕ) → j < length l → get_or (over (flat l) d) (3 * j) 0 < n
ranges_below l d n t j h =
    let z : Range = record { slot = 0; low = 0; high = 0 } in
    let e : get_or (over (flat l) d) (3 * j) 0 ≡ (get_or l j z).slot =
    get_d_over_in (flat l) d (3 * j) 0 (omega (arith, length-flat l)) ∙ flat-slot l j z h in
    omega (arith, e, All-at (λ (ρ : Range). ρ.slot < n) l j z h t)

------------------------------------------------------------------------
-- Neighbours

module _ (n o : ℕ) where
  near-yes : (o ≡ absent) ⊎ (o < n) → Slots.near n o ≡ true
  near-yes u = ⊎_elim (λ e. other (ltb o n) (eq-eqb o absent e)) (λ h. rw (lt-ltb o n h)) u
    where
      other : (t : Bool) → eqb o absent ≡ true → t || eqb o absent ≡ true
      other true e = refl
      other false e = e

  near-tells : Slots.near n o ≡ true → (o ≡ absent) ⊎ (o < n)
  near-tells e = by (ltb o n) refl e
    where
      by : (t : Bool) → ltb o n ≡ t → t || eqb o absent ≡ true → (o ≡ absent) ⊎ (o < n)
      by true h e = inr (ltb-true o n h)
      by false h e = inl (eqb-true o absent e)

-- the neighbours of a slot are slots below n or absent
abbrev pub NearIn : ℕ → Slot → Type 0
NearIn n v = ((v.older ≡ absent) ⊎ (v.older < n)) × ((v.newer ≡ absent) ⊎ (v.newer < n))

module _ (l : List Slot) (n : ℕ) where
  test_near : ℕ → Bool
  test_near c = Slots.near n (get_or l c vacant_slot).older && Slots.near n (get_or l c vacant_slot).newer

  next-linked : (k : ℕ) → linked_to l n (suc k) ≡ linked_to l n k && test_near k
  unfolding linked_to test_near
  next-linked k = joined (linked_to l n k) (Slots.near n (get_or l k vacant_slot).older) (Slots.near n (get_or l k vacant_slot).newer)
    where
      joined : (a b c : Bool) → a && b && c ≡ a && (b && c)
      joined true b c = refl
      joined false b c = refl

  pub linked_yes : (k : ℕ) → ((c : ℕ) → c < k → NearIn n (get_or l c vacant_slot)) → linked_to l n k ≡ true
  unfolding linked_to test_near
  linked_yes k g =
      all_yes (linked_to l n) test_near next-linked refl k
      (λ c h. rw (near-yes n (get_or l c vacant_slot).older (g c h).0, near-yes n (get_or l c vacant_slot).newer (g c h).1))

  pub linked_tells : (k : ℕ) → linked_to l n k ≡ true → (c : ℕ) → c < k → NearIn n (get_or l c vacant_slot)
  unfolding test_near
  linked_tells k e c h =
      let v : Slot = get_or l c vacant_slot in
      let q = and_both (Slots.near n v.older) (Slots.near n v.newer) (all_tell (linked_to l n) test_near next-linked k e c h) in
      (near-tells n v.older q.0, near-tells n v.newer q.1)

------------------------------------------------------------------------
-- The queued pools

module _ (lens : List ℕ) (from most k : ℕ) where
  abbrev len : ℕ → ℕ
  len i = get_or lens (from + i) 0

  test_len : ℕ → Bool
  test_len i = leb 1 (len i) && leb (len i) most

  pub lens_yes : ((i : ℕ) → i < k → (1 ≤ len i) × (len i ≤ most)) → lens_fit lens from most k ≡ true
  unfolding lens_fit test_len
  lens_yes g =
      all_yes (lens_fit lens from most) test_len (λ j. refl) refl k
      (λ i h. rw (le-leb 1 (len i) (g i h).0, le-leb (len i) most (g i h).1))

  pub lens_tell : lens_fit lens from most k ≡ true → (i : ℕ) → i < k → (1 ≤ len i) × (len i ≤ most)
  unfolding lens_fit test_len
  lens_tell e i h =
      let q = and_both (leb 1 (len i)) (leb (len i) most) (all_tell (lens_fit lens from most) test_len (λ j. refl) k e i h) in
      (leb-true 1 (len i) q.0, leb-true (len i) most q.1)

lens_sum-cons : (lens : List ℕ) (i k : ℕ) → lens_sum lens i (suc k) ≡ get_or lens i 0 + lens_sum lens (suc i) k
unfolding lens_sum
lens_sum-cons lens i zero = let e : i + 0 ≡ i = omega arith in rw e (omega arith)
lens_sum-cons lens i (suc k) = let e : i + suc k ≡ suc i + k = omega arith in rw e (omega (arith, lens_sum-cons lens i k))

-- the pools' lengths add up to how many ranges they have together
pub lens_sum_lem : (q : List (List Range)) (lens d : List ℕ) (i : ℕ) → drop i lens ≡ map length q ++ d
    → lens_sum lens i (length q) ≡ length (joined_ranges q)
unfolding lens_sum
lens_sum_lem [] lens d i e = refl
lens_sum_lem (l ∷ q) lens d i e =
    let z : i + 0 ≡ i = omega arith in
    let n : i + 1 ≡ suc i = omega arith in
    let x : get_or lens i 0 ≡ length l = sym (rw z at (get_or-drop i lens 0 0)) ∙ ap (λ (r : List ℕ). get_or r 0 0) e in
    let f : drop (suc i) lens ≡ map length q ++ d = sym (rw n at (drop-drop 1 i lens)) ∙ ap (drop 1) e in
    omega (arith, lens_sum-cons lens i (length q), lens_sum_lem q lens d (suc i) f, length-append l (joined_ranges q))

------------------------------------------------------------------------
-- Workers

module _ (h : Hub) (merged : List ℕ) (local list k : ℕ) where
  test_worker : ℕ → Bool
  test_worker w = worker_fits (worker_in h w) w merged local list h.site.p h.site.v h.site.n h.site.listed

  pub workers_yes : ((w : ℕ) → w < k → worker_fits (worker_in h w) w merged local list h.site.p h.site.v h.site.n h.site.listed ≡ true)
      → workers_fit h merged local list k ≡ true
  unfolding workers_fit test_worker
  workers_yes g = all_yes (workers_fit h merged local list) test_worker (λ j. refl) refl k g

  pub workers_tell : workers_fit h merged local list k ≡ true
      → (w : ℕ) → w < k → worker_fits (worker_in h w) w merged local list h.site.p h.site.v h.site.n h.site.listed ≡ true
  unfolding workers_fit test_worker
  workers_tell e w b = all_tell (workers_fit h merged local list) test_worker (λ j. refl) k e w b

-- a local pool
module _ (q : Pool) (most n : ℕ) where
  pub pool_yes : q.len ≤ most → ((i : ℕ) → i < q.len → get_or q.slots i 0 < n) → pool_fits q most n ≡ true
  unfolding pool_fits
  pool_yes h g = rw (le-ltb most q.len h) (below-yes q.slots n q.len g)

  pub pool_tells : pool_fits q most n ≡ true → (q.len ≤ most) × ((i : ℕ) → i < q.len → get_or q.slots i 0 < n)
  unfolding pool_fits
  pool_tells e =
      let u = unless (ltb most q.len) (below_to q.slots n q.len) e in
      (ltb-false most q.len u.0, below-tells q.slots n q.len u.1)

-- a list in hand
module _ (w : ℕ) (merged : List ℕ) (most n : ℕ) where
  pub list_yes : (k : ℕ) → k ≤ most → ((j : ℕ) → j < k → get_or merged (3 * (256 * w + j)) 0 < n) → list_fits k w merged most n ≡ true
  list_yes k h g = rw (le-ltb most k h) (slots_yes merged (256 * w) n k g)

  pub ranges_yes : (y : Option ℕ) → ((k : ℕ) → y ≡ Some k → k ≤ most)
      → ((k : ℕ) → y ≡ Some k → (j : ℕ) → j < k → get_or merged (3 * (256 * w + j)) 0 < n) → ranges_fit y w merged most n ≡ true
  ranges_yes None h g = refl
  ranges_yes (Some k) h g = list_yes k (h k refl) (g k refl)

  pub ranges_tell : (y : Option ℕ) → ranges_fit y w merged most n ≡ true → (k : ℕ) → y ≡ Some k
      → (k ≤ most) × ((j : ℕ) → j < k → get_or merged (3 * (256 * w + j)) 0 < n)
  ranges_tell y e k q =
      let u = unless (ltb most k) (slots_below merged (256 * w) n k) (subst (λ (z : Option ℕ). ranges_fit z w merged most n ≡ true) q e) in
      (ltb-false most k u.0, slots_tell merged (256 * w) n k u.1)
