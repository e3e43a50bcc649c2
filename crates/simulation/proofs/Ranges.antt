-- Lent memory counts as set up exactly where all of it is in its ranges: the test is a conjunction of scans, and each scan passes exactly where
-- the entries that it looks at are in range.
use mathlib.Core.Path.{◌≡◌, refl, sym}
use mathlib.Core.Bool.{Bool, true, false, cond, ◌&&◌, ◌||◌, true≢false}
use mathlib.Core.Logic.{◌⊎◌, inl, inr, ⊎_elim}
use Prim.Native.Nat.{ℕ, ◌+◌, ◌*◌, ◌≤◌, ◌<◌, min}
use native.Mathlib.Omega.{arith}
use lib.Dec.{ltb, leb, eqb}
use lib.ListN.{length, get_or}
use borrow.Author.Tests.{lt-ltb, le-leb, lt-leb, eq-eqb, ltb-true, leb-true, eqb-true}
use Rattle.model.specs.Store.{mark_count}
use Rattle.model.specs.Rules.{twelve_digits}
use Rattle.model.specs.Rights.{right_fits}
use Rattle.worker.specs.declared.Purpose.{Purpose}
use Rattle.worker.specs.declared.Purpose.TheVariants.{Single, Marked, Totaling}
use Rattle.places.specs.declared.Facts.{Facts}
use Rattle.worker.specs.declared.Worker.{Worker}
use Rattle.places.specs.About.{about_of}
use Rattle.slots.specs.Slots.{linked_to}
use Rattle.state.specs.State.{worker_in, table_sound}
use Rattle.scans.specs.Scans.{rows_below, below_to, slots_below}
use Rattle.ready_place.specs.Place.{sum_fits, read_fits, purpose_fits, named_below, place_fits}
use Rattle.ready_sizes.specs.Sizes.{besides, sizes_fit}
use Rattle.ready_queue.specs.Queue.{lens_fit, lens_sum}
use Rattle.ready_worker.specs.Worker.{pool_fits, ranges_fit, hand_fits, worker_fits}
use Rattle.ready.specs.Ready.{workers_fit, scans_fit, ready_of}
use Rattle.ready_sizes.proofs.Sizes.{WindowIn, and_both, sizes_tell, sizes_yes}
use Rattle.simulation.specs.Memory.{Memory}
use Rattle.simulation.specs.Left.{ready}
use Rattle.simulation.specs.Ranges.{TimesRead, PurposeInRange, PlaceInRange, WorkerInRange, InRanges, ReadyExactly}
use Rattle.simulation.proofs.Rights.{right_tells, right_yes, each_tells, each_yes, sound_tells}
use Rattle.simulation.proofs.Scans as Scans

-- a test that is made where another passes
where_both : (t y : Bool) → cond t y false ≡ true → (t ≡ true) × (y ≡ true)
where_both true y e = (refl, e)
where_both false y e = absurd (true≢false (sym e))

------------------------------------------------------------------------
-- One worker

module _ (m : Memory) where
  -- the most ranges of a local pool, and of a list in hand
  abbrev pub local : ℕ
  local = min m.hub.site.batch (besides m.hub)

  abbrev pub list : ℕ
  list = min (4 * m.hub.site.batch) (besides m.hub)

  -- what a value is read for
  purpose_tells : (y : Purpose) → purpose_fits y m.hub.site.listed ≡ true → PurposeInRange m.hub y
  purpose_tells Single e = tt
  purpose_tells (Marked i) e = tt
  purpose_tells (Totaling g i k plus minus) e =
      let a = and_both (ltb i m.hub.site.listed) _ e in
      let b = and_both (sum_fits plus) (sum_fits minus) a.1 in
      (ltb-true i m.hub.site.listed a.0, leb-true plus (31 * twelve_digits) b.0, leb-true minus (31 * twelve_digits) b.1)

  purpose_yes : (y : Purpose) → PurposeInRange m.hub y → purpose_fits y m.hub.site.listed ≡ true
  purpose_yes Single P = refl
  purpose_yes (Marked i) P = refl
  purpose_yes (Totaling g i k plus minus) P =
      rw (lt-ltb i m.hub.site.listed P.0, le-leb plus (31 * twelve_digits) P.1, le-leb minus (31 * twelve_digits) P.2)

  -- how many times were read
  or_tells : (a b : Bool) → (a || b) ≡ true → (a ≡ true) ⊎ (b ≡ true)
  or_tells true b e = inl refl
  or_tells false b e = inr e

  or_right : (a : Bool) → (a || true) ≡ true
  or_right true = refl
  or_right false = refl

  read_tells : (j : ℕ) → read_fits j m.hub.site.p ≡ true → TimesRead m.hub j
  read_tells j e =
      ⊎_elim (λ u. inl (leb-true j m.hub.site.p u)) (λ u. inr (eqb-true j (m.hub.site.p + mark_count) u))
      (or_tells (leb j m.hub.site.p) (eqb j (m.hub.site.p + mark_count)) e)

  read_yes : (j : ℕ) → TimesRead m.hub j → read_fits j m.hub.site.p ≡ true
  read_yes j (inl h) = rw (le-leb j m.hub.site.p h)
  read_yes j (inr h) = rw (eq-eqb j (m.hub.site.p + mark_count) h) (or_right (leb j m.hub.site.p))

  module _ (w : ℕ) (few : w < 16) where
    -- the tests of a worker's place and of its list
    Place : Facts → Type 0
    Place y =
        (place_fits y m.hub.site.p m.hub.site.v m.hub.site.n m.hub.site.listed ≡ true) × (hand_fits y.ranges w m.merged list m.hub.site.n ≡ true)

    place-tells : (y : Facts) → Place y → PlaceInRange m w y
    unfolding place_fits hand_fits Place
    place-tells y e =
        let R : Bool = named_below y.register m.hub.site.v in
        let C : Bool = named_below y.slot m.hub.site.n in
        let F : Bool = read_fits y.read m.hub.site.p && purpose_fits y.purpose m.hub.site.listed in
        let whole = and_both (R && C && F) (named_below y.mark mark_count) e.0 in
        let all = and_both (R && C) F whole.0 in
        let both = and_both R C all.0 in
        let rest = and_both (read_fits y.read m.hub.site.p) (purpose_fits y.purpose m.hub.site.listed) all.1 in
        let hand : ranges_fit y.ranges w m.merged list m.hub.site.n ≡ true = rw (lt-leb 16 w few) at e.1 in
        let ranges = Scans.ranges_tell w m.merged list m.hub.site.n y.ranges hand in
        record {
          register = Scans.named_tells y.register m.hub.site.v both.0;
          slot = Scans.named_tells y.slot m.hub.site.n both.1;
          read = read_tells y.read rest.0;
          list = λ k q. (omega (arith, (ranges k q).0), omega (arith, (ranges k q).0));
          list_slots = λ k q. (ranges k q).1;
          purpose = purpose_tells y.purpose rest.1;
          mark = Scans.named_tells y.mark mark_count whole.1;
        }

    place-yes : (y : Facts) → PlaceInRange m w y → Place y
    unfolding place_fits hand_fits Place
    place-yes y P = (
      rw (
        Scans.named_yes y.register m.hub.site.v P.register,
        Scans.named_yes y.slot m.hub.site.n P.slot,
        read_yes y.read P.read,
        purpose_yes y.purpose P.purpose,
        Scans.named_yes y.mark mark_count P.mark,
      ),
      rw (lt-leb 16 w few)
          (Scans.ranges_yes w m.merged list m.hub.site.n y.ranges (λ k q. omega (arith, (P.list k q).0, (P.list k q).1)) P.list_slots),
    )

    pub worker-tells : (x : Worker) → worker_fits x w m.merged local list m.hub.site.p m.hub.site.v m.hub.site.n m.hub.site.listed ≡ true → WorkerInRange m w x
    unfolding worker_fits Place
    worker-tells x e =
        let y : Facts = about_of x.doing in
        let Y : Bool = place_fits y m.hub.site.p m.hub.site.v m.hub.site.n m.hub.site.listed in
        let Q : Bool = pool_fits x.pool local m.hub.site.n in
        let all = and_both (Y && Q) (hand_fits y.ranges w m.merged list m.hub.site.n) e in
        let both = and_both Y Q all.0 in
        let pool = Scans.pool_tells x.pool local m.hub.site.n both.1 in
        record {
          place = place-tells y (both.0, all.1);
          pool = (omega (arith, pool.0), omega (arith, pool.0));
          pool_slots = pool.1;
        }

    worker_yes : (x : Worker) → WorkerInRange m w x → worker_fits x w m.merged local list m.hub.site.p m.hub.site.v m.hub.site.n m.hub.site.listed ≡ true
    unfolding worker_fits Place
    worker_yes x W =
        let place = place-yes (about_of x.doing) W.place in
        let few : x.pool.len ≤ local = omega (arith, W.pool.0, W.pool.1) in
        rw (place.0, Scans.pool_yes x.pool local m.hub.site.n few W.pool_slots, place.1)

  ------------------------------------------------------------------------
  -- All of the memory

  tells : ready m ≡ true → InRanges m
  unfolding ready ready_of scans_fit
  tells e =
      let h = m.hub in
      let w = h.window in
      let A : Bool = below_to m.newest h.site.n h.site.v in
      let B : Bool = below_to m.free h.site.n h.free in
      let C : Bool = slots_below m.queue w.from h.site.n w.queued in
      let D : Bool = lens_fit m.lens w.first (2 * h.site.batch) w.pools in
      let E : Bool = eqb (lens_sum m.lens w.first w.pools) w.queued in
      let F : Bool = workers_fit h m.merged local list h.site.p in
      let G : Bool = linked_to m.slots h.site.n h.site.n in
      let H : Bool = rows_below h.site.rows h.site.v h.site.listed in
      let scans : Bool =
      scans_fit h m.newest m.free m.queue m.lens m.merged G (length m.slots) in
      let whole = and_both scans (table_sound h) e in
      let all = where_both (sizes_fit h (length m.slots)) (A && B && (C && D) && (E && F) && (H && G)) whole.0 in
      let z = sizes_tell h (length m.slots) all.0 in
      let parts = and_both (A && B && (C && D) && (E && F)) (H && G) all.1 in
      let table = sound_tells h whole.1 in
      let hg = and_both H G parts.1 in
      let front = and_both (A && B && (C && D)) (E && F) parts.0 in
      let four = and_both (A && B) (C && D) front.0 in
      let ab = and_both A B four.0 in
      let cd = and_both C D four.1 in
      let ef = and_both E F front.1 in
      record {
        p = z.p;
        v = z.v;
        n = z.n;
        batch = z.batch;
        free = z.free;
        queued = z.window.queued;
        pools = z.window.pools;
        begins = record { first = z.window.first; from = z.window.from };
        lengths = Scans.lens_tell m.lens w.first (2 * h.site.batch) w.pools cd.1;
        sum = eqb-true (lens_sum m.lens w.first w.pools) w.queued ef.0;
        newest = Scans.below-tells m.newest h.site.n h.site.v ab.0;
        free_slots = Scans.below-tells m.free h.site.n h.free ab.1;
        queue_slots = Scans.slots_tell m.queue w.from h.site.n w.queued cd.0;
        listed = z.listed;
        rows = Scans.rows_tell h.site.rows h.site.v h.site.listed hg.0;
        granted = table.0;
        rights = λ i b. right_tells (get_or h.site.rights i 0) (each_tells right_fits refl h.site.rights h.site.granted table.1 i b);
        neighbours = Scans.linked_tells m.slots h.site.n h.site.n hg.1;
        workers =
            λ w b.
            worker-tells w (omega (arith, b, z.p.1)) (worker_in h w)
            (Scans.workers_tell h m.merged local list h.site.p ef.1 w b);
      }

  yes : InRanges m → ready m ≡ true
  unfolding ready ready_of scans_fit
  yes R =
      let h = m.hub in
      let w = h.window in
      let window : WindowIn w (besides h) =
      record { pools = R.pools; queued = R.queued; first = R.begins.first; from = R.begins.from } in
      rw (
        sizes_yes h (length m.slots)
            (record { p = R.p; v = R.v; n = R.n; free = R.free; window = window; listed = R.listed; batch = R.batch }),
        Scans.below-yes m.newest h.site.n h.site.v R.newest,
        Scans.below-yes m.free h.site.n h.free R.free_slots,
        Scans.slots_yes m.queue w.from h.site.n w.queued R.queue_slots,
        Scans.lens_yes m.lens w.first (2 * h.site.batch) w.pools R.lengths,
        eq-eqb (lens_sum m.lens w.first w.pools) w.queued R.sum,
        Scans.workers_yes h m.merged local list h.site.p (λ w b. worker_yes w (omega (arith, b, R.p.1)) (worker_in h w) (R.workers w b)),
        Scans.rows-yes h.site.rows h.site.v h.site.listed R.rows,
        Scans.linked_yes m.slots h.site.n h.site.n R.neighbours,
        le-leb h.site.granted 64 R.granted,
        each_yes right_fits h.site.rights h.site.granted (λ i b. right_yes (get_or h.site.rights i 0) (R.rights i b)),
      )

pub ready-exact : ReadyExactly
ready-exact m = (tells m, yes m)
