-- Every hub that records leave after an accepted setup satisfies the invariant and the bounds, and its pools are sorted by high, by induction over
-- the records; and what specs/Reached.antt and specs/Figure.antt claim of such a hub follows.
use mathlib.Core.Path.{◌≡◌, refl, sym, ap, ◌∙◌, subst}
use mathlib.Core.Logic.{inl, inr, ⊎_elim}
use mathlib.Core.List.{List, [], ◌∷◌, ◌++◌}
use Prim.Native.Nat.{ℕ, zero, suc, ◌+◌, ◌*◌, ◌≤◌, ◌<◌}
use native.Mathlib.Omega.{arith}
use lib.Dec.{ltb}
use lib.ListN.{length, take, replicate, length-append}
use borrow.Author.Tests as Tests
use Rattle.model.specs.Store.{Content, Range, Purpose, Single, Marked, Lent}
use Rattle.model.specs.Store.{Totaling, Doing, Idle, PutPublish, PutStamp, PutHandIn, FlushTake, FlushRead, FlushFree, OnTime}
use Rattle.model.specs.Store.{ReadEnter, ReadStand, GetShow, start_worker, Site, Store, Hub, blank, up, worker_at, place}
use Rattle.model.specs.Totals.{row_at, of_group}
use Rattle.model.specs.About.{about}
use Rattle.model.specs.Rules.{Rules, Allowed, Ruled}
use Rattle.model.specs.Answer.{Ok, Applied}
use Rattle.model.specs.Steps.{step_at}
use Rattle.model.specs.Record.{SetUp, Begin, Step, Decoded, Asks, Refuses, decode}
use Rattle.model.specs.Apply.{made_by, refuse, fresh, set_up, terms, step, obey, apply_decoded, apply, apply_ruled}
use Rattle.model.specs.Demand.{Call, Plain, start_of, plain₀, events, observe, effects, All}
use Rattle.model.specs.Reached.{sum_by, in_hand, TotalFits, TimesFit, Bounds, SoundHub, Throughout, Sound}
use Rattle.model.specs.Figure.{HandByHigh, WorkerByHigh, StoreByHigh, FigureHub, AsPublished}
use Rattle.model.proofs.Basic.{cond_both, All-from, All-map, All-nth, up_inj}
use Rattle.model.proofs.Begin.{begin-by}
use Rattle.model.proofs.Totals.{own_next, own_few, few, few_rows}
use Rattle.theorem.proofs.Invariant.{ctx, Summed, PlaceHolds, Inv}
use Rattle.theorem.proofs.View.{idle_is}
use Rattle.theorem.proofs.Site.{SameSite, step-site}
use Rattle.theorem.proofs.Record.{Holds, apply-holds}
use Rattle.theorem.proofs.Setup.{Accepted, accepts, accepted_inv}
use Rattle.theorem.proofs.Bounds.{Sized, Within, Fit, FitW, step-within, begin-within}
use Rattle.theorem.proofs.Total.{total}
use Rattle.theorem.proofs.Full.{refuses-14}
use Rattle.theorem.proofs.ByHigh.{step-by_high, begin-by_high, start_by_high}
use Rattle.model.proofs.Figure.{split_is_figure}

------------------------------------------------------------------------
-- One record keeps the bounds, and the pools sorted

module _ {start : ℕ → Content} (now : ℕ) (s : Store) (olds : List (List ℕ)) (h : List Call) (o : List ℕ) (p : Plain) (I : Inv start now s olds h o p) (pos : 0 < s.site.B)
    (W : Within s.site.B s) (S : StoreByHigh s) where
  abbrev Bounded : Applied → Type 0
  Bounded a = (t : Store) × (a.hub ≡ up t) × SameSite s t × Within s.site.B t × StoreByHigh t

  unchanged : (k : ℕ) → Bounded (refuse (up s) k)
  unchanged k = (s, refl, refl, W, S)

  decoded_bounded : (rules : Rules) (d : Decoded) → Bounded (apply_decoded rules (up s) d)
  unfolding apply_decoded obey set_up step
  decoded_bounded rules (Asks (SetUp z)) = unchanged 9
  decoded_bounded rules (Asks (Begin w c)) =
      begin-by Bounded rules s w c (λ k n. unchanged k)
      (λ t. (
        place s w (terms s.site.rows c).first,
        refl,
        refl,
        begin-within s pos W w c (idle_is (worker_at s w).doing t.tests.idle),
        begin-by_high now s olds h o p I S w (Tests.ltb-true w s.site.P t.worker) c,
      ))
  decoded_bounded rules (Asks (Step w)) =
      cond_both Bounded (ltb w s.site.P) _ _
      (λ e. (
        (step_at s w (worker_at s w).doing).store,
        refl,
        step-site s w (worker_at s w).doing,
        step-within s pos W w (worker_at s w).doing refl,
        step-by_high now s olds h o p I S w (Tests.ltb-true w s.site.P e) (worker_at s w).doing refl,
      ))
      (λ e. unchanged 3)
  decoded_bounded rules (Refuses k) = unchanged k

------------------------------------------------------------------------
-- All records

-- a site in the ranges of a setup, whose batch size is what the rules give and from 1 to 64, with this table of rights
pub record SiteFits (rules : Rules) (table : List ℕ) (x : Site) : Type 0 where
  pub one≤P : 1 ≤ x.P
  pub P≤16 : x.P ≤ 16
  pub one≤V : 1 ≤ x.V'
  pub V≤256 : x.V' ≤ 256
  pub V≤N : x.V' ≤ x.N
  pub N≤2048 : x.N ≤ 2048
  pub batch : x.B ≡ rules.batch x.P
  pub own : x.table ≡ table
  pub one≤B : 1 ≤ x.B
  pub B≤64 : x.B ≤ 64

-- A store that records left, of which the first, a setup, was handed in under the rules given: it has the invariant with some history, order and
-- plain registers, the bounds, and sorted pools.
pub record Reached (rules : Rules) (table : List ℕ) (s : Store) : Type 0 where
  pub now : ℕ
  pub olds : List (List ℕ)
  pub calls : List Call
  pub order : List ℕ
  pub plain : Plain
  pub inv : Inv (start_of rules.given) now s olds calls order plain
  pub within : Within s.site.B s
  pub by_high : StoreByHigh s
  pub fits : SiteFits rules table s.site

abbrev pub ReachedHub : Rules → List ℕ → Hub → Type 0
ReachedHub rules table (blank row) = ⊥
ReachedHub rules table (up s) = Reached rules table s

-- one record more, under any rules
pub reached-apply : {first : Rules} {table : List ℕ} (rules : Rules) (s : Store) → Reached first table s → (b : List ℕ)
    → (t : Store) × ((apply rules (up s) b).hub ≡ up t) × Reached first table t
unfolding apply
reached-apply {first} {table} rules s R b = (
  F.0,
  F.1,
  record {
    now = R.now + 1;
    olds = A.kept.olds;
    calls = calls;
    order = order;
    plain = A.kept.p;
    inv =
        subst (λ (q : Store). Inv (start_of first.given) (R.now + 1) q A.kept.olds calls order A.kept.p) (up_inj A.store F.0 (sym A.is ∙ F.1))
        A.kept.inv;
    within = subst (λ (q : Site). Within q.B F.0) (sym F.2) F.3;
    by_high = F.4;
    fits = subst (SiteFits first table) (sym F.2) R.fits;
  },
)
  where
    A : Holds (start_of first.given) R.now s (decode b) R.calls R.order (apply rules (up s) b)
    A = apply-holds R.now s R.olds R.calls R.order R.plain R.inv rules b

    calls : List Call
    calls = observe R.now (decode b) (apply rules (up s) b).answer R.calls

    order : List ℕ
    order = R.order ++ effects R.calls (decode b) (up s) (apply rules (up s) b).answer (up A.store)

    F : (t : Store) × ((apply_decoded rules (up s) (decode b)).hub ≡ up t) × SameSite s t × Within s.site.B t × StoreByHigh t
    F = decoded_bounded R.now s R.olds R.calls R.order R.plain R.inv R.fits.one≤B R.within R.by_high rules (decode b)

reached-all : {first : Rules} {table : List ℕ} (bs : List Ruled) (s : Store) → Reached first table s → Throughout (ReachedHub first table) (events (up s) bs)
unfolding events
reached-all [] s R = tt
reached-all {first} {table} (b ∷ bs) s R =
    let T = reached-apply b.rules s R b.bytes in (
      (R, subst (ReachedHub first table) (sym T.1) T.2),
      subst (λ (q : Hub). Throughout (ReachedHub first table) (events q bs)) (sym T.1) (reached-all bs T.0 T.2),
    )

all_start : (b n : ℕ) → 0 < b → All (FitW b) (replicate n start_worker)
all_start b zero h = tt
all_start b (suc n) h = (h, all_start b n h)

-- the store that an accepted setup leaves
pub reached-start : (rules : Rules) → Allowed rules → {lent : Lent} {hub : Hub} (A : Accepted rules lent hub)
    → Reached rules lent.table (made_by rules A.sizes lent)
unfolding fresh
reached-start rules allowed A =
    let size = allowed A.sizes.P A.fits.one≤P A.fits.P≤16 in
    record {
      now = 0;
      olds = _;
      calls = [];
      order = [];
      plain = plain₀ (start_of rules.given);
      inv = accepted_inv rules A;
      within = record { workers = all_start (rules.batch A.sizes.P) A.sizes.P size.0; pools = tt };
      by_high = record { queued = tt; workers = start_by_high _ A.sizes.P };
      fits =
          record {
            one≤P = A.fits.one≤P;
            P≤16 = A.fits.P≤16;
            one≤V = A.fits.one≤V;
            V≤256 = A.fits.V≤256;
            V≤N = A.fits.V≤N;
            N≤2048 = A.fits.N≤2048;
            batch = refl;
            own = refl;
            one≤B = size.0;
            B≤64 = size.1;
          };
    }

-- after every accepted setup whose rules are allowed, every hub that a record meets or leaves
pub reached : (row : Lent) (setup : Ruled) → Allowed setup.rules → (apply_ruled (blank row) setup).answer ≡ Ok
    → (records : List Ruled) → Throughout (ReachedHub setup.rules row.table) (events (apply_ruled (blank row) setup).hub records)
reached row b allowed e bs =
    let A = accepts b.rules row b.bytes e in
    subst (λ (q : Hub). Throughout (ReachedHub b.rules row.table) (events q bs)) (sym A.is)
    (reached-all bs (made_by b.rules A.sizes row) (reached-start b.rules allowed A))

------------------------------------------------------------------------
-- What specs/Reached.antt claims

module _ (b : ℕ) where
  fit_local : (n : ℕ) (d : Doing) → Fit b n d → (n ≤ b) × (in_hand (about d).hand ≤ 4 * b)
  fit_local n Idle a = (omega (arith, a), omega arith)
  fit_local n (PutPublish r x) a = (omega (arith, a), omega arith)
  fit_local n (PutStamp r c) a = (omega (arith, a), omega (arith, a))
  fit_local n (PutHandIn r c) a = (omega (arith, a), omega (arith, a))
  fit_local n FlushTake a = (a, omega arith)
  fit_local n (FlushRead m ts) a = a
  fit_local n (FlushFree m) a = (omega (arith, a.0), a.1)
  fit_local n (OnTime y) a = (omega (arith, a), omega arith)
  fit_local n (ReadEnter g) a = (omega (arith, a), omega arith)
  fit_local n (ReadStand g c) a = (omega (arith, a), omega arith)
  fit_local n (GetShow r) a = (omega (arith, a), omega arith)

  pools_few : (q : List (List Range)) → All (Sized (2 * b)) q → length q ≤ sum_by length q
  unfolding sum_by
  pools_few [] t = omega arith
  pools_few (l ∷ q) t = omega (arith, t.0.0, pools_few q t.1)

-- the sums of a total
module _ {start : ℕ → Content} {now : ℕ} {s : Store} {olds : List (List ℕ)} {h : List Call} {o : List ℕ} {p : Plain} (I : Inv start now s olds h o p) where
  summed_fits : (w r : ℕ) (y : Purpose) → Summed s.site.rows p w r y → TotalFits s.site.rows y
  summed_fits w r Single a = tt
  summed_fits w r (Marked m) a = tt
  summed_fits w r (Totaling g i y) a =
      let own = ap length (own_next g s.site.rows i a.0 a.2)
      ∙ length-append (of_group g (take i s.site.rows)) (row_at s.site.rows i ∷ []) in (
        a.0,
        a.2,
        omega (arith, a.3, own, own_few g s.site.rows (i + 1), few s.site.V' 0 0 s.site.rows I.rows_fit (omega arith) g),
      )

  place-fits : (w t : ℕ) (d : Doing) → PlaceHolds (ctx s olds) p w t d → TotalFits s.site.rows (about d).purpose
  place-fits w t Idle a = tt
  place-fits w t (PutPublish r x) a = tt
  place-fits w t (PutStamp r c) a = tt
  place-fits w t (PutHandIn r c) a = tt
  place-fits w t FlushTake a = tt
  place-fits w t (FlushRead m ts) a = tt
  place-fits w t (FlushFree m) a = tt
  place-fits w t (OnTime y) a = tt
  place-fits w t (ReadEnter g) a = summed_fits w g.register g.purpose a.2
  place-fits w t (ReadStand g c) a = summed_fits w g.register g.purpose a.3
  place-fits w t (GetShow r) a = tt

  times_fit : (w t : ℕ) (d : Doing) → PlaceHolds (ctx s olds) p w t d → TimesFit s (about d).hand
  times_fit w t Idle a = tt
  times_fit w t (PutPublish r x) a = tt
  times_fit w t (PutStamp r c) a = tt
  times_fit w t (PutHandIn r c) a = tt
  times_fit w t FlushTake a = tt
  times_fit w t (FlushRead m ts) a = ⊎_elim (λ u. inl (omega (arith, u))) inr a.2
  times_fit w t (FlushFree m) a = tt
  times_fit w t (OnTime y) a = tt
  times_fit w t (ReadEnter g) a = tt
  times_fit w t (ReadStand g c) a = tt
  times_fit w t (GetShow r) a = tt

pub bounds : {rules : Rules} {table : List ℕ} (s : Store) → Reached rules table s → Bounds s
bounds s R =
    record {
      workers = (R.fits.one≤P, R.fits.P≤16, R.inv.workers_length);
      registers = (R.fits.one≤V, R.fits.V≤256, R.inv.newest_length);
      slots = (R.fits.V≤N, R.fits.N≤2048, R.inv.slots_length);
      clock = omega (arith, R.inv.clock_fits);
      batch = (R.fits.one≤B, R.fits.B≤64);
      local = All-map (λ x a. (fit_local s.site.B (length x.pool) x.doing a).0) s.workers R.within.workers;
      merged = All-map (λ x a. (fit_local s.site.B (length x.pool) x.doing a).1) s.workers R.within.workers;
      queued = R.within.pools;
      times =
          All-from (λ x. TimesFit s (about x.doing).hand) start_worker s.workers
          (λ w b. times_fit R.inv w (worker_at s w).announced (worker_at s w).doing
          (R.inv.workers w (omega (arith, b, R.inv.workers_length))).doing);
      marks = (R.inv.marks_length, λ m b. ⊎_elim (λ u. inl u.0) (λ u. inr u.0) (R.inv.marks m b));
      total = total R.inv;
      pools = omega (arith, total R.inv, pools_few s.site.B s.queue R.within.pools);
      rows = (R.inv.rows_fit, omega (arith, few_rows s.site.V' 0 0 s.site.rows R.inv.rows_fit (omega arith) (omega arith)));
      group = few s.site.V' 0 0 s.site.rows R.inv.rows_fit (omega arith);
      totals =
          All-from (λ x. TotalFits s.site.rows (about x.doing).purpose) start_worker s.workers
          (λ w b. place-fits R.inv w (worker_at s w).announced (worker_at s w).doing
          (R.inv.workers w (omega (arith, b, R.inv.workers_length))).doing);
    }

pub sound : Sound
sound row b allowed e bs =
    All-map (λ z a. (hub z.before a.0, hub z.after a.1)) (events (apply_ruled (blank row) b).hub bs) (reached row b allowed e bs)
  where
    hub : (h : Hub) → ReachedHub b.rules row.table h → SoundHub b.rules h
    hub (blank row) a = a
    hub (up s) a = record { batch = a.fits.batch; bounds = bounds s a; refuses14 = refuses-14 a.inv }

------------------------------------------------------------------------
-- What specs/Figure.antt claims

pub as_published : AsPublished
as_published row b allowed e bs =
    All-map (λ z a. (hub z.before a.0, hub z.after a.1)) (events (apply_ruled (blank row) b).hub bs) (reached row b allowed e bs)
  where
    hub : (h : Hub) → ReachedHub b.rules row.table h → FigureHub h
    hub (blank row) a = a
    hub (up s) a =
        record {
          by_high = a.by_high;
          split = λ w m ts i us.
              split_is_figure s w m us
              (subst (λ d. HandByHigh s.slots (worker_at s w).pool (about d).hand) i
              (All-nth (WorkerByHigh s.slots) s.workers w start_worker (record { local = tt; hand = tt }) a.by_high.workers).hand);
        }
