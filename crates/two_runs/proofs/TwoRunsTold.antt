-- What a read, a total and a get find in two runs whose histories differ in values put to register r, by the invariant of each run: the value
-- that the plain registers show. So both find the same, or look at r and find values of at most twelve digits. The sums of a total whose
-- group has no row of r are the same.
use mathlib.Core.Path.{◌≡◌, refl, sym, ap, ◌∙◌, subst}
use mathlib.Core.Bool.{Bool, true, false, cond, true≢false, ◌||◌}
use mathlib.Core.Logic.{⊎_elim}
use mathlib.Core.List.{List, [], ◌∷◌, ◌++◌, map}
use mathlib.Core.Option.{Option, some}
use Prim.Native.Nat.{ℕ, zero, suc, ◌<◌}
use native.Mathlib.Nat.{not-suc-le-zero, le_of_suc-le-suc}
use native.Mathlib.Omega.{arith}
use lib.Dec.{leb, eqb}
use lib.ListN.{length, take}
use borrow.Author.Tests as Tests
use Rattle.model.specs.Totals.{Sum, group_of, register_of, row_at, of_group}
use Rattle.model.specs.Store.{Reading, Content, Slot, Purpose, Single, Marked, Totaling, Doing, Idle, PutPublish, PutStamp, count_of}
use Rattle.model.specs.Store.{PutHandIn, FlushTake, FlushRead, FlushFree, OnTime, ReadEnter, ReadStand, GetShow, Worker, Store, worker_at, slot_at}
use Rattle.model.specs.Store.{newest_of, with_slots, with_workers}
use Rattle.model.specs.Sums.{add_row}
use Rattle.model.specs.Marks.{time_for}
use Rattle.model.specs.Rules.{twelve_digits}
use Rattle.model.specs.Versions.{stamp, stamp_slots}
use Rattle.model.specs.Demand.{Call, Plain, plain₀, sum_over, change_effects}
use Rattle.two_runs.specs.TwoRuns.{names, looks_for, looks_at, purpose_with, place_with, bare_worker, bare_slot}
use Rattle.theorem.proofs.Slots.{stamp-value}
use Rattle.theorem.proofs.Chain.{On-found}
use Rattle.theorem.proofs.Linear.{after}
use Rattle.theorem.proofs.Invariant.{ctx, chain, time_in, copy_for, Summed, PlaceHolds, Inv}
use Rattle.theorem.proofs.Stamp.{Stamped, stamp-inv}
use Rattle.theorem.proofs.Places.{doing_is}
use Rattle.two_runs.proofs.TwoRunsBare.{stamp-like, bare-like, slot_like}
use Rattle.two_runs.proofs.TwoRunsStep.{Told, time_like}
use Rattle.two_runs.proofs.TwoRunsCalls.{AlikeCalls, AlikeContent, AlikeRegisters, AlikeCopy, AlikePlain, change-effects_like, plain_like}

------------------------------------------------------------------------
-- Groups with no row of register r

or_false : (a b : Bool) → a || b ≡ false → (a ≡ false) × (b ≡ false)
or_false true b e = absurd (true≢false e)
or_false false b e = (refl, e)

module _ (r g : ℕ) where
  names-take : (rows : List ℕ) (i : ℕ) → names r (of_group g rows) ≡ false → names r (of_group g (take i rows)) ≡ false
  unfolding names of_group
  names-take [] zero e = refl
  names-take [] (suc i) e = refl
  names-take (x ∷ l) zero e = refl
  names-take (x ∷ l) (suc i) e = go (eqb (group_of x) g) e (names-take l i)
    where
      go : (b : Bool) → names r (cond b (x ∷ of_group g l) (of_group g l)) ≡ false
          → (names r (of_group g l) ≡ false → names r (of_group g (take i l)) ≡ false)
          → names r (cond b (x ∷ of_group g (take i l)) (of_group g (take i l))) ≡ false
      go true u k =
          let v : (eqb (register_of x) r ≡ false) × (names r (of_group g l) ≡ false) = or_false (eqb (register_of x) r) (names r (of_group g l)) (unfold names in u) in
          unfold names in rw v.0 (k v.1)
      go false u k = k u

  names_at : (rows : List ℕ) (i : ℕ) → names r (of_group g rows) ≡ false → i < length rows → group_of (row_at rows i) ≡ g
      → eqb (register_of (row_at rows i)) r ≡ false
  unfolding names of_group
  names_at [] i e b q = absurd (not-suc-le-zero b)
  names_at (x ∷ l) zero e b q = (or_false _ _ (rw (Tests.eq-eqb (group_of x) g q) at e)).0
  names_at (x ∷ l) (suc i) e b q = names_at l i (go (eqb (group_of x) g) e) (le_of_suc-le-suc b) q
    where
      go : (t : Bool) → names r (cond t (x ∷ of_group g l) (of_group g l)) ≡ false → names r (of_group g l) ≡ false
      go true u = (or_false (eqb (register_of x) r) (names r (of_group g l)) (unfold names in u)).1
      go false u = u

-- the sums of rows none of which is of register r
sum_like : (r : ℕ) (f f' : ℕ → Content) → ((q : ℕ) → eqb q r ≡ false → f q ≡ f' q) → (l : List ℕ) → names r l ≡ false → sum_over f l ≡ sum_over f' l
unfolding sum_over names
sum_like r f f' e [] n = refl
sum_like r f f' e (x ∷ l) n =
    let u = or_false _ _ n in
    ap (λ (y : Sum). add_row y x (f (register_of x))) (sum_like r f f' e l u.1)
    ∙ ap (λ (y : Content). add_row (sum_over f' l) x y) (e (register_of x) u.0)

------------------------------------------------------------------------
-- Contents

limit_like : (r q : ℕ) (x y : Content) → AlikeContent r q x y → leb (count_of x) twelve_digits ≡ leb (count_of y) twelve_digits
limit_like r q x y =
    ⊎_elim (λ e. ap (λ (z : Content). leb (count_of z) twelve_digits) e)
    (λ u. Tests.le-leb (count_of x) twelve_digits u.1 ∙ sym (Tests.le-leb (count_of y) twelve_digits u.2))

content_equal : (r q : ℕ) (x y : Content) → AlikeContent r q x y → eqb q r ≡ false → x ≡ y
content_equal r q x y a n = ⊎_elim (λ e. e) (λ u. absurd (Tests.eqb-false q r n u.0)) a

-- the copies that two places read
copies : (r : ℕ) (c c' : Option (ℕ → Content)) (f f' : ℕ → Content) → AlikeCopy r c c' → c ≡ some f → c' ≡ some f' → AlikeRegisters r f f'
copies r c c' f f' a e e' = rw (e, e') at a

-- what a get of register q shows
get_value : {start : ℕ → Content} (now : ℕ) (s : Store) (olds : List (List ℕ)) (h : List Call) (o : List ℕ) (p : Plain) → Inv start now s olds h o p → (q : ℕ) → q < s.site.V'
    → (slot_at s (newest_of s q)).value ≡ (after h (plain₀ start) (o ++ change_effects h s (stamp s q))).registers q
unfolding stamp
get_value {start} now s olds h o p I q b =
    sym (stamp-value s.slots (newest_of s q) s.clock (newest_of s q))
    ∙ ⊎_elim (λ u. u.1) (λ u. absurd (omega (arith, T.low, u.0, I.clock_fits))) (T.inv.stamps q b).1
    ∙ ap (λ (y : Plain). y.registers q) (sym T.inv.linear.come)
    ∙ ap (λ (k : List ℕ). (after h (plain₀ start) k).registers q) T.grown
  where
    T : Stamped start now s q olds h o
    T = stamp-inv now s olds h o p I q b

------------------------------------------------------------------------
-- The two runs

module _ (r : ℕ) (s : Store) (l : List Slot) (ws : List Worker) (sl : map bare_slot s.slots ≡ map bare_slot l)
    (sw : map bare_worker s.workers ≡ map bare_worker ws)
    {start : ℕ → Content} (now : ℕ) (h h' : List Call) (C : AlikeCalls r h h') (o : List ℕ)
    (olds : List (List ℕ)) (p : Plain) (I : Inv start now s olds h o p)
    (olds' : List (List ℕ)) (p' : Plain) (I' : Inv start now (with_workers (with_slots s l) ws) olds' h' o p')
    (w : ℕ) (wb : w < s.site.P) where
  abbrev t : Store
  t = with_workers (with_slots s l) ws

  abbrev rows : List ℕ
  rows = s.site.rows

  plains : AlikePlain r p p'
  plains = subst (AlikePlain r p) I'.linear.come (subst (λ (k : Plain). AlikePlain r k (after h' (plain₀ start) o)) I.linear.come (plain_like r start h h' C o))

  read_copies : (y : Sum) (u : Purpose) → AlikeCopy r (copy_for p w u) (copy_for p' w (purpose_with y u))
  read_copies y Single = plains.copy w
  read_copies y (Marked m) = plains.kept m
  read_copies y (Totaling g i z) = plains.copy w

  -- a total's sums
  sums : (q : ℕ) (y : Sum) (u : Purpose) → Summed rows p w q u → Summed rows p' w q (purpose_with y u) → looks_for r rows q u ≡ false
      → (eqb q r ≡ false) × (purpose_with y u ≡ u)
  sums q y Single a a' n = (n, refl)
  sums q y (Marked m) a a' n = (n, refl)
  sums q y (Totaling g i z) a a' n = (
    ap (λ (k : ℕ). eqb k r) a.1 ∙ names_at r g rows i n a.0 a.2,
    ap (Totaling g i)
        (a'.4.2
        ∙ sym (sum_like r a.4.0 a'.4.0 (λ k e. content_equal r k _ _ (both k) e) (of_group g (take i rows)) (names-take r g rows i n))
        ∙ sym a.4.2),
  )
    where
      both : AlikeRegisters r a.4.0 a'.4.0
      both = copies r (p.copy w) (p'.copy w) a.4.0 a'.4.0 (plains.copy w) a.4.1 a'.4.1

  stand_told : (q : ℕ) (u : Purpose) (c : ℕ) (y : Sum)
      → (worker_at s w).doing ≡ ReadStand (record { register = q; purpose = u }) c
      → (worker_at t w).doing ≡ ReadStand (record { register = q; purpose = purpose_with y u }) c
      → Told (looks_for r rows q u) s t w y (ReadStand (record { register = q; purpose = u }) c)
  stand_told q u c y e e' low = (
    limit_like r q _ _ values,
    (λ n. let a = sums q y u D.3 D'.3 n in (content_equal r q _ _ values a.0, a.1)),
  )
    where
      D : PlaceHolds (ctx s olds) p w (worker_at s w).announced (ReadStand (record { register = q; purpose = u }) c)
      D = doing_is now s olds h o p I w wb _ e

      D' : PlaceHolds (ctx t olds') p' w (worker_at t w).announced (ReadStand (record { register = q; purpose = purpose_with y u }) c)
      D' = doing_is now t olds' h' o p' I' w wb _ e'

      low' : leb (slot_at t c).low (time_for t.marks (worker_at t w).announced (purpose_with y u)) ≡ true
      low' =
          sym (ap (leb (slot_at t c).low) (time_like true s l ws sl sw w y u))
          ∙ sym (ap (λ (v : Slot). leb v.low (time_for s.marks (worker_at s w).announced u)) (slot_like s l ws sl sw c))
          ∙ low

      finds : (slot_at s c).value ≡ D.2.1 q
      finds =
          On-found s.slots (time_in (ctx s olds) (worker_at s w).announced u) c (D.2.1 q) (chain (ctx s olds) q) D.2.3
          (Tests.leb-true (slot_at s c).low (time_for s.marks (worker_at s w).announced u) low)

      finds' : (slot_at t c).value ≡ D'.2.1 q
      finds' =
          On-found l (time_in (ctx t olds') (worker_at t w).announced (purpose_with y u)) c (D'.2.1 q) (chain (ctx t olds') q) D'.2.3
          (Tests.leb-true (slot_at t c).low (time_for t.marks (worker_at t w).announced (purpose_with y u)) low')

      values : AlikeContent r q (slot_at s c).value (slot_at t c).value
      values =
          rw (finds, finds')
          (copies r (copy_for p w u) (copy_for p' w (purpose_with y u)) D.2.1 D'.2.1 (read_copies y u) D.2.2 D'.2.2 q)

  get_told : (q : ℕ) (y : Sum) → (worker_at s w).doing ≡ GetShow q → (worker_at t w).doing ≡ GetShow q → Told (eqb q r) s t w y (GetShow q)
  unfolding stamp
  get_told q y e e' =
      content_equal r q _ _
      (rw (
        get_value now s olds h o p I q (doing_is now s olds h o p I w wb (GetShow q) e).0,
        get_value now t olds' h' o p' I' q (doing_is now t olds' h' o p' I' w wb (GetShow q) e').0,
        ← same,
      )
      ((plain_like r start h h' C (o ++ change_effects h s (stamp s q))).registers q))
    where
      same : change_effects h s (stamp s q) ≡ change_effects h' t (stamp t q)
      same =
          change-effects_like r h h' C s (stamp s q) t (stamp t q) (bare-like s l ws sl sw)
          (bare-like (stamp s q) (stamp_slots l (newest_of s q) s.clock) ws (stamp-like s.slots l sl (newest_of s q) s.clock) sw)

  -- at every place
  pub told : (x : Reading) (y : Sum) (d : Doing) → (worker_at s w).doing ≡ d → (worker_at t w).doing ≡ place_with x y d
      → Told (looks_at r rows d) s t w y d
  told x y Idle e e' = tt
  told x y (PutPublish q z) e e' = tt
  told x y (PutStamp q c) e e' = tt
  told x y (PutHandIn q c) e e' = tt
  told x y FlushTake e e' = tt
  told x y (FlushRead m ts) e e' = tt
  told x y (FlushFree m) e e' = tt
  told x y (OnTime z) e e' = tt
  told x y (ReadEnter g) e e' = tt
  told x y (ReadStand g c) e e' = stand_told g.register g.purpose c y e e'
  told x y (GetShow q) e e' = get_told q y e e'
