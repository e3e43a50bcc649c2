-- The store that an accepted setup leaves meets the invariant, with an empty history.
use mathlib.Core.Path.{◌≡◌, refl, sym, ap, ◌∙◌, subst}
use mathlib.Core.Bool.{Bool, true, false, cond, ◌&&◌}
use mathlib.Core.Logic.{◌⊎◌, inl, inr, ⊎_elim}
use mathlib.Core.Option.{none}
use mathlib.Core.List.{List, [], ◌∷◌}
use Prim.Native.Nat.{ℕ, zero, suc, ◌+◌, ◌-◌, ◌%◌, ◌≤◌, ◌<◌}
use native.Mathlib.Nat.{not-suc-le-zero, le_of_suc-le-suc}
use native.Mathlib.Omega.{arith}
use lib.Dec.{ltb, leb, eqb}
use lib.Seq.{length-take-le}
use lib.ListN.{length, get_or, take, replicate, length-replicate, get_or-replicate}
use borrow.Author.Tests as Tests
use Rattle.model.specs.Store.{absent, mark_count, last_clock, Slot, start_worker, Hub, blank, up, up_from, Lent}
use Rattle.model.specs.Rules.{Rules}
use Rattle.model.specs.Answer.{Ok, Applied}
use Rattle.model.specs.Totals.{follow}
use Rattle.model.specs.Record.{Sizes, SetUp, Begin, Step, Decoded, Asks, Refuses, decode, rows_of, list_fits}
use Rattle.model.specs.Apply.{made_by, refuse, in_ranges, first_slots, fresh, set_up, obey, apply_decoded, apply}
use Rattle.model.specs.Demand.{start_of, plain₀, occurrences, Ordered, ByEnds, RegistersAgree}
use Rattle.model.specs.Reached.{sum_by}
use Rattle.model.proofs.Basic.{hit-eq, hit_other, lt_cases, eq_cases, cond_both, and_both}
use Rattle.theorem.proofs.Linear.{Lin, after}
use Rattle.theorem.proofs.Slots.{nth}
use Rattle.theorem.proofs.Chain.{Linked, Fine}
use Rattle.theorem.proofs.Count.{cnt}
use Rattle.theorem.proofs.Invariant.{ctx, old, chain, pend_w, pend, below, Inv, Works}

up_length : (a n : ℕ) → length (up_from a n) ≡ n
unfolding up_from
up_length a zero = refl
up_length a (suc n) = ap suc (up_length (a + 1) n)

up_at : (a n r : ℕ) → r < n → get_or (up_from a n) r absent ≡ a + r
unfolding up_from
up_at a zero r h = absurd (not-suc-le-zero h)
up_at a (suc n) zero h = omega arith
up_at a (suc n) (suc r) h = omega (arith, up_at (a + 1) n r (le_of_suc-le-suc h))

up_low : (a n c : ℕ) → c < a → occurrences c (up_from a n) ≡ 0
unfolding up_from occurrences
up_low a zero c h = refl
up_low a (suc n) c h = omega (arith, hit_other a c (omega arith), up_low (a + 1) n c (omega arith))

up_in : (a n c : ℕ) → a ≤ c → c < a + n → occurrences c (up_from a n) ≡ 1
unfolding up_from occurrences
up_in a zero c h k = absurd (omega arith)
up_in a (suc n) c h k =
    ⊎_elim
    (λ u. omega (arith, hit-eq a c u.0, up_low (a + 1) n c (omega (arith, u.0))))
    (λ u. omega (arith, hit_other a c u.0, up_in (a + 1) n c (omega (arith, u.0)) (omega arith)))
    (eq_cases a c)

up_high : (a n c : ℕ) → a + n ≤ c → occurrences c (up_from a n) ≡ 0
unfolding up_from occurrences
up_high a zero c h = refl
up_high a (suc n) c h = omega (arith, hit_other a c (omega arith), up_high (a + 1) n c (omega arith))

first_length_lem : (v : ℕ) (l : List Slot) → length (first_slots v l) ≡ length l
unfolding first_slots
first_length_lem v [] = refl
first_length_lem zero (z ∷ l) = ap suc (first_length_lem zero l)
first_length_lem (suc v) (z ∷ l) = ap suc (first_length_lem v l)

first_at : (v : ℕ) (l : List Slot) (r : ℕ) → r < v → r < length l
    → nth (first_slots v l) r ≡ record { value = none; low = 0; high = absent; older = absent; newer = absent }
unfolding first_slots
first_at v [] r h k = absurd (not-suc-le-zero k)
first_at zero (z ∷ l) r h k = absurd (not-suc-le-zero h)
first_at (suc v) (z ∷ l) zero h k = refl
first_at (suc v) (z ∷ l) (suc r) h k = first_at v l r (le_of_suc-le-suc h) (le_of_suc-le-suc k)

first_rest : (v : ℕ) (l : List Slot) (r : ℕ) → v ≤ r → r < length l
    → ((nth (first_slots v l) r).older ≡ absent) × ((nth (first_slots v l) r).newer ≡ absent)
unfolding first_slots
first_rest v [] r h k = absurd (not-suc-le-zero k)
first_rest zero (z ∷ l) zero h k = (refl, refl)
first_rest zero (z ∷ l) (suc r) h k = first_rest zero l r (omega arith) (le_of_suc-le-suc k)
first_rest (suc v) (z ∷ l) zero h k = absurd (not-suc-le-zero h)
first_rest (suc v) (z ∷ l) (suc r) h k = first_rest v l r (le_of_suc-le-suc h) (le_of_suc-le-suc k)

sum-replicate {ℓ} : {A : Type ℓ} (f : A → ℕ) (a : A) → f a ≡ 0 → (n : ℕ) → sum_by f (replicate n a) ≡ 0
unfolding sum_by
sum-replicate f a e zero = refl
sum-replicate f a e (suc n) = omega (arith, e, sum-replicate f a e n)

-- what `in_ranges` and the row's length give
module _ (size : ℕ) (z : Sizes) (rows : List ℕ) (table : List ℕ) (row : List Slot) (rf : follow z.V' 0 0 rows ≡ true)
    (long : z.N ≤ length row) (v≤n : z.V' ≤ z.N) (n≤ : z.N ≤ 2048) (c< : z.clock < absent) where
  abbrev p : ℕ
  p = z.P

  abbrev v : ℕ
  v = z.V'

  abbrev n : ℕ
  n = z.N

  abbrev c : ℕ
  c = z.clock

  abbrev olds : List (List ℕ)
  olds = replicate v []

  pub start_inv : Inv (λ r. none) 0 (fresh size z rows table row) olds [] [] (plain₀ (λ r. none))
  unfolding fresh occurrences sum_by cnt
  start_inv =
      record {
        workers_length = length-replicate p start_worker;
        newest_length = up_length 0 v;
        slots_length = first_length_lem v (take n row) ∙ length-take-le n row long;
        olds_length = length-replicate v [];
        marks_length = refl;
        slots_few = omega arith;
        clock_fits = c<;
        free_alone = λ i z. alone i z (lt_cases i v) (lt_cases i n);
        once = count;
        pending_old = λ i. sum-replicate (occurrences i) [] refl v ∙ sym (none-pend i);
        linked =
            λ r b. subst (Linked (first_slots v (take n row)) absent) (sym (chain-is r b))
            (ap (λ (z : Slot). z.newer) (at r b), ap (λ (z : Slot). z.older) (at r b), tt);
        stamps =
            λ r b. subst (Fine (first_slots v (take n row)) c none) (sym (chain-is r b))
            (ap (λ (z : Slot). z.high) (at r b), inl (omega (arith, ap (λ (z : Slot). z.low) (at r b)), ap (λ (z : Slot). z.value) (at r b), tt));
        queue = tt;
        workers =
            λ w b. subst (Works (ctx (fresh size z rows table row) olds) [] [] (plain₀ (λ r. none)) w) (sym (get_or-replicate p w start_worker start_worker b))
            (record {
              pool = tt;
              announced = inl refl;
              snapshot = λ z. absurd (omega (arith, z, c<));
              doing = inl refl;
              current = λ i z. absurd
                  (not-suc-le-zero z);
            });
        marks = λ m b. inl (get_or-replicate mark_count m absent absent b, refl);
        stamper =
            λ r b z. absurd (omega (
              arith,
              z,
              ap (λ (i : ℕ). (nth (first_slots v (take n row)) i).low) (top-is r b),
              ap (λ (q : Slot). q.low)
                  (at r b),
            ));
        outside = λ w b i z. absurd (not-suc-le-zero z);
        linear = first-lin;
        rows_fit = rf;
      }
    where
      none-pend : (i : ℕ) → pend i (replicate p start_worker) [] ≡ 0
      none-pend i = omega (arith, sum-replicate (pend_w i) start_worker refl p)

      count : (i : ℕ) → pend i (replicate p start_worker) [] + (occurrences i (up_from v (n - v)) + occurrences i (up_from 0 v)) ≡ below i n
      count i =
          ⊎_elim
          (λ a. ⊎_elim
          (λ b. omega (
            arith,
            none-pend i,
            up_low v (n - v) i b.0,
            up_in 0 v i (omega arith) (omega (arith, b.0)),
            ap {B = ℕ}
                (λ (t : Bool). cond t 1 0) a.1,
          ))
          (λ b. omega (
            arith,
            none-pend i,
            up_in v (n - v) i b.0 (omega (arith, a.0)),
            up_high 0 v i (omega (arith, b.0)),
            ap {B = ℕ}
                (λ (t : Bool). cond t 1 0) a.1,
          ))
          (lt_cases i v))
          (λ a. omega (
            arith,
            none-pend i,
            up_high v (n - v) i (omega (arith, a.0)),
            up_high 0 v i (omega (arith, a.0)),
            ap {B = ℕ}
                (λ (t : Bool). cond t 1 0) a.1,
          ))
          (lt_cases i n)

      alone : (i : ℕ) → 0 < occurrences i (up_from v (n - v)) → ((i < v) × (ltb i v ≡ true)) ⊎ ((v ≤ i) × (ltb i v ≡ false))
          → ((i < n) × (ltb i n ≡ true)) ⊎ ((n ≤ i) × (ltb i n ≡ false))
          → ((nth (first_slots v (take n row)) i).older ≡ absent) × ((nth (first_slots v (take n row)) i).newer ≡ absent)
      alone i z (inl a) b = absurd (omega (arith, z, up_low v (n - v) i a.0))
      alone i z (inr a) (inr b) = absurd (omega (arith, z, up_high v (n - v) i (omega (arith, b.0))))
      alone i z (inr a) (inl b) = first_rest v (take n row) i a.0 (omega (arith, b.0, length-take-le n row long))

      top-is : (r : ℕ) → r < v → get_or (up_from 0 v) r absent ≡ r
      top-is r b = omega (arith, up_at 0 v r b)

      chain-is : (r : ℕ) → r < v → chain (ctx (fresh size z rows table row) olds) r ≡ r ∷ []
      chain-is r b = ap (λ (i : ℕ). i ∷ old (ctx (fresh size z rows table row) olds) r) (top-is r b) ∙ ap (λ (l : List ℕ). r ∷ l) (get_or-replicate v r [] [] b)

      at : (r : ℕ) → r < v → nth (first_slots v (take n row)) r ≡ record { value = none; low = 0; high = absent; older = absent; newer = absent }
      at r b = first_at v (take n row) r b (omega (arith, length-take-le n row long))

      first-lin : Lin rows (λ r. none) 0 [] [] (plain₀ (λ r. none))
      first-lin =
          record {
            is_order =
                record {
                  within = λ i z. refl;
                  stands = λ i z. absurd
                      (not-suc-le-zero z);
                  ordered = unfold Ordered in tt;
                  by_ends = unfold ByEnds in tt;
                  registers_agree = unfold RegistersAgree in tt;
                };
            early = λ i z. absurd (not-suc-le-zero z);
            past = λ i z. absurd (not-suc-le-zero z);
            come = unfold after in refl;
          }

------------------------------------------------------------------------
-- What an accepted setup is

pub record InRanges (z : Sizes) : Type 0 where
  pub one≤P : 1 ≤ z.P
  pub P≤16 : z.P ≤ 16
  pub one≤V : 1 ≤ z.V'
  pub V≤256 : z.V' ≤ 256
  pub V≤N : z.V' ≤ z.N
  pub N≤2048 : z.N ≤ 2048
  pub one≤clock : 1 ≤ z.clock
  pub clock≤last : z.clock ≤ last_clock

pub in_ranges_lem : (z : Sizes) → in_ranges z ≡ true → InRanges z
unfolding in_ranges
in_ranges_lem z e =
    let d = and_both (leb 1 z.P && leb z.P 16 && (leb 1 z.V' && leb z.V' 256) && (leb z.V' z.N && leb z.N 2048))
    (leb 1 z.clock && leb z.clock last_clock) e in
    let c = and_both (leb 1 z.P && leb z.P 16 && (leb 1 z.V' && leb z.V' 256)) (leb z.V' z.N && leb z.N 2048) d.0 in
    let b = and_both (leb 1 z.P && leb z.P 16) (leb 1 z.V' && leb z.V' 256) c.0 in
    let a₁ = and_both (leb 1 z.P) (leb z.P 16) b.0 in
    let b₁ = and_both (leb 1 z.V') (leb z.V' 256) b.1 in
    let c₁ = and_both (leb z.V' z.N) (leb z.N 2048) c.1 in
    let d₁ = and_both (leb 1 z.clock) (leb z.clock last_clock) d.1 in
    record {
      one≤P = Tests.leb-true 1 z.P a₁.0;
      P≤16 = Tests.leb-true z.P 16 a₁.1;
      one≤V = Tests.leb-true 1 z.V' b₁.0;
      V≤256 = Tests.leb-true z.V' 256 b₁.1;
      V≤N = Tests.leb-true z.V' z.N c₁.0;
      N≤2048 = Tests.leb-true z.N 2048 c₁.1;
      one≤clock = Tests.leb-true 1 z.clock d₁.0;
      clock≤last = Tests.leb-true z.clock last_clock d₁.1;
    }

-- a record that a hub not yet set up answers `ok` is a setup: its store is fresh, with sizes in their ranges
pub record Accepted (rules : Rules) (lent : Lent) (hub : Hub) : Type 0 where
  pub sizes : Sizes
  pub is : hub ≡ up (made_by rules sizes lent)
  pub long : sizes.N ≤ length lent.row
  pub fits : InRanges sizes
  pub rows : follow sizes.V' 0 0 (rows_of rules.given.totals) ≡ true

abbrev Accepts : Rules → Lent → Applied → Type 0
Accepts rules lent a = a.answer ≡ Ok → Accepted rules lent a.hub

refuses : (rules : Rules) (lent : Lent) (h : Hub) (k : ℕ) → Accepts rules lent (refuse h k)
refuses rules lent h k e = absurd (let z : ◌≡◌ {A = ℕ} 0 1 = cc in omega arith)

obeys : (rules : Rules) (lent : Lent) (d : Decoded) → Accepts rules lent (apply_decoded rules (blank lent) d)
unfolding apply_decoded obey set_up list_fits
obeys rules lent (Asks (SetUp z)) =
    cond_both (Accepts rules lent) (in_ranges z && leb z.N (length lent.row) && list_fits z.V' rules.given.totals) _ _
    (λ e o.
    let t = and_both (in_ranges z && leb z.N (length lent.row)) _ e in
    let w = and_both (in_ranges z) (leb z.N (length lent.row)) t.0 in
    record {
      sizes = z;
      is = refl;
      long = Tests.leb-true z.N (length lent.row) w.1;
      fits = in_ranges_lem z w.0;
      rows = (and_both (eqb (length rules.given.totals % 4) 0) _ t.1).1;
    })
    (λ e. refuses rules lent (blank lent) 5)
obeys rules lent (Asks (Begin w o)) = refuses rules lent (blank lent) 8
obeys rules lent (Asks (Step w)) = refuses rules lent (blank lent) 8
obeys rules lent (Refuses k) = refuses rules lent (blank lent) k

pub accepts : (rules : Rules) (lent : Lent) (b : List ℕ) → (apply rules (blank lent) b).answer ≡ Ok
    → Accepted rules lent (apply rules (blank lent) b).hub
unfolding apply
accepts rules lent b = obeys rules lent (decode b)

-- its store meets the invariant
pub accepted_inv : (rules : Rules) {lent : Lent} {hub : Hub} (A : Accepted rules lent hub)
    → Inv (start_of rules.given) 0 (made_by rules A.sizes lent) (replicate A.sizes.V' []) [] [] (plain₀ (start_of rules.given))
accepted_inv rules {lent} A =
    start_inv (rules.batch A.sizes.P) A.sizes (rows_of rules.given.totals) lent.table lent.row A.rows A.long
    A.fits.V≤N A.fits.N≤2048 (omega (arith, A.fits.clock≤last))
