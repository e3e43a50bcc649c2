-- Laws about the rows of totals: the rows of a group one by one, sums over them, and what a list that a setup accepts has.
use mathlib.Core.Path.{◌≡◌, refl, sym, ap, ◌∙◌, subst}
use mathlib.Core.Bool.{Bool, true, false, cond, ◌&&◌, true≢false}
use mathlib.Core.Logic.{◌≢◌, ⊎_elim}
use mathlib.Core.List.{List, [], ◌∷◌, ◌++◌}
use Prim.Native.Nat.{ℕ, zero, suc, ◌+◌, ◌*◌, ◌≤◌, ◌<◌, max}
use native.Mathlib.Omega.{arith}
use native.Mathlib.Nat.{le_of_suc-le-suc, not-suc-le-zero}
use lib.Dec.{ltb, leb, eqb}
use lib.ListN.{length, take}
use borrow.Author.Tests as Tests
use Rattle.model.specs.Store.{Content, count_of, status_of}
use Rattle.model.specs.Totals.{group_of, sign_of, register_of, row_fits, before, follow, of_group, first_of, row_at, goes_on, Sum}
use Rattle.model.specs.Sums.{add_row}
use Rattle.model.specs.Demand.{sum_over}
use Rattle.model.proofs.Basic.{eq_cases, and_both}

------------------------------------------------------------------------
-- One row more

one_more_lem : (x y : ℕ) (m m' : List ℕ) → m' ≡ m ++ (y ∷ []) → (t : Bool) → cond t (x ∷ m') m' ≡ cond t (x ∷ m) m ++ (y ∷ [])
one_more_lem x y m m' e true = ap (λ (l : List ℕ). x ∷ l) e
one_more_lem x y m m' e false = e

own_suc : (g : ℕ) (l : List ℕ) (i : ℕ) → i < length l → group_of (row_at l i) ≡ g
    → of_group g (take (suc i) l) ≡ of_group g (take i l) ++ (row_at l i ∷ [])
unfolding of_group
own_suc g [] i b e = absurd (not-suc-le-zero b)
own_suc g (x ∷ l) zero b e = rw (Tests.eq-eqb (group_of x) g e)
own_suc g (x ∷ l) (suc i) b e =
    one_more_lem x (row_at l i) (of_group g (take i l)) (of_group g (take (suc i) l)) (own_suc g l i (le_of_suc-le-suc b) e) (eqb (group_of x) g)

-- a row of the group at index i is the last of the rows of the group up to it
pub own_next : (g : ℕ) (l : List ℕ) (i : ℕ) → i < length l → group_of (row_at l i) ≡ g
    → of_group g (take (i + 1) l) ≡ of_group g (take i l) ++ (row_at l i ∷ [])
own_next g l i b e =
    let n : suc i ≡ i + 1 = omega arith in
    subst (λ (k : ℕ). of_group g (take k l) ≡ of_group g (take i l) ++ (row_at l i ∷ [])) n (own_suc g l i b e)

pub first_within : (g : ℕ) (l : List ℕ) → first_of g l ≤ length l
unfolding first_of
first_within g [] = omega arith
first_within g (x ∷ l) = ⊎_elim (λ u. rw u.1 (omega arith)) (λ u. rw u.1 (omega (arith, first_within g l))) (eq_cases (group_of x) g)

-- the first row of a group has none before it
pub first_none : (g : ℕ) (l : List ℕ) → of_group g (take (first_of g l) l) ≡ []
unfolding of_group first_of
first_none g [] = refl
first_none g (x ∷ l) = ⊎_elim (λ u. rw u.1) (λ u. rw u.1 (rw u.1 (first_none g l))) (eq_cases (group_of x) g)

pub first_own : (g : ℕ) (l : List ℕ) → first_of g l < length l → group_of (row_at l (first_of g l)) ≡ g
unfolding first_of
first_own g [] b = absurd (not-suc-le-zero b)
first_own g (x ∷ l) b = ⊎_elim (λ u. rw u.1 u.0) (λ u. rw u.1 (first_own g l
    (le_of_suc-le-suc (subst (λ (t : Bool). cond t 0 (suc (first_of g l)) < suc (length l)) u.1 b)))) (eq_cases (group_of x) g)

------------------------------------------------------------------------
-- Sums

add_comm : (s : Sum) (x : ℕ) (u : Content) (y : ℕ) (v : Content) → add_row (add_row s x u) y v ≡ add_row (add_row s y v) x u
add_comm s x u y v = both (eqb (sign_of x) 0) (eqb (sign_of y) 0)
  where
    sums : (a b m c d n : ℕ) → a ≡ c → b ≡ d → m ≡ n
        → ◌≡◌ {A = Sum} (record { plus = a; minus = b; status = m }) (record { plus = c; minus = d; status = n })
    sums a b m c d n e f g = rw (e, f, g)

    largest : (a b c : ℕ) → max (max a b) c ≡ max (max a c) b
    largest a b c = omega arith

    both : (p q : Bool) → ◌≡◌ {A = Sum}
        (record {
          plus = s.plus + cond p (count_of u) 0 + cond q (count_of v) 0;
          minus = s.minus + cond p 0 (count_of u) + cond q 0 (count_of v);
          status = max (max s.status (status_of u)) (status_of v);
        })
        (record {
          plus = s.plus + cond q (count_of v) 0 + cond p (count_of u) 0;
          minus = s.minus + cond q 0 (count_of v) + cond p 0 (count_of u);
          status = max (max s.status (status_of v)) (status_of u);
        })
    both p q = sums _ _ _ _ _ _ (omega arith) (omega arith) (largest s.status (status_of u) (status_of v))

pub sum-next : (f : ℕ → Content) (l : List ℕ) (x : ℕ) → sum_over f (l ++ (x ∷ [])) ≡ add_row (sum_over f l) x (f (register_of x))
unfolding sum_over
sum-next f [] x = refl
sum-next f (y ∷ l) x =
    ap (λ (s : Sum). add_row s y (f (register_of y))) (sum-next f l x)
    ∙ add_comm (sum_over f l) x (f (register_of x)) y (f (register_of y))

-- a value is added to one of the two sums
pub sum-grows : (s : Sum) (x : ℕ) (u : Content) → (add_row s x u).plus + (add_row s x u).minus ≡ s.plus + s.minus + count_of u
sum-grows s x u = go (eqb (sign_of x) 0)
  where
    go : (t : Bool) → s.plus + cond t (count_of u) 0 + (s.minus + cond t 0 (count_of u)) ≡ s.plus + s.minus + count_of u
    go true = omega arith
    go false = omega arith

------------------------------------------------------------------------
-- A list that a setup accepts

-- what `follow` says of the first row
pub record Follows (v g n x : ℕ) (l : List ℕ) : Type 0 where
  pub fits : row_fits v x ≡ true
  pub rises : g ≤ group_of x
  pub few : before g n x < 32
  pub rest : follow v (group_of x) (before g n x + 1) l ≡ true

pub follows : (v g n x : ℕ) (l : List ℕ) → follow v g n (x ∷ l) ≡ true → Follows v g n x l
unfolding follow
follows v g n x l e =
    let a = and_both (row_fits v x && leb g (group_of x) && ltb (before g n x) 32) _ e in
    let b = and_both (row_fits v x && leb g (group_of x)) _ a.0 in
    let c = and_both (row_fits v x) _ b.0 in
    record {
      fits = c.0;
      rises = Tests.leb-true g (group_of x) c.1;
      few = Tests.ltb-true (before g n x) 32 b.1;
      rest = a.1;
    }

pub row_fits_lem : (v g n : ℕ) (l : List ℕ) → follow v g n l ≡ true → (i : ℕ) → i < length l → row_fits v (row_at l i) ≡ true
row_fits_lem v g n [] e i b = absurd (not-suc-le-zero b)
row_fits_lem v g n (x ∷ l) e zero b = (follows v g n x l e).fits
row_fits_lem v g n (x ∷ l) e (suc i) b =
    let F = follows v g n x l e in row_fits_lem v (group_of x) (before g n x + 1) l F.rest i (le_of_suc-le-suc b)

-- no row of a lower group follows
none_below : (v g n : ℕ) (l : List ℕ) → follow v g n l ≡ true → (h : ℕ) → h < g → of_group h l ≡ []
unfolding of_group
none_below v g n [] e h b = refl
none_below v g n (x ∷ l) e h b =
    let F = follows v g n x l e in
    ⊎_elim
    (λ u. absurd (omega (arith, F.rises, u.0)))
    (λ u. rw u.1 (none_below v (group_of x) (before g n x + 1) l F.rest h (omega (arith, F.rises))))
    (eq_cases (group_of x) h)

-- nor of this one behind a row of another
none_behind : (v n : ℕ) (l : List ℕ) (h : ℕ) → follow v h n l ≡ true → (0 < length l → group_of (row_at l 0) ≢ h) → of_group h l ≡ []
unfolding of_group
none_behind v n [] h e d = refl
none_behind v n (x ∷ l) h e d =
    let F = follows v h n x l e in
    ⊎_elim
    (λ u. absurd (d (omega arith) u.0))
    (λ u. rw u.1 (none_below v (group_of x) (before h n x + 1) l F.rest h (omega (arith, F.rises, u.0))))
    (eq_cases (group_of x) h)

last_suc : (v g n : ℕ) (l : List ℕ) → follow v g n l ≡ true → (i h : ℕ) → i < length l → group_of (row_at l i) ≡ h
    → (suc i < length l → group_of (row_at l (suc i)) ≢ h) → of_group h (take (suc i) l) ≡ of_group h l
unfolding of_group
last_suc v g n [] e i h b o d = absurd (not-suc-le-zero b)
last_suc v g n (x ∷ l) e zero h b o d =
    let F = follows v g n x l e in
    let none : of_group h l ≡ [] =
    none_behind v (before g n x + 1) l h (subst (λ (k : ℕ). follow v k (before g n x + 1) l ≡ true) o F.rest)
    (λ z. d (omega (arith, z))) in
    ap (λ (m : List ℕ). cond (eqb (group_of x) h) (x ∷ m) m) (sym none)
last_suc v g n (x ∷ l) e (suc i) h b o d =
    let F = follows v g n x l e in
    ap (λ (m : List ℕ). cond (eqb (group_of x) h) (x ∷ m) m)
    (last_suc v (group_of x) (before g n x + 1) l F.rest i h (le_of_suc-le-suc b) o (λ z. d (omega (arith, z))))

-- behind its last row a group has none
pub last_own : (v : ℕ) (l : List ℕ) → follow v 0 0 l ≡ true → (i h : ℕ) → i < length l → group_of (row_at l i) ≡ h
    → (i + 1 < length l → group_of (row_at l (i + 1)) ≢ h) → of_group h (take (i + 1) l) ≡ of_group h l
last_own v l e i h b o d =
    let n : suc i ≡ i + 1 = omega arith in
    subst (λ (k : ℕ). of_group h (take k l) ≡ of_group h l) n
    (last_suc v 0 0 l e i h b o (subst (λ (k : ℕ). k < length l → group_of (row_at l k) ≢ h) (sym n) d))

-- at most 32 rows of a group
few_own : (v g n : ℕ) (l : List ℕ) → follow v g n l ≡ true → n ≤ 32 → n + length (of_group g l) ≤ 32
unfolding of_group
few_own v g n [] e b = omega arith
few_own v g n (x ∷ l) e b =
    let F = follows v g n x l e in
    ⊎_elim
    (λ u.
    let same : before g n x ≡ n = rw u.1 in
    let R = few_own v g (n + 1) l
    (subst (λ (k : ℕ). follow v g (k + 1) l ≡ true) same (subst (λ (k : ℕ). follow v k (before g n x + 1) l ≡ true) u.0 F.rest))
    (omega (arith, F.few, same)) in
    rw u.1 (omega (arith, R)))
    (λ u. rw u.1 (omega (arith, ap length (none_below v (group_of x) (before g n x + 1) l F.rest g (omega (arith, F.rises, u.0))))))
    (eq_cases (group_of x) g)

pub few : (v g n : ℕ) (l : List ℕ) → follow v g n l ≡ true → n ≤ 32 → (h : ℕ) → length (of_group h l) ≤ 32
unfolding of_group
few v g n [] e b h = omega arith
few v g n (x ∷ l) e b h =
    let F = follows v g n x l e in
    let R = few v (group_of x) (before g n x + 1) l F.rest (omega (arith, F.few)) h in
    ⊎_elim
    (λ u.
    let S = few_own v (group_of x) (before g n x + 1) l F.rest (omega (arith, F.few)) in
    rw u.1 (omega (arith, subst (λ (k : ℕ). before g n x + 1 + length (of_group k l) ≤ 32) u.0 S)))
    (λ u. rw u.1 R)
    (eq_cases (group_of x) h)

pub own_few : (g : ℕ) (l : List ℕ) (n : ℕ) → length (of_group g (take n l)) ≤ length (of_group g l)
unfolding of_group
own_few g [] zero = omega arith
own_few g [] (suc n) = omega arith
own_few g (x ∷ l) zero = omega arith
own_few g (x ∷ l) (suc n) = both (eqb (group_of x) g) (of_group g (take n l)) (of_group g l) (own_few g l n)
  where
    both : (t : Bool) (a b : List ℕ) → length a ≤ length b → length (cond t (x ∷ a) a) ≤ length (cond t (x ∷ b) b)
    both true a b h = omega (arith, h)
    both false a b h = h

-- and 1,024 in all
pub few_rows : (v g n : ℕ) (l : List ℕ) → follow v g n l ≡ true → n ≤ 32 → g ≤ 31 → length l + n + 32 * g ≤ 1024
few_rows v g n [] e b c = omega arith
few_rows v g n (x ∷ l) e b c =
    let F = follows v g n x l e in
    let top : group_of x ≤ 31 = Tests.leb-true (group_of x) 31 (and_both (leb (group_of x) 31) _ (and_both (leb (group_of x) 31 && leb (sign_of x) 1) _ F.fits).0).0 in
    let R = few_rows v (group_of x) (before g n x + 1) l F.rest (omega (arith, F.few)) top in
    ⊎_elim
    (λ u. let same : before g n x ≡ n = rw u.1 in omega (arith, R, same, u.0))
    (λ u. let none : before g n x ≡ 0 = rw u.1 in omega (arith, R, none, u.0, F.rises))
    (eq_cases (group_of x) g)

-- the group that goes on, and the one that does not
pub goes : (rows : List ℕ) (g i : ℕ) → goes_on rows g i ≡ true → (i + 1 < length rows) × (group_of (row_at rows (i + 1)) ≡ g)
goes rows g i e =
    let a = and_both (ltb (i + 1) (length rows)) _ e in
    (Tests.ltb-true (i + 1) (length rows) a.0, Tests.eqb-true (group_of (row_at rows (i + 1))) g a.1)

pub goes_not : (rows : List ℕ) (g i : ℕ) → goes_on rows g i ≡ false → i + 1 < length rows → group_of (row_at rows (i + 1)) ≢ g
goes_not rows g i e b d =
    let on : goes_on rows g i ≡ true = rw (Tests.lt-ltb (i + 1) (length rows) b, Tests.eq-eqb (group_of (row_at rows (i + 1))) g d) in
    true≢false (sym on ∙ e)
