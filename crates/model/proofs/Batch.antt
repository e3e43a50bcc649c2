-- The sixteen figures of the batch size are document 01's, and from 1 to 64: a test that antt computes for each number, and one law that carries
-- a test to each.
use mathlib.Core.Path.{◌≡◌, refl, sym, subst}
use mathlib.Core.Bool.{Bool, true, cond, ◌&&◌}
use mathlib.Core.Logic.{⊎_elim}
use Prim.Native.Nat.{ℕ, zero, suc, ◌*◌, ◌^◌, ◌-◌, ◌≤◌, ◌<◌}
use native.Mathlib.Nat.{le_of_suc-le-suc, not-suc-le-zero}
use native.Mathlib.Omega.{arith}
use lib.Dec.{leb, ltb, eqb}
use lib.Pow.{pow_mono}
use borrow.Author.Tests.{leb-true, ltb-true, eqb-true, lt-leb}
use Rattle.model.specs.Batch.{batch_of, TimesLogarithm, AsDocumented}
use Rattle.model.specs.Rules.{Rules, Allowed}
use Rattle.model.proofs.Basic.{and_both, le_cases}

-- the test f passes at each number below n
abbrev pub every : (ℕ → Bool) → ℕ → Bool
every f zero = true
every f (suc n) = f 0 && every (λ (k : ℕ). f (suc k)) n

-- so it passes at each of them
pub at : (f : ℕ → Bool) (n : ℕ) → every f n ≡ true → (k : ℕ) → k < n → f k ≡ true
at f zero t k h = absurd (not-suc-le-zero h)
at f (suc n) t zero h = (and_both (f 0) (every (λ (k : ℕ). f (suc k)) n) t).0
at f (suc n) t (suc k) h = at (λ (j : ℕ). f (suc j)) n (and_both (f 0) (every (λ (j : ℕ). f (suc j)) n) t).1 k (le_of_suc-le-suc h)

-- the logarithm of p, from two to sixteen, rounded up
log_up : ℕ → ℕ
log_up p = cond (leb p 2) 1 (cond (leb p 4) 2 (cond (leb p 8) 3 4))

-- what is computed of each number p past one: p is above the power below and at most the power, and the figure is the product
right : ℕ → Bool
right p = cond (leb p 1) true (ltb (2 ^ (log_up p - 1)) p && (leb p (2 ^ log_up p) && eqb (batch_of p) (p * log_up p)))

all_right : every right 17 ≡ true
unfolding right log_up batch_of
all_right = refl

-- no smaller power reaches p where the one below does not
least_power : (p k j : ℕ) → 2 ^ (k - 1) < p → p ≤ 2 ^ j → k ≤ j
least_power p k j a b =
    ⊎_elim (λ e. e.0)
    (λ e.
    let h : 2 ^ j ≤ 2 ^ (k - 1) = pow_mono (omega (arith, e.0)) in
    absurd (omega (arith, h, a, b)))
    (le_cases k j)

times_logarithm : (p : ℕ) → 2 ≤ p → p ≤ 16 → right p ≡ true → TimesLogarithm p
unfolding right
times_logarithm p a b t =
    let s : ltb (2 ^ (log_up p - 1)) p && (leb p (2 ^ log_up p) && eqb (batch_of p) (p * log_up p)) ≡ true = rw (lt-leb p 1 a) at t in
    let u = and_both (ltb (2 ^ (log_up p - 1)) p) (leb p (2 ^ log_up p) && eqb (batch_of p) (p * log_up p)) s in
    let v = and_both (leb p (2 ^ log_up p)) (eqb (batch_of p) (p * log_up p)) u.1 in
    record {
      k = log_up p;
      reaches = leb-true p (2 ^ log_up p) v.0;
      least = λ j h. least_power p (log_up p) j (ltb-true (2 ^ (log_up p - 1)) p u.0) h;
      figure = eqb-true (batch_of p) (p * log_up p) v.1;
    }

pub as_documented : AsDocumented
unfolding batch_of
as_documented =
    record {
      one = refl;
      more = λ p a b. times_logarithm p a b (at right 17 all_right p (omega (arith, b)));
    }

-- each is from 1 to 64
within : ℕ → Bool
within p = leb 1 (batch_of p) && leb (batch_of p) 64

all_within : every within 17 ≡ true
unfolding within batch_of
all_within = refl

pub batch_within : (p : ℕ) → p ≤ 16 → (1 ≤ batch_of p) × (batch_of p ≤ 64)
unfolding within
batch_within p h =
    let u = and_both (leb 1 (batch_of p)) (leb (batch_of p) 64) (at within 17 all_within p (omega (arith, h))) in
    (leb-true 1 (batch_of p) u.0, leb-true (batch_of p) 64 u.1)

-- so rules with the batch size of H1.24 are allowed
pub allowed : (rules : Rules) → rules.batch ≡ batch_of → Allowed rules
allowed rules e p a b = subst (λ (f : ℕ → ℕ). (1 ≤ f p) × (f p ≤ 64)) (sym e) (batch_within p b)
