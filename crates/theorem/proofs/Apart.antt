-- What counting gives: the slots of the registers' lists, the free slots and the pending versions are apart.
use mathlib.Core.Path.{◌≡◌, refl, sym, ap}
use mathlib.Core.Bool.{Bool, true, false, cond}
use mathlib.Core.Logic.{◌≢◌, ⊎_elim}
use mathlib.Core.List.{List, [], ◌∷◌}
use Prim.Native.Nat.{ℕ, ◌+◌, ◌≤◌, ◌<◌}
use native.Mathlib.Omega.{arith}
use lib.Dec.{ltb}
use lib.ListN.{length, get_or}
use Rattle.model.specs.Store.{Content, absent, Store, newest_of}
use Rattle.model.specs.Demand.{Call, Plain, occurrences}
use Rattle.model.specs.Reached.{sum_by}
use Rattle.model.proofs.Basic.{hit, hit-eq, lt_cases}
use Rattle.theorem.proofs.Count.{sum_by-one, sum_by-two, sum_by-some}
use Rattle.theorem.proofs.Invariant.{Ctx, ctx, old, chain, pend, below, Inv}

times_sum : (c : ℕ) (l : List ℕ) → occurrences c l ≡ sum_by (λ j. hit j c) l
unfolding occurrences sum_by
times_sum c [] = refl
times_sum c (j ∷ l) = omega (arith, times_sum c l)

times_one : (l : List ℕ) (i c : ℕ) → i < length l → hit (get_or l i absent) c ≤ occurrences c l
times_one l i c h = omega (arith, times_sum c l, sum_by-one (λ j. hit j c) l i absent h)

times_two : (l : List ℕ) (i j c : ℕ) → i < length l → j < length l → i ≢ j → hit (get_or l i absent) c + hit (get_or l j absent) c ≤ occurrences c l
times_two l i j c h k n = omega (arith, times_sum c l, sum_by-two (λ q. hit q c) l i j absent h k n)

pub below≤1 : (c n : ℕ) → below c n ≤ 1
below≤1 c n = go (ltb c n)
  where
    go : (t : Bool) → cond t 1 0 ≤ 1
    go true = omega arith
    go false = omega arith

pub below_in : (c n : ℕ) → 0 < below c n → c < n
below_in c n h = ⊎_elim (λ u. u.0) (λ u. absurd (omega (arith, ap {B = ℕ} (λ (t : Bool). cond t 1 0) u.1, h))) (lt_cases c n)

module _ {start : ℕ → Content} {now : ℕ} {s : Store} {olds : List (List ℕ)} {h : List Call} {o : List ℕ} {p : Plain} (I : Inv start now s olds h o p) where
  x : Ctx
  x = ctx s olds

  -- a slot in register r's versions is there once
  pub chain-once : (r : ℕ) → r < s.site.V' → (c : ℕ) → occurrences c (chain (ctx s olds) r) + occurrences c s.free ≤ 1
  unfolding occurrences
  chain-once r b c =
      omega (
        arith,
        I.once c,
        I.pending_old c,
        below≤1 c s.site.N,
        times_one s.newest r c (omega (arith, I.newest_length)),
        sum_by-one
            (occurrences c) olds r [] (omega (arith, I.olds_length)),
      )

  pub chain-in : (r : ℕ) → r < s.site.V' → (c : ℕ) → 0 < occurrences c (chain (ctx s olds) r) → c < length s.slots
  unfolding occurrences
  chain-in r b c z =
      let q : c < s.site.N = below_in c s.site.N
      (omega (
        arith,
        I.once c,
        I.pending_old c,
        times_one s.newest r c (omega (arith, I.newest_length)),
        sum_by-one (occurrences c) olds r []
            (omega (arith, I.olds_length)),
      )) in
      omega (arith, I.slots_length)

  -- and in no other's
  pub chain-apart : (r q : ℕ) → r < s.site.V' → q < s.site.V' → r ≢ q → (c : ℕ) → 0 < occurrences c (chain (ctx s olds) r)
      → occurrences c (chain (ctx s olds) q) ≡ 0
  unfolding occurrences
  chain-apart r q b d n c z =
      omega (
        arith,
        I.once c,
        I.pending_old c,
        below≤1 c s.site.N,
        times_two s.newest r q c (omega (arith, I.newest_length))
            (omega (arith, I.newest_length)) n,
        sum_by-two (occurrences c) olds r q [] (omega (arith, I.olds_length)) (omega (arith, I.olds_length)) n,
      )

  pub free_in_lem : (c : ℕ) → 0 < occurrences c s.free → c < length s.slots
  free_in_lem c z = let q : c < s.site.N = below_in c s.site.N (omega (arith, I.once c)) in omega (arith, I.slots_length)

  -- what is on its way to be freed stands in some register's versions, below the newest
  pub pend-chain : (c : ℕ) → 0 < pend c s.workers s.queue → (r : ℕ) × (r < s.site.V') × (0 < occurrences c (old (ctx s olds) r))
  pend-chain c z = let q = sum_by-some (occurrences c) olds [] (omega (arith, I.pending_old c)) in (q.0, omega (arith, q.1, I.olds_length), q.2)

  pub pend-top : (c r : ℕ) → r < s.site.V' → 0 < pend c s.workers s.queue → c ≢ newest_of s r
  pend-top c r b z e =
      omega (arith, I.once c, below≤1 c s.site.N, times_one s.newest r c (omega (arith, I.newest_length)), hit-eq (newest_of s r) c (sym e))
