-- Refusal 14 as H7 of docs/HUB.md words it: there is no free slot exactly where every slot stands in some register's list. And the rule for every
-- slot's neighbours.
use mathlib.Core.Path.{◌≡◌, refl, sym, ap, ◌∙◌, subst}
use mathlib.Core.Bool.{Bool, cond}
use mathlib.Core.Logic.{◌↔◌, ◌≢◌, ◌⊎◌, inl, inr, ⊎_elim}
use mathlib.Core.List.{List, [], ◌∷◌}
use Prim.Native.Nat.{ℕ, zero, suc, ◌≤◌, ◌<◌}
use native.Mathlib.Omega.{arith}
use lib.ListN.{length, get_or}
use lib.Dec.{eqb}
use Rattle.model.specs.Store.{Content, absent, Store, slot_at}
use Rattle.model.specs.Answer.{No}
use Rattle.model.specs.Steps.{put_publish, time_step, step_at}
use Rattle.model.specs.Demand.{Call, Plain, occurrences}
use Rattle.model.specs.Reached.{list_from, register_list, EverySlotListed, Refuses14}
use Rattle.model.proofs.Basic.{hit_same, hit-eq, hit_other, eq_cases, lt_cases, occurrences-head}
use Rattle.theorem.proofs.Invariant.{Inv, ctx, chain, old, below, pend}
use Rattle.theorem.proofs.Apart.{pend-chain, chain-once, chain-in, free_in_lem}
use Rattle.theorem.proofs.Slots.{nth}
use Rattle.theorem.proofs.Chain.{head_or, Linked, neighbours}
use Rattle.theorem.proofs.Total.{length-once}
use borrow.Author.Tests.{lt-ltb, le-ltb}

times_some : (l : List ℕ) (c : ℕ) → 0 < occurrences c l → (i : ℕ) × (i < length l) × (get_or l i absent ≡ c)
unfolding occurrences
times_some [] c h = absurd (omega arith)
times_some (d ∷ l) c h = go (eq_cases d c) (λ z. times_some l c z)
  where
    go : ((d ≡ c) × (eqb d c ≡ Bool.true)) ⊎ ((d ≢ c) × (eqb d c ≡ Bool.false))
        → (0 < occurrences c l → (i : ℕ) × (i < length l) × (get_or l i absent ≡ c)) → (i : ℕ) × (i < suc (length l)) × (get_or (d ∷ l) i absent ≡ c)
    go (inl e) f = (0, omega arith, e.0)
    go (inr e) f = let a = f (omega (arith, hit_other d c e.0)) in (suc a.0, omega (arith, a.1), a.2)

below_one : (c n : ℕ) → c < n → below c n ≡ 1
below_one c n h = ⊎_elim (λ u. ap {B = ℕ} (λ (t : Bool). cond t 1 0) u.1) (λ u. absurd (omega (arith, h, u.0))) (lt_cases c n)

-- following the older neighbours along a linked list
list_is : (s : Store) (l : List ℕ) (above n : ℕ) → length l ≤ n → s.site.N ≤ absent → Linked s.slots above l
    → ((c : ℕ) → 0 < occurrences c l → c < s.site.N) → list_from s n (head_or absent l) ≡ l
unfolding list_from occurrences
list_is s [] above zero h big k b = refl
list_is s [] above (suc n) h big k b = rw (le-ltb absent s.site.N big)
list_is s (c ∷ l) above zero h big k b = absurd (omega arith)
list_is s (c ∷ l) above (suc n) h big k b =
    let tail : list_from s n (slot_at s c).older ≡ l =
    ap (list_from s n) k.1 ∙ list_is s l c n (omega arith) big k.2 (λ d z. b d (omega (arith, z))) in
    rw (lt-ltb c s.site.N (b c (omega (arith, hit_same c))), tail)

module _ {start : ℕ → Content} {now : ℕ} {s : Store} {olds : List (List ℕ)} {h : List Call} {o : List ℕ} {p : Plain} (I : Inv start now s olds h o p) where
  pub full : s.free ≡ [] → (c : ℕ) → c < s.site.N → (r : ℕ) × (r < s.site.V') × (0 < occurrences c (chain (ctx s olds) r))
  unfolding occurrences
  full e c b = go (pend c s.workers s.queue) refl
    where
      go : (n : ℕ) → pend c s.workers s.queue ≡ n → (r : ℕ) × (r < s.site.V') × (0 < occurrences c (chain (ctx s olds) r))
      go zero z =
          let a = times_some s.newest c (omega (arith, z, I.once c, ap (occurrences c) e, below_one c s.site.N b)) in
          (a.0, omega (arith, a.1, I.newest_length), omega (arith, hit-eq (get_or s.newest a.0 absent) c a.2))
      go (suc n) z = let a = pend-chain I c (omega (arith, z)) in (a.0, a.1, omega (arith, a.2))

  pub not_full : (f : ℕ) (l : List ℕ) → s.free ≡ f ∷ l
      → (f < length s.slots) × ((r : ℕ) → r < s.site.V' → occurrences f (chain (ctx s olds) r) ≡ 0)
  not_full f l e =
      let z : 0 < occurrences f s.free = subst (λ (q : List ℕ). 0 < occurrences f q) (sym e) (occurrences-head f l) in
      (free_in_lem I f z, λ r b. omega (arith, z, chain-once I r b f))

  -- following the older neighbours from the newest version gives the register's versions
  pub register_list_lem : (r : ℕ) → r < s.site.V' → register_list s r ≡ chain (ctx s olds) r
  unfolding register_list
  register_list_lem r b =
      list_is s (chain (ctx s olds) r) absent s.site.N
      (length-once s.site.N (chain (ctx s olds) r) (λ c. omega (arith, chain-once I r b c))
      (λ c z. none-past c z (occurrences c (chain (ctx s olds) r)) refl))
      I.slots_few (I.linked r b) (λ c z. omega (arith, I.slots_length, chain-in I r b c z))
    where
      none-past : (c : ℕ) → s.site.N ≤ c → (n : ℕ) → occurrences c (chain (ctx s olds) r) ≡ n → occurrences c (chain (ctx s olds) r) ≡ 0
      none-past c z zero e = e
      none-past c z (suc n) e = absurd (omega (arith, z, I.slots_length, chain-in I r b c (omega (arith, e))))

  pub every-listed : s.free ≡ [] → EverySlotListed s
  every-listed e c b =
      let a = full e c b in
      (a.0, a.1, subst (λ (l : List ℕ). 0 < occurrences c l) (sym (register_list_lem a.0 a.1)) a.2)

  pub refuses-14 : Refuses14 s
  unfolding step_at time_step put_publish
  refuses-14 w r x e = go s.free refl
    where
      go : (l : List ℕ) → s.free ≡ l → ((put_publish s w r x l).answer ≡ No 14) ↔ EverySlotListed s
      go [] z = (λ y. every-listed z, λ y. refl)
      go (f ∷ l) z = (
        (λ y. absurd (let k : ◌≡◌ {A = ℕ} 0 1 = cc in omega arith)),
        (λ y.
            let n = not_full f l z in
            let a = y f (omega (arith, n.0, I.slots_length)) in
            absurd (omega (arith, n.1 a.0 a.1, subst (λ (q : List ℕ). 0 < occurrences f q) (register_list_lem a.0 a.1) a.2))),
      )

  abbrev Near : ℕ → Type 0
  Near c = (c ≡ absent) ⊎ (c < s.site.N)

  near-head : (r : ℕ) → r < s.site.V' → (l : List ℕ) → ((i : ℕ) → occurrences i l ≤ occurrences i (chain (ctx s olds) r)) → Near (head_or absent l)
  unfolding occurrences
  near-head r b [] f = inl refl
  near-head r b (d ∷ l) f = inr (omega (arith, I.slots_length, chain-in I r b d (omega (arith, f d, hit_same d))))

  -- every slot's neighbours are slots, or none
  pub near : (c : ℕ) → c < s.site.N → Near (nth s.slots c).older × Near (nth s.slots c).newer
  unfolding occurrences
  near c b = in-free (occurrences c s.free) refl
    where
      in-old : (n : ℕ) → pend c s.workers s.queue ≡ n → occurrences c s.free ≡ 0
          → Near (nth s.slots c).older × Near (nth s.slots c).newer
      in-old zero z y =
          let a = times_some s.newest c (omega (arith, z, y, I.once c, below_one c s.site.N b)) in
          let r : a.0 < s.site.V' = omega (arith, a.1, I.newest_length) in
          let k = I.linked a.0 r in
          subst (λ (i : ℕ). Near (nth s.slots i).older × Near (nth s.slots i).newer) a.2
          (subst Near (sym k.1) (near-head a.0 r (old (ctx s olds) a.0) (λ i. omega arith)), inl k.0)
      in-old (suc n) z y =
          let a = pend-chain I c (omega (arith, z)) in
          let k = neighbours s.slots absent (get_or s.newest a.0 absent) (old (ctx s olds) a.0) c (I.linked a.0 a.1) a.2 in (
            ⊎_elim inl (λ u. inr (omega (arith, I.slots_length, chain-in I a.0 a.1 (nth s.slots c).older (omega (arith, u))))) k.1,
            inr (omega (arith, I.slots_length, chain-in I a.0 a.1 (nth s.slots c).newer k.0)),
          )

      in-free : (n : ℕ) → occurrences c s.free ≡ n → Near (nth s.slots c).older × Near (nth s.slots c).newer
      in-free zero z = in-old (pend c s.workers s.queue) refl z
      in-free (suc n) z = let a = I.free_alone c (omega (arith, z)) in (inl a.0, inl a.1)
