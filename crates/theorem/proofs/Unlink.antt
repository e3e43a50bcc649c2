-- Flush (4): a needless version is unlinked and its slot freed; a read that stands on it moves to its older neighbour.
use mathlib.Core.Path.{◌≡◌, refl, sym, ap, ◌∙◌, subst}
use mathlib.Core.Bool.{Bool, cond}
use mathlib.Core.Logic.{◌≢◌, inl, inr, ⊎_elim}
use mathlib.Core.List.{List, [], ◌∷◌, map}
use Prim.Native.Nat.{ℕ, ◌+◌, ◌≤◌, ◌<◌}
use native.Mathlib.Omega.{arith}
use lib.Dec.{eqb}
use lib.ListN.{length, set, length-set, length-map}
use lib.Seq.{get_or-set_same, get_or-set_other}
use borrow.Author.Tests as Tests
use Rattle.model.specs.Store.{absent, mark_count, Content, Slot, Range, Purpose, Single, Marked, Totaling, Goal, Doing, PutStamp}
use Rattle.model.specs.Store.{FlushFree, ReadStand, Worker, start_worker, Store, worker_at, mark_at, holders, held, with_doing, with_slots}
use Rattle.model.specs.Store.{with_free, with_workers}
use Rattle.model.specs.About.{Stance, Nowhere, StandsOn, about}
use Rattle.model.specs.Versions.{unlink_slots}
use Rattle.model.specs.Steps.{move_off, worker_off}
use Rattle.model.specs.Demand.{Call, Plain, occurrences, All, call_at}
use Rattle.model.proofs.Basic.{hit, hit_same, hit-eq, hit_other, eq_cases, get_d_map, All-map}
use Rattle.theorem.proofs.Linear.{lin_skip}
use Rattle.theorem.proofs.Slots.{nth, unlink_length, unlink_own, unlink_part, unlink_older_other, unlink_newer_other}
use Rattle.theorem.proofs.Chain.{Linked, Linked-same, Linked-unlink, neighbours, remove, remove-own, remove-other, remove-times, Sees}
use Rattle.theorem.proofs.Chain.{Sees-mono, Sees-remove, On, On-mono, On-remove, On-moves, Fine, Past, Next}
use Rattle.theorem.proofs.Count.{cnt, sum_by-set, sum_by-one, sum_by-two, sum_by-map}
use Rattle.theorem.proofs.View.{off_cases, off_keeps}
use Rattle.theorem.proofs.Invariant.{Ctx, ctx, top, old, chain, in_doing, pend_w, pend, Good, Spared, time_in, Sourced, PlaceHolds}
use Rattle.theorem.proofs.Invariant.{Current, Works, Inv, held-worker, held-mark, held_same}
use Rattle.theorem.proofs.Apart.{below≤1, chain-once, chain-in, chain-apart, free_in_lem, pend-chain, pend-top}
use Rattle.theorem.proofs.Transport.{stays, Moves, doing_map, fits_map, current_map, Fine-same, spared}
use Rattle.theorem.proofs.Places.{Kept, doing_is, cur_is}

All-remove : (P : ℕ → Type 0) (c : ℕ) (l : List ℕ) → All P l → All P (remove c l)
All-remove P c [] t = unfold remove in t
All-remove P c (d ∷ l) t =
    ⊎_elim (λ u. subst (All P) (sym (remove-own c d l u.0)) t.1)
    (λ u. subst (All P) (sym (remove-other c d l u.0)) (t.0, All-remove P c l t.1)) (eq_cases d c)

Fine-remove : (s : List Slot) (t : ℕ) (x : Content) (n c : ℕ) (l : List ℕ) → t < absent → (nth s c).high ≤ t → Fine s t x (n ∷ l)
    → Fine s t x (n ∷ remove c l)
Fine-remove s t x n c l b h f = (f.0, ⊎_elim (λ u. inl (u.0, u.1, All-remove (Past s t) c l u.2)) (λ u. inr (u.0, next l u.1)) f.1)
  where
    next : (m : List ℕ) → Next s t x m → Next s t x (remove c m)
    next [] z = absurd z
    next (d ∷ m) z =
        subst (Next s t x) (sym (remove-other c d m (λ e. omega (arith, b, h, z.1, ap (λ (i : ℕ). (nth s i).high) e))))
        (z.0, z.1, z.2, All-remove (Past s t) c m z.3)

On-mem : (s : List Slot) (a c : ℕ) (x : Content) (l : List ℕ) → On s a c x l → 0 < occurrences c l
unfolding occurrences
On-mem s a c x [] t = absurd t
On-mem s a c x (d ∷ l) t = ⊎_elim (λ u. omega (arith, hit-eq d c u.0)) (λ u. omega (arith, On-mem s a c x l u.1)) t

-- no read stands there
abbrev IsNowhere : Stance → Type 0
IsNowhere Nowhere = Unit {0}
IsNowhere (StandsOn g c) = ⊥

in-off : (c o i : ℕ) (d : Doing) → in_doing i (move_off c o d) ≡ in_doing i d
in-off c o i d = off_keeps (λ y. in_doing i y ≡ in_doing i d) (λ g e e' a. a) c o d refl

cur_off : (c q : ℕ) (x : Ctx) (h : List Call) (o : List ℕ) (w t : ℕ) (d : Doing) → Current x h o w t d → Current x h o w t (move_off c q d)
cur_off c q x h o w t = off_keeps (Current x h o w t) (λ g e e' a. (a.0, a.1, a.2)) c q

-- a place other than a read's stays as it is; a read's place is the caller's to show
doing_off : (c q : ℕ) (x x' : Ctx) (p : Plain) (w t : ℕ) (d : Doing) → (IsNowhere (about d).stance → Moves x x' t d)
    → ((g : Goal) (i : ℕ) → d ≡ ReadStand g i → PlaceHolds x p w t (ReadStand g i) → PlaceHolds x' p w t (ReadStand g (cond (eqb i c) q i)))
    → PlaceHolds x p w t d → PlaceHolds x' p w t (move_off c q d)
unfolding move_off
doing_off c q x x' p w t d m s a =
    ⊎_elim
    (λ u. subst (λ y. PlaceHolds x' p w t (move_off c q y)) (sym u.2) (s u.0 u.1 u.2 (subst (PlaceHolds x p w t) u.2 a)))
    (λ u. subst (PlaceHolds x' p w t) (sym (u.1 c q)) (doing_map x x' p p w t refl d (λ g i z. refl) (m (subst IsNowhere (sym u.0) tt)) a))
    (off_cases d)

module _ {start : ℕ → Content} (now : ℕ) (s : Store) (olds : List (List ℕ)) (h : List Call) (o : List ℕ) (p : Plain) (I : Inv start now s olds h o p) (w : ℕ)
    (wb : w < s.site.P)
    (ρ : Range) (l : List Range) (e : (worker_at s w).doing ≡ FlushFree (ρ ∷ l)) where
  abbrev c : ℕ
  c = ρ.slot

  abbrev sl : List Slot
  sl = s.slots

  abbrev oc : ℕ
  oc = (nth sl c).older

  abbrev sl' : List Slot
  sl' = unlink_slots sl c

  abbrev ck : ℕ
  ck = s.clock

  abbrev x : Ctx
  x = ctx s olds

  abbrev y⁺ : Worker
  y⁺ = with_doing (worker_at s w) (FlushFree l)

  abbrev pub freed_store : Store
  freed_store =
      with_workers (with_free (with_slots s sl') (c ∷ s.free)) (map (worker_off c oc) (set s.workers w y⁺))

  d₀ : PlaceHolds x p w (worker_at s w).announced (FlushFree (ρ ∷ l))
  d₀ = doing_is now s olds h o p I w wb (FlushFree (ρ ∷ l)) e

  -- no time held needs the version in the slot
  pub not_needed : (v : ℕ) → v < holders s → held s v < absent → (nth sl c).low ≤ held s v → held s v < (nth sl c).high → ⊥
  not_needed v vb a b d = d₀.2.0 v vb a (omega (arith, b, d₀.1.0.0)) (omega (arith, d, d₀.1.0.1))

  not_needed_by : (v : ℕ) → v < s.site.P → (worker_at s v).announced < absent
      → (nth sl c).low ≤ (worker_at s v).announced → (worker_at s v).announced < (nth sl c).high → ⊥
  not_needed_by v vb a b d =
      let i = held-worker s v vb in not_needed v (omega (arith, vb)) (omega (arith, i, a)) (omega (arith, i, b)) (omega (arith, i, d))

  not_needed_mark : (m : ℕ) → m < mark_count → mark_at s m < absent → (nth sl c).low ≤ mark_at s m → mark_at s m < (nth sl c).high → ⊥
  not_needed_mark m mb a b d =
      let i = held-mark s m in
      not_needed (s.site.P + m) (omega (arith, mb)) (omega (arith, i, a)) (omega (arith, i, b)) (omega (arith, i, d))

  -- nor the time as of which a worker reads
  not_needed_as : (v : ℕ) → v < s.site.P → (y : Purpose) → Sourced s.clock (worker_at s v).announced y
      → time_in x (worker_at s v).announced y < s.clock
      → (nth sl c).low ≤ time_in x (worker_at s v).announced y → time_in x (worker_at s v).announced y < (nth sl c).high → ⊥
  not_needed_as v vb Single a z = not_needed_by v vb (omega (arith, z, I.clock_fits))
  not_needed_as v vb (Marked m) a z = not_needed_mark m a.0 (omega (arith, z, I.clock_fits))
  not_needed_as v vb (Totaling g i y) a z = not_needed_by v vb (omega (arith, z, I.clock_fits))

  pub c_pend : 0 < pend c s.workers s.queue
  unfolding cnt
  c_pend = omega (arith, hit_same c, ap (in_doing c) e, sum_by-one (pend_w c) s.workers w start_worker (omega (arith, I.workers_length)))

  c_work : pend_w c (worker_at s w) ≡ 1 + cnt c l + cnt c (worker_at s w).pool
  unfolding cnt
  c_work = omega (arith, hit_same c, ap (in_doing c) e)

  module _ (r : ℕ) (b : r < s.site.V') (cr : 0 < occurrences c (old x r)) where
    abbrev olds' : List (List ℕ)
    olds' = set olds r (remove c (old x r))

    abbrev x' : Ctx
    x' = ctx freed_store olds'

    old-own : old x' r ≡ remove c (old x r)
    old-own = get_or-set_same olds r (remove c (old x r)) [] (omega (arith, I.olds_length))

    old-other : (q : ℕ) → q ≢ r → old x' q ≡ old x q
    old-other q z = get_or-set_other olds r q (remove c (old x r)) [] z

    chain-own : chain x' r ≡ top x r ∷ remove c (old x r)
    chain-own = ap (λ (z : List ℕ). top x r ∷ z) old-own

    chain-removed : chain x' r ≡ remove c (chain x r)
    chain-removed = chain-own ∙ sym (remove-other c (top x r) (old x r) (λ z. pend-top I c r b c_pend (sym z)))

    chain-other : (q : ℕ) → q ≢ r → chain x' q ≡ chain x q
    chain-other q z = ap (λ (i : List ℕ). top x q ∷ i) (old-other q z)

    c-chain : 0 < occurrences c (chain x r)
    unfolding occurrences
    c-chain = omega (arith, cr)

    once : (i : ℕ) → occurrences i (chain x r) ≤ 1
    once i = omega (arith, chain-once I r b i)

    lows : (i : ℕ) → (nth sl' i).low ≡ (nth sl i).low
    lows = unlink_part sl c (λ v. v.low) (λ v z. refl) (λ v z. refl)

    highs : (i : ℕ) → (nth sl' i).high ≡ (nth sl i).high
    highs = unlink_part sl c (λ v. v.high) (λ v z. refl) (λ v z. refl)

    values : (i : ℕ) → (nth sl' i).value ≡ (nth sl i).value
    values = unlink_part sl c (λ v. v.value) (λ v z. refl) (λ v z. refl)

    mono : (a i : ℕ) → ((nth sl i).low ≤ a → (nth sl' i).low ≤ a) × (a < (nth sl i).low → a < (nth sl' i).low)
        × (a < (nth sl i).high → a < (nth sl' i).high) × ((nth sl' i).value ≡ (nth sl i).value)
    mono a i = ((λ u. omega (arith, lows i)), (λ u. omega (arith, lows i)), (λ u. omega (arith, highs i)), values i)

    good : (σ : Range) → Good x σ → Good x' σ
    good σ g = (g.0 ∙ sym (lows σ.slot), g.1 ∙ sym (highs σ.slot), g.2, g.3)

    sees : (a : ℕ) → ((nth sl c).low ≤ a → a < (nth sl c).high → ⊥) → (y : Content) (q : ℕ) → Sees sl a y (chain x q) → Sees sl' a y (chain x' q)
    sees a nn y q g =
        ⊎_elim
        (λ u. subst (λ (j : ℕ). Sees sl' a y (chain x' j)) (sym u.0)
        (subst (Sees sl' a y) (sym chain-removed)
        (Sees-mono sl sl' a y (remove c (chain x r)) (λ i _. mono a i)
        (Sees-remove sl a y c (chain x r) nn (subst (λ (j : ℕ). Sees sl a y (chain x j)) u.0 g)))))
        (λ u. subst (Sees sl' a y) (sym (chain-other q u.0)) (Sees-mono sl sl' a y (chain x q) (λ i _. mono a i) g))
        (eq_cases q r)

    ons : (a : ℕ) → ((nth sl c).low ≤ a → a < (nth sl c).high → ⊥) → (y : Content) (q : ℕ) → q < s.site.V' → (i : ℕ) → On sl a i y (chain x q)
        → On sl' a (cond (eqb i c) oc i) y (chain x' q)
    ons a nn y q d i g =
        ⊎_elim
        (λ u.
        let g' : On sl a i y (chain x r) = subst (λ (j : ℕ). On sl a i y (chain x j)) u.0 g in
        subst (λ (j : ℕ). On sl' a (cond (eqb i c) oc i) y (chain x' j)) (sym u.0)
        (subst (On sl' a (cond (eqb i c) oc i) y) (sym chain-removed)
        (On-mono sl sl' a (cond (eqb i c) oc i) y (remove c (chain x r)) (λ j _. mono a j)
        (⊎_elim
        (λ k. subst (λ (t : Bool). On sl a (cond t oc i) y (remove c (chain x r))) (sym k.1)
        (On-moves sl absent a y c (chain x r) (I.linked r b) once nn (subst (λ (j : ℕ). On sl a j y (chain x r)) k.0 g')))
        (λ k. subst (λ (t : Bool). On sl a (cond t oc i) y (remove c (chain x r))) (sym k.1) (On-remove sl a y c i (chain x r) nn k.0 g'))
        (eq_cases i c)))))
        (λ u.
        let n : i ≢ c = λ k. omega (
          arith,
          c-chain,
          chain-apart I q r d b u.0 c
              (subst (λ (j : ℕ). 0 < occurrences j (chain x q)) k (On-mem sl a i y (chain x q) g)),
        ) in
        subst (λ (t : Bool). On sl' a (cond t oc i) y (chain x' q)) (sym (Tests.ne_eqb i c n))
        (subst (On sl' a i y) (sym (chain-other q u.0)) (On-mono sl sl' a i y (chain x q) (λ j _. mono a j) g)))
        (eq_cases q r)

    linked : (q : ℕ) → q < s.site.V' → Linked sl' absent (chain x' q)
    linked q d =
        ⊎_elim
        (λ u. subst (λ (j : ℕ). Linked sl' absent (chain x' j)) (sym u.0)
        (subst (Linked sl' absent) (sym chain-own)
        (Linked-unlink sl c absent (top x r) (old x r) (omega (arith, I.slots_length, I.slots_few)) (I.linked r b) cr once (chain-in I r b))))
        (λ u.
        let m = neighbours sl absent (top x r) (old x r) c (I.linked r b) cr in
        subst (Linked sl' absent) (sym (chain-other q u.0))
        (Linked-same sl sl' absent (chain x q)
        (λ i z.
        let no : occurrences i (chain x r) ≡ 0 = chain-apart I q r d b u.0 i z in (
          unlink_newer_other sl c i (λ k. omega (arith, c-chain, subst (λ (j : ℕ). occurrences j (chain x r) ≡ 0) k no))
              (λ k. ⊎_elim
              (λ g. omega (arith, k, g, chain-in I q d i z, I.slots_length, I.slots_few))
              (λ g. far i (old x r) (top x r) no (subst (λ (j : ℕ). 0 < occurrences j (old x r)) (sym k) g))
              m.1),
          unlink_older_other sl c i (λ k. omega (arith, c-chain, subst (λ (j : ℕ). occurrences j (chain x r) ≡ 0) k no))
              (λ k. omega (arith, no, subst (λ (j : ℕ). 0 < occurrences j (chain x r)) (sym k) m.0)),
        ))
        (I.linked q d)))
        (eq_cases q r)
      where
        far : (i : ℕ) (m : List ℕ) (n : ℕ) → occurrences i (n ∷ m) ≡ 0 → 0 < occurrences i m → ⊥
        far i m n = unfold occurrences in (λ z k. omega (arith, z, k))

    fine : (q : ℕ) → q < s.site.V' → Fine sl' ck (p.registers q) (chain x' q)
    fine q d =
        ⊎_elim
        (λ u. subst (λ (j : ℕ). Fine sl' ck (p.registers j) (chain x' j)) (sym u.0)
        (subst (Fine sl' ck (p.registers r)) (sym chain-own)
        (same (p.registers r) (top x r ∷ remove c (old x r))
        (Fine-remove sl ck (p.registers r) (top x r) c (old x r) I.clock_fits (omega (arith, d₀.1.0.1, d₀.1.0.2)) (I.stamps r b)))))
        (λ u. subst (Fine sl' ck (p.registers q)) (sym (chain-other q u.0)) (same (p.registers q) (chain x q) (I.stamps q d)))
        (eq_cases q r)
      where
        same : (y : Content) (m : List ℕ) → Fine sl ck y m → Fine sl' ck y m
        same y m = Fine-same sl sl' ck y y m refl (λ i _. (lows i, highs i, values i))

    len⁺ : length (set s.workers w y⁺) ≡ s.site.P
    len⁺ = length-set s.workers w y⁺ ∙ I.workers_length

    at_own : worker_at freed_store w ≡ y⁺
    unfolding worker_off move_off
    at_own =
        get_d_map (worker_off c oc) (set s.workers w y⁺) w start_worker start_worker (omega (arith, len⁺))
        ∙ ap (worker_off c oc) (get_or-set_same s.workers w y⁺ start_worker (omega (arith, I.workers_length)))

    at_other : (v : ℕ) → v < s.site.P → v ≢ w → worker_at freed_store v ≡ worker_off c oc (worker_at s v)
    at_other v vb z =
        get_d_map (worker_off c oc) (set s.workers w y⁺) v start_worker start_worker (omega (arith, len⁺))
        ∙ ap (worker_off c oc) (get_or-set_other s.workers w v y⁺ start_worker z)

    still : (v : ℕ) → x'.held v ≡ x.held v
    unfolding worker_off
    still v =
        held_same s freed_store refl refl v
        (λ vb. ⊎_elim
        (λ u. ap (λ (i : ℕ). (worker_at freed_store i).announced) u.0 ∙ ap (λ (z : Worker). z.announced) at_own
        ∙ ap (λ (i : ℕ). (worker_at s i).announced) (sym u.0))
        (λ u. ap (λ (z : Worker). z.announced) (at_other v vb u.0))
        (eq_cases v w))

    other : (v : ℕ) → v < s.site.P → v ≢ w → Works x' h o p v (worker_off c oc (worker_at s v))
    unfolding worker_off
    other v vb vw =
        record {
          pool = All-map good (worker_at s v).pool Z.pool;
          announced = Z.announced;
          snapshot =
              λ z. let a = Z.snapshot z in (
                a.0,
                a.1,
                λ q d. sees (worker_at s v).announced (not_needed_by v vb (omega (arith, z, I.clock_fits)))
                    (a.0 q) q (a.2 q d),
              );
          doing = doing_off c oc x x' p v (worker_at s v).announced (worker_at s v).doing moves stand Z.doing;
          current =
              cur_off c oc x' h o v (worker_at s v).announced (worker_at s v).doing
              (current_map x x' h h o o v (worker_at s v).announced (worker_at s v).announced (worker_at s v).doing (λ z. z)
              (λ k K g. (
                K,
                fits_map x x' refl (worker_at s v).announced (call_at h k).operation (occurrences k o) (occurrences k o) refl
                    (worker_at s v).doing (λ q i z. ((λ u. (highs i ∙ u, values (top x q))), (λ u. omega (arith, u, highs i)))) g,
              ))
              Z.current);
        }
      where
        Z : Works x h o p v (worker_at s v)
        Z = I.workers v vb

        apart : (i : ℕ) → 0 < in_doing i (worker_at s v).doing → i ≢ c
        apart i z u =
            let k : 0 < pend_w c (worker_at s v) = omega (arith, subst (λ (j : ℕ). 0 < in_doing j (worker_at s v).doing) u z) in
            omega (
              arith,
              k,
              c_work,
              sum_by-two (pend_w c) s.workers v w start_worker (omega (arith, I.workers_length))
                  (omega (arith, I.workers_length)) vw,
              I.once c,
              below≤1 c s.site.N,
            )

        moves : IsNowhere (about (worker_at s v).doing).stance → Moves x x' (worker_at s v).announced (worker_at s v).doing
        moves ns =
            record {
              tick = omega arith;
              reg = λ q z. z;
              nhd = refl;
              same_rows = refl;
              good = λ σ z. good σ;
              times' = λ i z. stays x x' i (still i);
              mem = λ q i z u k.
                  ⊎_elim
                  (λ g. subst (λ (j : ℕ). 0 < occurrences i (old x' j)) (sym g.0)
                  (subst (λ (m : List ℕ). 0 < occurrences i m) (sym old-own)
                  (omega (
                    arith,
                    remove-times c (old x r) i cr,
                    hit_other c i (λ y. apart i u (sym y)),
                    subst (λ (j : ℕ). 0 < occurrences i (old x j)) g.0 k,
                  ))))
                  (λ g. subst (λ (m : List ℕ). 0 < occurrences i m) (sym (old-other q g.0)) k)
                  (eq_cases q r);
              highs = λ i z k. omega (arith, k, highs i);
              source = λ g i e. refl;
              on = λ g i a z u y k f. absurd (subst (λ d. IsNowhere (about d).stance) k ns);
            }

        stand : (g : Goal) (i : ℕ) → (worker_at s v).doing ≡ ReadStand g i → PlaceHolds x p v (worker_at s v).announced (ReadStand g i)
            → PlaceHolds x' p v (worker_at s v).announced (ReadStand g (cond (eqb i c) oc i))
        stand g i k a =
            let q = g.register in
            let f = a.2 in (
              a.0,
              a.1,
              (
                f.0,
                f.1,
                f.2,
                ons (time_in x (worker_at s v).announced g.purpose) (not_needed_as v vb g.purpose a.1 f.0) (f.1 q) q a.0 i f.3,
              ),
              a.3,
            )

    own : Works x' h o p w y⁺
    own =
        record {
          pool = All-map good (worker_at s w).pool Z.pool;
          announced = Z.announced;
          snapshot =
              λ z. let a = Z.snapshot z in (
                a.0,
                a.1,
                λ q d. sees (worker_at s w).announced (not_needed_by w wb (omega (arith, z, I.clock_fits)))
                    (a.0 q) q (a.2 q d),
              );
          doing = (d₀.0, All-map good l d₀.1.1, both l d₀.1.1 d₀.2.1);
          current = let a = cur_is now s olds h o p I w wb (FlushFree (ρ ∷ l)) e in (a.0, a.1, a.2);
        }
      where
        Z : Works x h o p w (worker_at s w)
        Z = I.workers w wb

        both : (m : List Range) → All (Good x) m → All (Spared x) m → All (Spared x') m
        both [] g k = tt
        both (σ ∷ m) g k = (spared x x' σ refl (λ v z. stays x x' v (still v)) g.0.2 k.0, both m g.1 k.1)

    pends : (i : ℕ) → pend i (map (worker_off c oc) (set s.workers w y⁺)) s.queue + hit c i ≡ pend i s.workers s.queue
    unfolding cnt worker_off
    pends i =
        omega (
          arith,
          ap (in_doing i) e,
          sum_by-map (pend_w i) (worker_off c oc) (λ y. ap (λ (k : ℕ). k + cnt i y.pool) (in-off c oc i y.doing)) (set s.workers w y⁺),
          sum_by-set (pend_w i) s.workers w y⁺ start_worker (omega (arith, I.workers_length)),
        )

    alone : (i : ℕ) → 0 < occurrences i (c ∷ s.free) → ((nth sl' i).older ≡ absent) × ((nth sl' i).newer ≡ absent)
    unfolding occurrences
    alone i z =
        ⊎_elim
        (λ u. subst (λ (j : ℕ). ((nth sl' j).older ≡ absent) × ((nth sl' j).newer ≡ absent)) u.0 (unlink_own sl c (chain-in I r b c c-chain)))
        (λ u.
        let k : 0 < occurrences i s.free = omega (arith, z, hit_other c i u.0) in
        let no : occurrences i (chain x r) ≡ 0 = omega (arith, k, chain-once I r b i) in
        let m = neighbours sl absent (top x r) (old x r) c (I.linked r b) cr in
        let a = I.free_alone i k in (
          unlink_older_other sl c i (λ y. u.0 (sym y)) (λ y. omega (arith, no, subst (λ (j : ℕ). 0 < occurrences j (chain x r)) (sym y) m.0))
              ∙ a.0,
          unlink_newer_other sl c i (λ y. u.0 (sym y))
              (λ y. ⊎_elim
              (λ g. omega (arith, y, g, free_in_lem I i k, I.slots_length, I.slots_few))
              (λ g. omega (arith, no, subst (λ (j : ℕ). 0 < occurrences j (old x r)) (sym y) g))
              m.1)
              ∙ a.1,
        ))
        (eq_cases c i)

    pub unlink-here : Kept start now freed_store h o
    unfolding occurrences worker_off move_off
    unlink-here =
        record {
          olds = olds';
          p = p;
          inv =
              record {
                workers_length = length-map (set s.workers w y⁺) (worker_off c oc) ∙ len⁺;
                newest_length = I.newest_length;
                slots_length = unlink_length sl c ∙ I.slots_length;
                olds_length = length-set olds r (remove c (old x r)) ∙ I.olds_length;
                marks_length = I.marks_length;
                slots_few = I.slots_few;
                clock_fits = I.clock_fits;
                free_alone = alone;
                once = λ i. omega (arith, I.once i, pends i);
                pending_old =
                    λ i. omega (
                      arith,
                      I.pending_old i,
                      pends i,
                      remove-times c (old x r) i cr,
                      sum_by-set (occurrences i) olds r
                          (remove c (old x r)) [] (omega (arith, I.olds_length)),
                    );
                linked = linked;
                stamps = fine;
                queue = All-map (λ m. All-map good m) s.queue I.queue;
                workers =
                    λ v vb. ⊎_elim (λ u. subst (λ (i : ℕ). Works x' h o p i (worker_at freed_store i)) (sym u.0)
                    (subst (Works x' h o p w) (sym at_own) own)) (λ u. subst (Works x' h o p v) (sym (at_other v vb u.0)) (other v vb u.0))
                    (eq_cases v w);
                marks =
                    λ m z. ⊎_elim inl
                    (λ u. inr (
                      u.0,
                      u.1,
                      u.2,
                      λ q d. sees (mark_at s m) (not_needed_mark m z (omega (arith, u.0, I.clock_fits))) (u.1 q) q (u.3 q d),
                    )) (I.marks m z);
                stamper = λ q d z.
                    let a = I.stamper q d (sym (lows (top x q)) ∙ z) in (
                      a.0,
                      a.1,
                      a.2,
                      ap (λ (i : Worker). i.doing) (at_other a.0 a.1
                          (λ m. apart a.2 q (sym a.3 ∙ ap (λ (j : ℕ). (worker_at s j).doing) m ∙ e))) ∙ ap (move_off c oc) a.3,
                      highs a.2 ∙ a.4,
                    );
                outside = I.outside;
                linear = lin_skip I.linear;
                rows_fit = I.rows_fit;
              };
        }
      where
        apart : (i q : ℕ) → PutStamp q i ≡ FlushFree (ρ ∷ l) → ⊥
        apart i q z = let k : ◌≡◌ {A = ℕ} 0 1 = cc in omega arith

  pub unlink_kept : Kept start now freed_store h o
  unlink_kept = let a = pend-chain I c c_pend in unlink-here a.0 a.1 a.2
