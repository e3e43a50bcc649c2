-- Stamping a register keeps the invariant; the put whose version it stamps takes effect there.
use mathlib.Core.Path.{◌≡◌, refl, sym, ap, ◌∙◌, subst}
use mathlib.Core.Bool.{true, false}
use mathlib.Core.Logic.{◌≢◌, inl, inr, ⊎_elim}
use mathlib.Core.Option.{some}
use mathlib.Core.List.{List, [], ◌∷◌, ◌++◌, map, append-nil}
use Prim.Native.Nat.{ℕ, ◌+◌, ◌≤◌, ◌<◌}
use native.Mathlib.Omega.{arith}
use lib.Dec.{eqb}
use lib.ListN.{length}
use borrow.Author.Tests as Tests
use Rattle.model.specs.Store.{absent, mark_count, Reading, Content, Slot, Range, Doing, PutStamp, start_worker, Store, worker_at, newest_of}
use Rattle.model.specs.Store.{mark_at, with_slots}
use Rattle.model.specs.Versions.{stamp_slots, stamp}
use Rattle.model.specs.Record.{Operation, Put}
use Rattle.model.specs.Demand.{Call, Plain, update, feed, running_of, change_effects, at_end, occurrences, call_at}
use Rattle.model.proofs.Basic.{hit, hit_same, hit-eq, hit_other, eq_cases, All-map, All-get, All-occurrences, occurrences-snoc}
use Rattle.theorem.proofs.Effect.{running_is, change-none, below_one, takes, takes_same, takes-self}
use Rattle.theorem.proofs.Linear.{Lin, lin_effect}
use Rattle.theorem.proofs.Slots.{nth, stamp-not, stamp-length, stamp-value, stamp-older, stamp-newer, stamp-low_other, stamp-low_own}
use Rattle.theorem.proofs.Slots.{stamp-high_other, stamp-high_own}
use Rattle.theorem.proofs.Chain.{Linked-same, Sees-mono, On-mono, Fine, Past, Next, head_or}
use Rattle.theorem.proofs.Count.{cnt, sum_by-two}
use Rattle.theorem.proofs.Invariant.{Ctx, ctx, top, old, chain, in_doing, pend_w, Good, MarkHolds, PlaceHolds, Running, Current, Works}
use Rattle.theorem.proofs.Invariant.{Inv}
use Rattle.theorem.proofs.Apart.{below≤1, chain-once, chain-in, chain-apart}
use Rattle.theorem.proofs.Transport.{stays, Moves, same_copy, doing_map, fits_map, current_map, Covers, Fine-same}

pub put-at_same {ℓ} : {A : Type ℓ} (f : ℕ → A) (i : ℕ) (y : A) → update f i y i ≡ y
put-at_same f i y = rw (Tests.eq-eqb i i refl)

pub put-at_other {ℓ} : {A : Type ℓ} (f : ℕ → A) (i : ℕ) (y : A) (j : ℕ) → j ≢ i → update f i y j ≡ f j
put-at_other f i y j n = rw (Tests.ne_eqb j i n)

pub next-open : (s : List Slot) (t : ℕ) (x : Content) (l : List ℕ) → Next s t x l → (nth s (head_or absent l)).high ≡ absent
next-open s t x [] a = absurd a
next-open s t x (d ∷ l) a = a.1

next-head : (s : List Slot) (t : ℕ) (x : Content) (c : ℕ) (l : List ℕ) → t < absent → Next s t x l → 0 < occurrences c l → (nth s c).high ≡ absent
    → head_or absent l ≡ c
unfolding occurrences
next-head s t x c [] b a h e = absurd a
next-head s t x c (d ∷ l) b a h e =
    ⊎_elim (λ u. u.0) (λ u. absurd (omega (arith, e, (All-get (Past s t) l a.3 c (omega (arith, hit_other d c u.0))).1))) (eq_cases d c)

pub next_low : (s : List Slot) (t : ℕ) (x : Content) (c : ℕ) (l : List ℕ) → Next s t x l → 0 < occurrences c l → (nth s c).low ≤ t
unfolding occurrences
next_low s t x c [] a h = absurd a
next_low s t x c (d ∷ l) a h =
    ⊎_elim (λ u. subst (λ (i : ℕ). (nth s i).low ≤ t) u.0 a.0) (λ u. (All-get (Past s t) l a.3 c (omega (arith, hit_other d c u.0))).0)
    (eq_cases d c)

pub next-high : (s : List Slot) (t : ℕ) (x : Content) (c : ℕ) (l : List ℕ) → Next s t x l → 0 < occurrences c l → head_or absent l ≢ c
    → (nth s c).high ≤ t
unfolding occurrences
next-high s t x c [] a h n = absurd a
next-high s t x c (d ∷ l) a h n =
    ⊎_elim (λ u. absurd (n u.0)) (λ u. (All-get (Past s t) l a.3 c (omega (arith, hit_other d c u.0))).1) (eq_cases d c)

pub record Stamped (start : ℕ → Content) (now : ℕ) (s : Store) (r : ℕ) (olds : List (List ℕ)) (h : List Call) (o₀ : List ℕ) : Type 0 where
  pub o : List ℕ
  pub grown : o ≡ o₀ ++ change_effects h s (stamp s r)
  pub p : Plain
  pub inv : Inv start now (stamp s r) olds h o p
  pub low : (nth (stamp s r).slots (newest_of s r)).low ≤ s.clock

module _ {start : ℕ → Content} (now : ℕ) (s : Store) (olds : List (List ℕ)) (h : List Call) (o : List ℕ) (p : Plain) (I : Inv start now s olds h o p) (r : ℕ)
    (b : r < s.site.V') where
  abbrev n : ℕ
  n = newest_of s r

  abbrev sl : List Slot
  sl = s.slots

  abbrev ck : ℕ
  ck = s.clock

  abbrev x : Ctx
  x = ctx s olds

  -- the newest version has a low: nothing changes
  stamp-had : (nth sl n).low ≢ absent → Stamped start now s r olds h o
  unfolding stamp
  stamp-had e =
      record {
        o = o;
        grown =
            sym (append-nil o) ∙ ap (λ (q : List ℕ). o ++ q)
            (sym (change-none h s (stamp s r) refl (λ v q c z y. ap (λ (i : Store). (nth i.slots c).high) same)));
        p = p;
        inv = subst (λ (q : Store). Inv start now q olds h o p) (sym same) I;
        low = subst (λ (q : Store). (nth q.slots n).low ≤ ck) (sym same) (⊎_elim (λ u. u.0) (λ u. absurd (e u.0)) (I.stamps r b).1);
      }
    where
      same : stamp s r ≡ s
      same = ap (with_slots s) (stamp-not sl n ck e)

  module _ (e : (nth sl n).low ≡ absent) (w : ℕ) (wb : w < s.site.P) (c : ℕ) (dw : (worker_at s w).doing ≡ PutStamp r c) (hc : (nth sl c).high ≡ absent)
      (k : ℕ) (kOpen : Running h w k) (y : Reading) (kCall : (call_at h k).operation ≡ Put r y) (kNot : occurrences k o ≡ 0)
      (kVal : (nth sl n).value ≡ some y) where
    abbrev sl' : List Slot
    sl' = stamp_slots sl n ck

    abbrev s' : Store
    s' = with_slots s sl'

    abbrev x' : Ctx
    x' = ctx s' olds

    abbrev o' : List ℕ
    o' = o ++ (k ∷ [])

    abbrev p' : Plain
    p' = record { registers = update p.registers r (some y); copy = p.copy; kept = p.kept }

    next : Next sl ck (p.registers r) (old x r)
    next = ⊎_elim (λ u. absurd (omega (arith, u.0, e, I.clock_fits))) (λ u. u.1) (I.stamps r b).1

    c-old : 0 < occurrences c (old x r)
    c-old = (subst (PlaceHolds x p w (worker_at s w).announced) dw (I.workers w wb).doing).2

    head : head_or absent (old x r) ≡ c
    head = next-head sl ck (p.registers r) c (old x r) I.clock_fits next c-old hc

    older : (nth sl n).older ≡ c
    older = (I.linked r b).1 ∙ head

    c≢n : c ≢ n
    unfolding occurrences
    c≢n z = omega (arith, chain-once I r b c, c-old, hit-eq n c (sym z))

    n-in : n < length sl
    unfolding occurrences
    n-in = chain-in I r b n (omega (arith, hit_same n))

    c-in : c < length sl
    unfolding occurrences
    c-in = chain-in I r b c (omega (arith, c-old))

    lows : (d : ℕ) → d ≢ n → (nth sl' d).low ≡ (nth sl d).low
    lows = stamp-low_other sl n ck

    low-n : (nth sl' n).low ≡ ck
    low-n = stamp-low_own sl n ck e n-in

    highs : (d : ℕ) → d ≢ c → (nth sl' d).high ≡ (nth sl d).high
    highs d z = stamp-high_other sl n ck d (λ u. z (u ∙ older))

    high-c : (nth sl' c).high ≡ ck
    high-c = ap (λ (i : ℕ). (nth sl' i).high) (sym older) ∙ stamp-high_own sl n ck e (subst (λ (i : ℕ). i < length sl) (sym older) c-in)

    values : (d : ℕ) → (nth sl' d).value ≡ (nth sl d).value
    values = stamp-value sl n ck

    high≤ : (d : ℕ) → (nth sl d).high ≤ ck → (nth sl' d).high ≤ ck
    high≤ d z = ⊎_elim (λ u. omega (arith, high-c, ap (λ (i : ℕ). (nth sl' i).high) u.0)) (λ u. omega (arith, highs d u.0)) (eq_cases d c)

    mono : (a : ℕ) → a < ck → (d : ℕ) → ((nth sl d).low ≤ a → (nth sl' d).low ≤ a) × (a < (nth sl d).low → a < (nth sl' d).low)
        × (a < (nth sl d).high → a < (nth sl' d).high) × ((nth sl' d).value ≡ (nth sl d).value)
    mono a z d = (
      (λ v. ⊎_elim (λ u. absurd (omega (arith, I.clock_fits, v, e, ap (λ (i : ℕ). (nth sl i).low) u.0))) (λ u. omega (arith, v, lows d u.0))
          (eq_cases d n)),
      (λ v. ⊎_elim (λ u. omega (arith, low-n, ap (λ (i : ℕ). (nth sl' i).low) u.0)) (λ u. omega (arith, v, lows d u.0)) (eq_cases d n)),
      (λ v. ⊎_elim (λ u. omega (arith, high-c, ap (λ (i : ℕ). (nth sl' i).high) u.0)) (λ u. omega (arith, v, highs d u.0)) (eq_cases d c)),
      values d,
    )

    good : (ρ : Range) → Good x ρ → Good x' ρ
    good ρ g = (
      g.0 ∙ sym (lows ρ.slot (λ z. omega (arith, I.clock_fits, g.3, g.0, e, ap (λ (i : ℕ). (nth sl i).low) z))),
      g.1 ∙ sym (highs ρ.slot (λ z. omega (arith, I.clock_fits, g.2, g.1, hc, ap (λ (i : ℕ). (nth sl i).high) z))),
      g.2,
      g.3,
    )

    lin : Lin s.site.rows start now h o' p'
    unfolding feed at_end
    lin =
        subst (λ (q : Plain). Lin s.site.rows start now h o' q) (ap (λ (q : Operation). feed p (call_at h k).worker q) kCall)
        (lin_effect I.linear k kOpen.within kOpen.unfinished kNot (ap at_end kCall))

    fine-own : Fine sl' ck (p'.registers r) (chain x r)
    unfolding occurrences
    fine-own = (
      highs n (λ z. c≢n (sym z)) ∙ (I.stamps r b).0,
      inl (omega (arith, low-n), values n ∙ kVal ∙ sym (put-at_same p.registers r (some y)), All-occurrences (old x r) past),
    )
      where
        past : (i : ℕ) → 0 < occurrences i (old x r) → Past sl' ck i
        past i z =
            let i≢n : i ≢ n = λ v. omega (arith, chain-once I r b i, z, hit-eq n i (sym v)) in (
              omega (arith, lows i i≢n, next_low sl ck (p.registers r) i (old x r) next z),
              ⊎_elim (λ u. omega (arith, high-c, ap (λ (j : ℕ). (nth sl' j).high) u.0))
                  (λ u. omega (arith, highs i u.0, next-high sl ck (p.registers r) i (old x r) next z (λ v. u.0 (sym v ∙ head)))) (eq_cases i c),
            )

    fine : (q : ℕ) → q < s.site.V' → Fine sl' ck (p'.registers q) (chain x q)
    unfolding occurrences
    fine q d = ⊎_elim (λ u. subst (λ (i : ℕ). Fine sl' ck (p'.registers i) (chain x i)) (sym u.0) fine-own) other (eq_cases q r)
      where
        other : (q ≢ r) × (eqb q r ≡ false) → Fine sl' ck (p'.registers q) (chain x q)
        other u =
            Fine-same sl sl' ck (p.registers q) (p'.registers q) (chain x q) (put-at_other p.registers r (some y) q u.0)
            (λ i z.
            let zero-r = chain-apart I q r d b u.0 i z in (
              lows i (λ v. omega (arith, zero-r, hit-eq n i (sym v))),
              highs i (λ v. omega (arith, zero-r, c-old, subst (λ (j : ℕ). occurrences j (chain x r) ≡ 0) v zero-r)),
              values i,
            ))
            (I.stamps q d)

    moves : (t : ℕ) (d : Doing) → Moves x x' t d
    moves t d =
        record {
          tick = omega arith;
          reg = λ q z. z;
          nhd = refl;
          same_rows = refl;
          good = λ ρ z. good ρ;
          times' = λ v z. stays x x' v refl;
          mem = λ q i z u v. v;
          highs = λ i z. high≤ i;
          source = λ g i e. refl;
          on = λ g i y a z u v. On-mono sl sl' a i y (chain x g.register) (λ j _. mono a u j);
        }

    -- no other put covers c
    apart-c : (v : ℕ) → v < s.site.P → v ≢ w → (q i : ℕ) → (worker_at s v).doing ≡ PutStamp q i → i ≢ c
    apart-c v vb vw q i dv u =
        let a : pend_w c (worker_at s v) ≡ hit i c + cnt c (worker_at s v).pool = ap (λ (d : Doing). in_doing c d + cnt c (worker_at s v).pool) dv in
        let z : pend_w c (worker_at s w) ≡ hit c c + cnt c (worker_at s w).pool = ap (λ (d : Doing). in_doing c d + cnt c (worker_at s w).pool) dw in
        omega (
          arith,
          a,
          z,
          hit-eq i c u,
          hit_same c,
          sum_by-two (pend_w c) s.workers v w start_worker (omega (arith, I.workers_length))
              (omega (arith, I.workers_length)) vw,
          I.once c,
          below≤1 c s.site.N,
        )

    covers : (v : ℕ) → v < s.site.P → v ≢ w → (q i : ℕ) → (worker_at s v).doing ≡ PutStamp q i → Covers x x' q i
    covers v vb vw q i dv = ((λ z. (highs i (apart-c v vb vw q i dv) ∙ z, values (top x q))), high≤ i)

    works : (v : ℕ) → v < s.site.P → Works x' h o' p' v (worker_at s v)
    works v vb =
        record {
          pool = All-map good (worker_at s v).pool Z.pool;
          announced = Z.announced;
          snapshot =
              λ z. let q = Z.snapshot z in (
                q.0,
                q.1,
                λ i d. Sees-mono sl sl' (worker_at s v).announced (q.0 i) (chain x i)
                    (λ j _. mono (worker_at s v).announced z j) (q.2 i d),
              );
          doing =
              doing_map x x' p p' v (worker_at s v).announced refl (worker_at s v).doing
              (λ g i e. same_copy p p' v refl (λ m. refl) g.purpose) (moves (worker_at s v).announced (worker_at s v).doing)
              Z.doing;
          current =
              ⊎_elim (λ u. subst (λ (i : ℕ). Current x' h o' i (worker_at s i).announced (worker_at s i).doing) (sym u.0) own) other
              (eq_cases v w);
        }
      where
        Z : Works x h o p v (worker_at s v)
        Z = I.workers v vb

        own : Current x' h o' w (worker_at s w).announced (worker_at s w).doing
        own =
            subst (Current x' h o' w (worker_at s w).announced) (sym dw)
            (k, kOpen, (y, kCall, inr (omega (arith, high-c), omega (arith, occurrences-snoc k o k, hit_same k, kNot))))

        other : (v ≢ w) × (eqb v w ≡ false) → Current x' h o' v (worker_at s v).announced (worker_at s v).doing
        other u =
            current_map x x' h h o o' v (worker_at s v).announced (worker_at s v).announced (worker_at s v).doing (λ z. z)
            (λ j jo f. (
              jo,
              fits_map x x' refl (worker_at s v).announced (call_at h j).operation (occurrences j o) (occurrences j o')
                  (omega (
                    arith,
                    occurrences-snoc j o k,
                    hit_other k j
                        (λ z. u.0 (sym jo.own ∙ ap (λ (i : ℕ). (call_at h i).worker) (sym z) ∙ kOpen.own)),
                  ))
                  (worker_at s v).doing (covers v vb u.0) f,
            ))
            Z.current

    marks : (m : ℕ) → m < mark_count → MarkHolds x' p' m
    marks m z =
        ⊎_elim inl
        (λ u. inr (u.0, u.1, u.2, λ i d. Sees-mono sl sl' (mark_at s m) (u.1 i) (chain x i) (λ j _. mono (mark_at s m) u.0 j) (u.3 i d)))
        (I.marks m z)

    owner : (q : ℕ) → q < s.site.V' → (nth sl' (newest_of s q)).low ≡ absent
        → (v : ℕ) × (v < s.site.P) × (i : ℕ) × ((worker_at s v).doing ≡ PutStamp q i) × ((nth sl' i).high ≡ absent)
    unfolding occurrences
    owner q d z =
        ⊎_elim
        (λ u. absurd (omega (arith, I.clock_fits, low-n, z, ap (λ (j : ℕ). (nth sl' (newest_of s j)).low) u.0)))
        (λ u.
        let m : occurrences (newest_of s q) (chain x r) ≡ 0 = chain-apart I q r d b u.0 (newest_of s q) (omega (arith, hit_same (newest_of s q))) in
        let a = I.stamper q d (sym (lows (newest_of s q) (λ v. omega (arith, m, hit-eq n (newest_of s q) (sym v)))) ∙ z) in
        let f = subst (PlaceHolds x p a.0 (worker_at s a.0).announced) a.3 (I.workers a.0 a.1).doing in (
          a.0,
          a.1,
          a.2,
          a.3,
          highs a.2 (λ v. omega (
            arith,
            c-old,
            subst (λ (j : ℕ). occurrences j (chain x r) ≡ 0) v
                (chain-apart I q r d b u.0 a.2 (omega (arith, f.2))),
          )) ∙ a.4,
        ))
        (eq_cases q r)

    -- the put takes effect, and nothing else
    change-k : change_effects h s s' ≡ k ∷ []
    change-k =
        ap (map (running_of h)) (below_one (takes s s') s.site.P w wb yes
        (λ v vb vw. takes_same s s s' v refl (λ q i dv. highs i (apart-c v vb vw q i dv)) ∙ takes-self s v))
        ∙ ap (λ (i : ℕ). i ∷ []) (running_is kOpen)
      where
        yes : takes s s' w ≡ true
        yes = rw (dw, Tests.eq-eqb (nth sl c).high absent hc, Tests.ne_eqb (nth sl' c).high absent (λ z. omega (arith, z, high-c, I.clock_fits)))

    stamp-new : Stamped start now s r olds h o
    unfolding stamp
    stamp-new =
        record {
          o = o';
          grown = ap (λ (q : List ℕ). o ++ q) (sym change-k);
          p = p';
          inv =
              record {
                workers_length = I.workers_length;
                newest_length = I.newest_length;
                slots_length = stamp-length sl n ck ∙ I.slots_length;
                olds_length = I.olds_length;
                marks_length = I.marks_length;
                slots_few = I.slots_few;
                clock_fits = I.clock_fits;
                free_alone = λ i z. (stamp-older sl n ck i ∙ (I.free_alone i z).0, stamp-newer sl n ck i ∙ (I.free_alone i z).1);
                once = I.once;
                pending_old = I.pending_old;
                linked = λ q d. Linked-same sl sl' absent (chain x q) (λ i _. (stamp-newer sl n ck i, stamp-older sl n ck i)) (I.linked q d);
                stamps = fine;
                queue = All-map (λ l. All-map good l) s.queue I.queue;
                workers = works;
                marks = marks;
                stamper = owner;
                outside = I.outside;
                linear = lin;
                rows_fit = I.rows_fit;
              };
          low = omega (arith, low-n);
        }

  pub stamp-inv : Stamped start now s r olds h o
  stamp-inv = ⊎_elim (λ u. new u.0) (λ u. stamp-had u.0) (eq_cases (nth sl n).low absent)
    where
      new : (nth sl n).low ≡ absent → Stamped start now s r olds h o
      new e =
          let a = I.stamper r b e in
          let f = subst (Current x h o a.0 (worker_at s a.0).announced) a.3 (I.workers a.0 a.1).current in
          ⊎_elim
          (λ u. stamp-new e a.0 a.1 a.2 a.3 a.4 f.0 f.1 f.2.0 f.2.1 u.1 u.2)
          (λ u. absurd (omega (arith, I.clock_fits, u.0, a.4)))
          f.2.2
