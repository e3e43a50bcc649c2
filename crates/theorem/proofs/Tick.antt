-- Open (2): the clock passes a time, and every open that announced that time takes effect.
use mathlib.Core.Path.{◌≡◌, refl, sym, ap, ◌∙◌, subst}
use mathlib.Core.Bool.{Bool, true, false, cond}
use mathlib.Core.Logic.{◌≢◌, ◌⊎◌, inl, inr, ⊎_elim}
use mathlib.Core.List.{List, [], ◌∷◌, ◌++◌, map, append-nil, append_assoc}
use mathlib.Core.Option.{some}
use Prim.Native.Nat.{ℕ, zero, suc, ◌+◌, ◌≤◌, ◌<◌}
use native.Mathlib.Omega.{arith}
use lib.Dec.{ltb, eqb}
use lib.ListN.{get_or}
use borrow.Author.Tests as Tests
use Rattle.model.specs.Store.{absent, Content, Slot, Range, OpenAnnounce, OpenPass, CloseWithdraw, MarkKeep, MarkRelease}
use Rattle.model.specs.Store.{Doing, Idle, PutPublish, PutStamp, PutHandIn, FlushTake, FlushRead, FlushFree, OnTime, ReadEnter}
use Rattle.model.specs.Store.{ReadStand, GetShow, Store, worker_at, slot_at, with_clock, place}
use Rattle.model.specs.About.{Effect, NoEffect, ByStamp, ByClock, about}
use Rattle.model.specs.Answer.{At}
use Rattle.model.specs.Record.{Operation, Open}
use Rattle.model.specs.Demand.{FinishedAt, Call, end_for, Plain, feed, running_of, stamped_over, passed, comes, filter_below}
use Rattle.model.specs.Demand.{change_effects, at_end, end_effects, occurrences, Agrees, call_at}
use Rattle.model.proofs.Basic.{hit_same, hit_other, eq_cases, lt_cases, le_cases, All-map, occurrences-snoc, map_app}
use Rattle.theorem.proofs.Effect.{running_is, own_not, takes, never, change-none}
use Rattle.theorem.proofs.Linear.{Lin, lin_effect}
use Rattle.theorem.proofs.Slots.{nth}
use Rattle.theorem.proofs.Chain.{Sees, Fine, Fine-sees, Past, Next}
use Rattle.theorem.proofs.View.{ByClockOf, clock_is}
use Rattle.theorem.proofs.Invariant.{Ctx, ctx, top, chain, Good, Settled, Snap, PlaceHolds, Running, Fits, Current, Works, Inv}
use Rattle.theorem.proofs.Transport.{stays, Moves, same_copy, sourced_settled, doing_map, fits_on, current_map}
use Rattle.theorem.proofs.Stamp.{put-at_other}
use Rattle.theorem.proofs.History.{hist-end, end-shut}
use Rattle.theorem.proofs.Places.{Kept, none_more, place-inv, doing_is, cur_is, calm}

-- only an open that has announced stands at the clock's time
at_clock : (x : Ctx) (p : Plain) (w t : ℕ) (d : Doing) → x.clock < absent → t ≡ x.clock → PlaceHolds x p w t d → d ≡ OnTime OpenPass
at_clock x p w t d b e = go d
  where
    not-settled : {d : Doing} → Settled x t → d ≡ OnTime OpenPass
    not-settled a = absurd (⊎_elim (λ u. omega (arith, b, e, u)) (λ u. omega (arith, e, u)) a)

    go : (d : Doing) → PlaceHolds x p w t d → d ≡ OnTime OpenPass
    go Idle a = not-settled a
    go (PutPublish r y) a = not-settled a.1
    go (PutStamp r c) a = not-settled a.1
    go (PutHandIn r c) a = not-settled a.1
    go FlushTake a = not-settled a
    go (FlushRead m ts) a = not-settled a.0
    go (FlushFree m) a = not-settled a.0
    go (OnTime OpenAnnounce) a = absurd (omega (arith, b, e, a))
    go (OnTime OpenPass) a = refl
    go (OnTime CloseWithdraw) a = absurd (omega (arith, e, a))
    go (OnTime (MarkKeep m)) a = absurd (omega (arith, e, a.1))
    go (OnTime (MarkRelease m)) a = not-settled a.1
    go (ReadEnter g) a = not-settled (sourced_settled x x t g.purpose a.1)
    go (ReadStand g c) a = not-settled (sourced_settled x x t g.purpose a.1)
    go (GetShow r) a = not-settled a.1

Fine-tick : (s : List Slot) (t : ℕ) (x x' : Content) (l : List ℕ) → x' ≡ x → Fine s t x l → Fine s (t + 1) x' l
Fine-tick s t x x' [] e f = f
Fine-tick s t x x' (c ∷ l) e f =
    (f.0, ⊎_elim (λ u. inl (omega (arith, u.0), u.1 ∙ sym e, All-map past l u.2)) (λ u. inr (u.0, next l u.1)) f.1)
  where
    past : (d : ℕ) → Past s t d → Past s (t + 1) d
    past d z = (omega (arith, z.0), omega (arith, z.1))

    next : (m : List ℕ) → Next s t x m → Next s (t + 1) x' m
    next [] z = z
    next (d ∷ m) z = (omega (arith, z.0), z.1, z.2 ∙ sym e, All-map past m z.3)

fits_tick : (x x' : Ctx) → x.clock ≤ x'.clock → x'.slots ≡ x.slots → x'.newest ≡ x.newest → (t : ℕ) (c : Operation) (n n' : ℕ) → n' ≡ n
    → (d : Doing) → (d ≡ OnTime OpenPass → t ≢ x.clock) → Fits x t c d n → Fits x' t c d n'
fits_tick x x' k es en t c n n' q d v =
    fits_on x x' t c n n' q d
    (λ r e z. (
      (λ u. (high e ∙ u, ap (λ (l : List Slot). (nth l (top x' r)).value) es ∙ ap (λ (l : List ℕ). (nth x.slots (get_or l r absent)).value) en)),
      (λ u. omega (arith, k, u, high e)),
    ))
    (λ e. ((λ z. absurd (v e z)), (λ z. omega (arith, k, z))))
  where
    high : (e : ℕ) → (nth x'.slots e).high ≡ (nth x.slots e).high
    high e = ap (λ (l : List Slot). (nth l e).high) es

module _ {start : ℕ → Content} (now : ℕ) (s : Store) (olds : List (List ℕ)) (h : List Call) (o : List ℕ) (p : Plain) (I : Inv start now s olds h o p) where
  abbrev x : Ctx
  x = ctx s olds

  -- the open of worker v takes effect as the clock ticks
  abbrev Ready : ℕ → Type 0
  Ready v = ((worker_at s v).doing ≡ OnTime OpenPass) × ((worker_at s v).announced ≡ s.clock)

  ready : (v : ℕ) → Ready v ⊎ (Ready v → ⊥)
  ready v = go (about (worker_at s v).doing).effect refl
    where
      not-open : (y : Effect) → (about (worker_at s v).doing).effect ≡ y → Ready v → ByClockOf y
      not-open y e z = subst ByClockOf (sym (ap (λ d. (about d).effect) z.0) ∙ e) tt

      go : (y : Effect) → (about (worker_at s v).doing).effect ≡ y → Ready v ⊎ (Ready v → ⊥)
      go NoEffect e = inr (not-open NoEffect e)
      go (ByStamp c) e = inr (not-open (ByStamp c) e)
      go ByClock e =
          ⊎_elim (λ u. inl (clock_is (worker_at s v).doing e, u.0)) (λ u. inr (λ z. u.0 z.1)) (eq_cases (worker_at s v).announced s.clock)

  abbrev s⁺ : Store
  s⁺ = with_clock s (s.clock + 1)

  takes-ready : (v : ℕ) → Ready v → takes s s⁺ v ≡ true
  takes-ready v g = rw (g.0, g.1, Tests.le-leb s.clock s.clock (omega arith), Tests.lt-ltb s.clock (s.clock + 1) (omega arith))

  takes-not : (v : ℕ) → (Ready v → ⊥) → takes s s⁺ v ≡ false
  takes-not v n = go (about (worker_at s v).doing).effect refl
    where
      a : ℕ
      a = (worker_at s v).announced

      go : (y : Effect) → (about (worker_at s v).doing).effect ≡ y → comes (stamped_over s s⁺) (passed s s⁺) a y ≡ false
      go NoEffect e = refl
      go (ByStamp c) e = never (eqb (slot_at s c).high absent)
      go ByClock e =
          ⊎_elim
          (λ u. rw (
            u.1,
            Tests.le-ltb a (s.clock + 1) (⊎_elim (λ y. absurd (n (clock_is _ e, y.0))) (λ y. omega (arith, y.0, u.0))
                (eq_cases a s.clock)),
          ))
          (λ u. rw u.1)
          (le_cases s.clock a)

  -- the first m workers' opens have taken effect
  record Ticked (m : ℕ) : Type 0 where
    pub o' : List ℕ
    pub grown : o' ≡ o ++ map (running_of h) (filter_below (takes s s⁺) m)
    pub p' : Plain
    pub linear : Lin s.site.rows start now h o' p'
    pub registers : (r : ℕ) → p'.registers r ≡ p.registers r
    pub kept : (m : ℕ) → p'.kept m ≡ p.kept m
    pub did : (v : ℕ) → v < s.site.P → v < m → Ready v
        → ((f : ℕ → Content) × (p'.copy v ≡ some f) × ((r : ℕ) → f r ≡ p.registers r)) × ((k : ℕ) → Running h v k → occurrences k o' ≡ 1)
    pub same : (v : ℕ) → v < s.site.P → (m ≤ v) ⊎ (Ready v → ⊥)
        → (p'.copy v ≡ p.copy v) × ((k : ℕ) → Running h v k → occurrences k o' ≡ occurrences k o)

  ticked : (m : ℕ) → m ≤ s.site.P → Ticked m
  unfolding filter_below
  ticked zero b =
      record {
        o' = o;
        grown = sym (append-nil o);
        p' = p;
        linear = I.linear;
        registers = λ r. refl;
        kept = λ m. refl;
        did = λ v vb z. absurd (omega (arith, z));
        same = λ v vb z. (refl, λ k K. refl);
      }
  ticked (suc m) b = ⊎_elim (add (ticked m (omega arith))) (pass (ticked m (omega arith))) (ready m)
    where
      pass : Ticked m → (Ready m → ⊥) → Ticked (suc m)
      pass T n =
          record {
            o' = T.o';
            grown =
                T.grown ∙ ap (λ (q : List ℕ). o ++ map (running_of h) q)
                (sym (ap (λ (t : Bool). filter_below (takes s s⁺) m ++ cond t (m ∷ []) []) (takes-not m n) ∙ append-nil (filter_below (takes s s⁺) m)));
            p' = T.p';
            linear = T.linear;
            registers = T.registers;
            kept = T.kept;
            did =
                λ v vb z g. T.did v vb (⊎_elim (λ u. u.0) (λ u. absurd (n (subst Ready (let i : v ≡ m = omega (arith, z, u.0) in i) g)))
                (lt_cases v m)) g;
            same = λ v vb z. T.same v vb (⊎_elim (λ u. inl (omega (arith, u))) inr z);
          }

      add : Ticked m → Ready m → Ticked (suc m)
      add T g =
          record {
            o' = o⁺;
            grown =
                ap (λ (q : List ℕ). q ++ (k ∷ [])) T.grown
                ∙ append_assoc o (map (running_of h) (filter_below (takes s s⁺) m)) (k ∷ [])
                ∙ ap (λ (i : ℕ). o ++ (map (running_of h) (filter_below (takes s s⁺) m) ++ (i ∷ []))) (sym (running_is K))
                ∙ ap (λ (q : List ℕ). o ++ q) (sym (map_app (running_of h) (filter_below (takes s s⁺) m) (m ∷ [])))
                ∙ ap (λ (t : Bool). o ++ map (running_of h) (filter_below (takes s s⁺) m ++ cond t (m ∷ []) [])) (sym (takes-ready m g));
            p' = p⁺;
            linear =
                subst (λ (q : Plain). Lin s.site.rows start now h o⁺ q) (ap (λ (i : ℕ). feed T.p' i (call_at h k).operation) K.own ∙ ap (feed T.p' m) F.0)
                (lin_effect T.linear k K.within K.unfinished k-not (not-at-end F.0));
            registers = λ r. regs⁺ T.p' r ∙ T.registers r;
            kept = λ i. kept⁺ T.p' i ∙ T.kept i;
            did = λ v vb z y.
                ⊎_elim
                (λ u. subst (λ (i : ℕ). ((f : ℕ → Content) × (p⁺.copy i ≡ some f) × ((r : ℕ) → f r ≡ p.registers r))
                × ((j : ℕ) → Running h i j → occurrences j o⁺ ≡ 1)) (sym u.0) (
                  (T.p'.registers, own⁺ T.p', T.registers),
                  (λ j J. let i : j ≡ k = K.only j J.within J.own J.unfinished in subst (λ (q : ℕ). occurrences q o⁺ ≡ 1) (sym i)
                      (omega (arith, k-not, occurrences-snoc k T.o' k, hit_same k))),
                ))
                (λ u.
                let a = T.did v vb (omega (arith, z, u.0)) y in (
                  (a.0.0, other⁺ T.p' v u.0 ∙ a.0.1, a.0.2),
                  (λ j J. omega (arith, a.1 j J, occurrences-snoc j T.o' k, hit_other k j (far v u.0 j J))),
                ))
                (eq_cases v m);
            same = λ v vb z.
                let n : v ≢ m = λ i. ⊎_elim (λ u. omega (arith, u, i)) (λ u. u (subst Ready (sym i) g)) z in
                let a = T.same v vb (⊎_elim (λ u. inl (omega (arith, u))) inr z) in
                (other⁺ T.p' v n ∙ a.0, λ j J. omega (arith, a.1 j J, occurrences-snoc j T.o' k, hit_other k j (far v n j J)));
          }
        where
          C : Current x h o m (worker_at s m).announced (OnTime OpenPass)
          C = subst (Current x h o m (worker_at s m).announced) g.0 (I.workers m (omega arith)).current

          k : ℕ
          k = C.0

          K : Running h m k
          K = C.1

          F : Fits x (worker_at s m).announced (call_at h k).operation (OnTime OpenPass) (occurrences k o)
          F = C.2

          k-not : occurrences k T.o' ≡ 0
          k-not = (T.same m (omega arith) (inl (omega arith))).1 k K ∙ ⊎_elim (λ u. u.1) (λ u. absurd (omega (arith, u.0, g.1))) F.1

          o⁺ : List ℕ
          o⁺ = T.o' ++ (k ∷ [])

          p⁺ : Plain
          p⁺ = feed T.p' m Open

          regs⁺ : (q : Plain) (r : ℕ) → (feed q m Open).registers r ≡ q.registers r
          regs⁺ q r = unfold feed in refl

          kept⁺ : (q : Plain) (i : ℕ) → (feed q m Open).kept i ≡ q.kept i
          kept⁺ q i = unfold feed in refl

          own⁺ : (q : Plain) → (feed q m Open).copy m ≡ some q.registers
          own⁺ q = unfold feed in (rw (Tests.eq-eqb m m refl))

          other⁺ : (q : Plain) (v : ℕ) → v ≢ m → (feed q m Open).copy v ≡ q.copy v
          other⁺ q v n = unfold feed in (put-at_other q.copy m (some q.registers) v n)

          not-at-end : {c : Operation} → c ≡ Open → at_end c ≡ false
          not-at-end e = unfold at_end in (ap at_end e)

          far : (v : ℕ) → v ≢ m → (j : ℕ) → Running h v j → k ≢ j
          far v n j J i = n (sym J.own ∙ ap (λ (q : ℕ). (call_at h q).worker) (sym i) ∙ K.own)

  -- the clock passes its time
  tick_inv : s.clock < 4294967295 → (o' : List ℕ) × (p' : Plain) × Inv start now (with_clock s (s.clock + 1)) olds h o' p'
      × (o' ≡ o ++ change_effects h s (with_clock s (s.clock + 1)))
  tick_inv b = (
    T.o',
    T.p',
    record {
      workers_length = I.workers_length;
      newest_length = I.newest_length;
      slots_length = I.slots_length;
      olds_length = I.olds_length;
      marks_length = I.marks_length;
      slots_few = I.slots_few;
      clock_fits = omega (arith, b);
      free_alone = I.free_alone;
      once = I.once;
      pending_old = I.pending_old;
      linked = I.linked;
      stamps = λ r z. Fine-tick s.slots s.clock (p.registers r) (T.p'.registers r) (chain x r) (T.registers r) (I.stamps r z);
      queue = All-map (λ m. All-map good m) s.queue I.queue;
      workers = works;
      marks = λ m z. ⊎_elim (λ u. inl (u.0, T.kept m ∙ u.1)) (λ u. inr (omega (arith, u.0), u.1, T.kept m ∙ u.2, u.3)) (I.marks m z);
      stamper = I.stamper;
      outside = I.outside;
      linear = T.linear;
      rows_fit = I.rows_fit;
    },
    T.grown,
  )
    where
      T : Ticked s.site.P
      T = ticked s.site.P (omega arith)

      x' : Ctx
      x' = ctx (with_clock s (s.clock + 1)) olds

      good : (ρ : Range) → Good x ρ → Good x' ρ
      good ρ g = (g.0, g.1, omega (arith, g.2), omega (arith, g.3))

      works : (v : ℕ) → v < s.site.P → Works x' h T.o' T.p' v (worker_at s v)
      works v vb =
          record {
            pool = All-map good (worker_at s v).pool Z.pool;
            announced = ⊎_elim inl (λ u. inr (omega (arith, u.0), u.1)) Z.announced;
            snapshot = λ z. ⊎_elim (old z) (new z) (lt_cases t s.clock);
            doing =
                ⊎_elim (λ g. subst (PlaceHolds x' T.p' v t) (sym g.0) (omega (arith, g.1), (subst (PlaceHolds x p v t) g.0 Z.doing).1))
                (λ n. doing_map x x' p T.p' v t (T.same v vb (inr n)).0 (worker_at s v).doing
                (λ g c e. same_copy p T.p' v (T.same v vb (inr n)).0 T.kept g.purpose) moves Z.doing) (ready v);
            current = ⊎_elim effect rest (ready v);
          }
        where
          Z : Works x h o p v (worker_at s v)
          Z = I.workers v vb

          t : ℕ
          t = (worker_at s v).announced

          old : t < s.clock + 1 → (t < s.clock) × (ltb t s.clock ≡ true) → Snap x' T.p' v t
          old z u = let a = Z.snapshot u.0 in (a.0, (T.same v vb (inr (λ g. omega (arith, u.0, g.1)))).0 ∙ a.1, a.2)

          new : t < s.clock + 1 → (s.clock ≤ t) × (ltb t s.clock ≡ false) → Snap x' T.p' v t
          new z u =
              let i : t ≡ s.clock = omega (arith, z, u.0) in
              let g : Ready v = (at_clock x p v t (worker_at s v).doing I.clock_fits i Z.doing, i) in
              let a = T.did v vb vb g in (
                a.0.0,
                a.0.1,
                λ r d. subst (λ (q : ℕ). Sees s.slots q (a.0.0 r) (chain x r)) (sym i)
                    (subst (λ (q : Content). Sees s.slots s.clock q (chain x r)) (sym (a.0.2 r))
                    (Fine-sees s.slots s.clock (p.registers r) (chain x r) I.clock_fits (I.stamps r d))),
              )

          moves : Moves x x' t (worker_at s v).doing
          moves =
              record {
                tick = omega arith;
                reg = λ q z. z;
                nhd = refl;
                same_rows = refl;
                good = λ ρ z. good ρ;
                times' = λ i z. stays x x' i refl;
                mem = λ q c z u k. k;
                highs = λ c z k. omega (arith, k);
                source = λ g c e. refl;
                on = λ q c y a z u k g. g;
              }

          effect : Ready v → Current x' h T.o' v t (worker_at s v).doing
          effect g =
              let C : Current x h o v t (OnTime OpenPass) = subst (Current x h o v t) g.0 Z.current in
              subst (Current x' h T.o' v t) (sym g.0) (C.0, C.1, (C.2.0, inr (omega (arith, g.1), (T.did v vb vb g).1 C.0 C.1)))

          rest : (Ready v → ⊥) → Current x' h T.o' v t (worker_at s v).doing
          rest n =
              current_map x x' h h o T.o' v t t (worker_at s v).doing (λ z. z)
              (λ k K f. (
                K,
                fits_tick x x' (omega arith) refl refl t (call_at h k).operation (occurrences k o) (occurrences k T.o')
                    ((T.same v vb (inr n)).1 k K) (worker_at s v).doing (λ e i. n (e, i)) f,
              ))
              Z.current

-- the open's second step, with the clock past its time
done_kept : {start : ℕ → Content} (now : ℕ) (s : Store) (olds : List (List ℕ)) (h : List Call) (o : List ℕ) (p : Plain) → Inv start now s olds h o p → (w : ℕ) → w < s.site.P
    → (worker_at s w).doing ≡ OnTime OpenPass → (worker_at s w).announced < s.clock
    → Kept start now (place s w Idle) (map (end_for now w (At (worker_at s w).announced)) h) (o ++ end_effects h w (At (worker_at s w).announced))
unfolding at_end
done_kept now s olds h o p I w wb e b =
    let a = cur_is now s olds h o p I w wb (OnTime OpenPass) e in
    none_more o (end_effects h w (At (worker_at s w).announced)) (own_not a.1 (At (worker_at s w).announced) (ap at_end a.2.0))
    (place-inv now s olds h o p I w wb (OnTime OpenPass) Idle e (λ c. refl) (calm now s olds h o p I w wb (OnTime OpenPass) tt e) _ o p
    (hist-end now w h o p I.linear (At (worker_at s w).announced) a.0 a.1
    (⊎_elim (λ u. absurd (omega (arith, u.0, b))) (λ u. u.1) a.2.1)
    (λ q. subst (λ (c : Operation). Agrees c (FinishedAt now (At (worker_at s w).announced)) q) (sym a.2.0) tt))
    refl (λ m. refl) (inr b) (end-shut now w h o p I.linear (At (worker_at s w).announced) a.0 a.1))

pub pass_kept : {start : ℕ → Content} (now : ℕ) (s : Store) (olds : List (List ℕ)) (h : List Call) (o : List ℕ) (p : Plain) → Inv start now s olds h o p → (w : ℕ)
    → w < s.site.P
    → (worker_at s w).doing ≡ OnTime OpenPass
    → Kept start now (place (with_clock s (cond (eqb s.clock (worker_at s w).announced) (s.clock + 1) s.clock)) w Idle)
    (map (end_for now w (At (worker_at s w).announced)) h)
    (o ++ (change_effects h s (with_clock s (cond (eqb s.clock (worker_at s w).announced) (s.clock + 1) s.clock))
    ++ end_effects h w (At (worker_at s w).announced)))
pass_kept {start} now s olds h o p I w wb e =
    let d = doing_is now s olds h o p I w wb (OnTime OpenPass) e in
    ⊎_elim
    (λ u.
    let T = tick_inv now s olds h o p I (omega (arith, u.0, d.1)) in
    subst (λ (t : Bool). Kept start now (place (with_clock s (cond t (s.clock + 1) s.clock)) w Idle)
    (map (end_for now w (At (worker_at s w).announced)) h)
    (o ++ (change_effects h s (with_clock s (cond t (s.clock + 1) s.clock)) ++ end_effects h w (At (worker_at s w).announced)))) (sym u.1)
    (subst (Kept start now (place (with_clock s (s.clock + 1)) w Idle) (map (end_for now w (At (worker_at s w).announced)) h))
    (append_assoc o (change_effects h s (with_clock s (s.clock + 1))) (end_effects h w (At (worker_at s w).announced)))
    (subst (λ (q : List ℕ). Kept start now (place (with_clock s (s.clock + 1)) w Idle) (map (end_for now w (At (worker_at s w).announced)) h)
    (q ++ end_effects h w (At (worker_at s w).announced))) T.3
    (done_kept now (with_clock s (s.clock + 1)) olds h T.0 T.1 T.2 w wb e (omega (arith, u.0))))))
    (λ u.
    subst (λ (t : Bool). Kept start now (place (with_clock s (cond t (s.clock + 1) s.clock)) w Idle)
    (map (end_for now w (At (worker_at s w).announced)) h)
    (o ++ (change_effects h s (with_clock s (cond t (s.clock + 1) s.clock)) ++ end_effects h w (At (worker_at s w).announced)))) (sym u.1)
    (subst (λ (q : List ℕ). Kept start now (place s w Idle) (map (end_for now w (At (worker_at s w).announced)) h)
    (o ++ (q ++ end_effects h w (At (worker_at s w).announced)))) (sym (change-none h s s refl (λ v q c z y. refl)))
    (done_kept now s olds h o p I w wb e (omega (arith, d.0, u.0)))))
    (eq_cases s.clock (worker_at s w).announced)
