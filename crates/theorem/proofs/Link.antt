-- Put (1), on a register that is stamped: a free slot is linked as the newest version.
use mathlib.Core.Path.{◌≡◌, refl, sym, ap, ◌∙◌, subst}
use mathlib.Core.Logic.{◌≢◌, inl, inr, ⊎_elim}
use mathlib.Core.Option.{some}
use mathlib.Core.List.{List, [], ◌∷◌}
use Prim.Native.Nat.{ℕ, zero, suc, ◌+◌, ◌≤◌, ◌<◌}
use native.Mathlib.Nat.{not-suc-le-zero, le_of_suc-le-suc}
use native.Mathlib.Omega.{arith}
use lib.ListN.{length, get_or, set, length-set}
use lib.Seq.{get_or-set_same, get_or-set_other}
use Rattle.model.specs.Store.{absent, Reading, Content, Slot, Range, PutPublish, PutStamp, Worker, start_worker, Store, worker_at, newest_of}
use Rattle.model.specs.Store.{mark_at, with_doing, place, with_slots, with_newest, with_free}
use Rattle.model.specs.Versions.{link_slots}
use Rattle.model.specs.Demand.{Call, Plain, occurrences, All, call_at}
use Rattle.model.specs.Reached.{sum_by}
use Rattle.model.proofs.Basic.{hit, hit_same, hit-eq, eq_cases, All-get, All-occurrences, occurrences-head}
use Rattle.theorem.proofs.Linear.{lin_skip}
use Rattle.theorem.proofs.Slots.{nth, link_length, link_new, link_part, link_newer_other}
use Rattle.theorem.proofs.Chain.{Linked, Linked-same, Linked-link, Sees, Sees-mono, On, On-mono, Fine, Past}
use Rattle.theorem.proofs.Count.{cnt, sum_by-set, sum_by-one}
use Rattle.theorem.proofs.Invariant.{Ctx, ctx, top, old, chain, in_doing, pend_w, pend, Good, PlaceHolds, Works, Inv, held_same}
use Rattle.theorem.proofs.Apart.{below≤1, chain-once, chain-in, chain-apart, free_in_lem}
use Rattle.theorem.proofs.Transport.{stays, Moves, doing_map, fits_map, current_map, Covers, Fine-same, All-cnt}
use Rattle.theorem.proofs.Places.{Kept, doing_is, cur_is}

pub times_set : (l : List ℕ) (i y c : ℕ) → i < length l → occurrences c (set l i y) + hit (get_or l i absent) c ≡ occurrences c l + hit y c
unfolding occurrences
times_set [] i y c h = absurd (not-suc-le-zero h)
times_set (z ∷ l) zero y c h = omega arith
times_set (z ∷ l) (suc i) y c h = omega (arith, times_set l i y c (le_of_suc-le-suc h))

-- the ranges of a queue, each with its slot counted
pub All-queue : {P Q : Range → Type 0} (q : List (List Range)) → ((ρ : Range) → 0 < sum_by (cnt ρ.slot) q → P ρ → Q ρ) → All (All P) q
    → All (All Q) q
unfolding sum_by
All-queue [] f t = tt
All-queue (m ∷ q) f t = (All-cnt m (λ ρ z. f ρ (omega (arith, z))) t.0, All-queue q (λ ρ z. f ρ (omega (arith, z))) t.1)

module _ {start : ℕ → Content} (now : ℕ) (s : Store) (olds : List (List ℕ)) (h : List Call) (o : List ℕ) (p : Plain) (I : Inv start now s olds h o p) (w : ℕ)
    (wb : w < s.site.P)
    (r : ℕ) (b : r < s.site.V') (y : Reading) (e : (worker_at s w).doing ≡ PutPublish r y) (st : (nth s.slots (newest_of s r)).low ≤ s.clock)
    (f : ℕ) (fs : List ℕ) (fr : s.free ≡ f ∷ fs) where
  abbrev n : ℕ
  n = newest_of s r

  abbrev sl : List Slot
  sl = s.slots

  abbrev sl' : List Slot
  sl' = link_slots sl n f y

  abbrev ck : ℕ
  ck = s.clock

  abbrev x : Ctx
  x = ctx s olds

  abbrev y' : Worker
  y' = with_doing (worker_at s w) (PutStamp r n)

  abbrev pub linked_store : Store
  linked_store =
      place (with_free (with_newest (with_slots s sl') (set s.newest r f)) fs) w (PutStamp r n)

  abbrev olds' : List (List ℕ)
  olds' = set olds r (n ∷ old x r)

  abbrev x' : Ctx
  x' = ctx linked_store olds'

  at_own : worker_at linked_store w ≡ y'
  at_own = get_or-set_same s.workers w y' start_worker (omega (arith, I.workers_length))

  at_other : (v : ℕ) → v ≢ w → worker_at linked_store v ≡ worker_at s v
  at_other v z = get_or-set_other s.workers w v y' start_worker z

  top-own : top x' r ≡ f
  top-own = get_or-set_same s.newest r f absent (omega (arith, I.newest_length))

  top-other : (q : ℕ) → q ≢ r → top x' q ≡ top x q
  top-other q z = get_or-set_other s.newest r q f absent z

  old-own : old x' r ≡ n ∷ old x r
  old-own = get_or-set_same olds r (n ∷ old x r) [] (omega (arith, I.olds_length))

  old-other : (q : ℕ) → q ≢ r → old x' q ≡ old x q
  old-other q z = get_or-set_other olds r q (n ∷ old x r) [] z

  chain-own : chain x' r ≡ f ∷ chain x r
  chain-own = ap (λ (z : ℕ). z ∷ old x' r) top-own ∙ ap (λ (z : List ℕ). f ∷ z) old-own

  chain-other : (q : ℕ) → q ≢ r → chain x' q ≡ chain x q
  chain-other q z = ap (λ (i : ℕ). i ∷ old x' q) (top-other q z) ∙ ap (λ (i : List ℕ). top x q ∷ i) (old-other q z)

  -- the free slot is free, and in nothing else
  free_times : (c : ℕ) → occurrences c s.free ≡ hit f c + occurrences c fs
  unfolding occurrences
  free_times c = ap (occurrences c) fr

  f_free : 0 < occurrences f s.free
  f_free = omega (arith, free_times f, hit_same f)

  f_in : f < length sl
  f_in = free_in_lem I f f_free

  f_pend : pend f s.workers s.queue ≡ 0
  f_pend = omega (arith, I.once f, below≤1 f s.site.N, f_free)

  chain-f : (q : ℕ) → q < s.site.V' → (i : ℕ) → 0 < occurrences i (chain x q) → i ≢ f
  chain-f q d i z u = omega (arith, chain-once I q d f, f_free, subst (λ (j : ℕ). 0 < occurrences j (chain x q)) u z)

  pend-f : (i : ℕ) → 0 < pend i s.workers s.queue → i ≢ f
  pend-f i z u = omega (arith, f_pend, subst (λ (j : ℕ). 0 < pend j s.workers s.queue) u z)

  pub work_f : (v : ℕ) → v < s.site.P → (i : ℕ) → 0 < pend_w i (worker_at s v) → i ≢ f
  work_f v vb i z = pend-f i (omega (arith, z, sum_by-one (pend_w i) s.workers v start_worker (omega (arith, I.workers_length))))

  lows : (i : ℕ) → i ≢ f → (nth sl' i).low ≡ (nth sl i).low
  lows = link_part sl n f y (λ v. v.low) (λ v z. refl)

  pub highs : (i : ℕ) → i ≢ f → (nth sl' i).high ≡ (nth sl i).high
  highs = link_part sl n f y (λ v. v.high) (λ v z. refl)

  values : (i : ℕ) → i ≢ f → (nth sl' i).value ≡ (nth sl i).value
  values = link_part sl n f y (λ v. v.value) (λ v z. refl)

  is_f : nth sl' f ≡ record { value = some y; low = absent; high = absent; older = n; newer = absent }
  is_f = link_new sl n f y f_in

  n_chain : 0 < occurrences n (chain x r)
  unfolding occurrences
  n_chain = omega (arith, hit_same n)

  n≢f : n ≢ f
  n≢f = chain-f r b n n_chain

  -- the register is stamped
  stamped : ((nth sl n).value ≡ p.registers r) × All (Past sl ck) (old x r)
  stamped = ⊎_elim (λ u. (u.1, u.2)) (λ u. absurd (omega (arith, st, u.0, I.clock_fits))) (I.stamps r b).1

  good : (ρ : Range) → ρ.slot ≢ f → Good x ρ → Good x' ρ
  good ρ z g = (g.0 ∙ sym (lows ρ.slot z), g.1 ∙ sym (highs ρ.slot z), g.2, g.3)

  mono : (a q : ℕ) → q < s.site.V' → (i : ℕ) → 0 < occurrences i (chain x q)
      → ((nth sl i).low ≤ a → (nth sl' i).low ≤ a) × (a < (nth sl i).low → a < (nth sl' i).low) × (a < (nth sl i).high → a < (nth sl' i).high)
      × ((nth sl' i).value ≡ (nth sl i).value)
  mono a q d i z =
      let k = chain-f q d i z in
      ((λ u. omega (arith, lows i k)), (λ u. omega (arith, lows i k)), (λ u. omega (arith, highs i k)), values i k)

  sees : (a : ℕ) (v : Content) (q : ℕ) → q < s.site.V' → a < ck → Sees sl a v (chain x q) → Sees sl' a v (chain x' q)
  sees a v q d z g =
      let k : Sees sl' a v (chain x q) = Sees-mono sl sl' a v (chain x q) (mono a q d) g in
      ⊎_elim
      (λ u. subst (λ (j : ℕ). Sees sl' a v (chain x' j)) (sym u.0)
      (subst (Sees sl' a v) (sym chain-own) (inr (
        omega (arith, z, I.clock_fits, ap (λ (i : Slot). i.low) is_f),
        subst (λ (j : ℕ). Sees sl' a v (chain x j)) u.0 k,
      ))))
      (λ u. subst (Sees sl' a v) (sym (chain-other q u.0)) k)
      (eq_cases q r)

  ons : (a c : ℕ) (v : Content) (q : ℕ) → q < s.site.V' → a < ck → On sl a c v (chain x q) → On sl' a c v (chain x' q)
  ons a c v q d z g =
      let k : On sl' a c v (chain x q) = On-mono sl sl' a c v (chain x q) (mono a q d) g in
      ⊎_elim
      (λ u. subst (λ (j : ℕ). On sl' a c v (chain x' j)) (sym u.0)
      (subst (On sl' a c v) (sym chain-own) (inr (
        omega (arith, z, I.clock_fits, ap (λ (i : Slot). i.low) is_f),
        subst (λ (j : ℕ). On sl' a c v (chain x j)) u.0 k,
      ))))
      (λ u. subst (On sl' a c v) (sym (chain-other q u.0)) k)
      (eq_cases q r)

  linked : (q : ℕ) → q < s.site.V' → Linked sl' absent (chain x' q)
  unfolding occurrences
  linked q d =
      ⊎_elim
      (λ u. subst (λ (j : ℕ). Linked sl' absent (chain x' j)) (sym u.0)
      (subst (Linked sl' absent) (sym chain-own)
      (Linked-link sl n f y (old x r) f_in (I.linked r b) (omega (arith, chain-once I r b f, f_free))
      (omega (arith, chain-once I r b n, hit_same n)) (chain-in I r b n n_chain))))
      (λ u. subst (Linked sl' absent) (sym (chain-other q u.0))
      (Linked-same sl sl' absent (chain x q)
      (λ i z. (
        link_newer_other sl n f y i (chain-f q d i z) (λ v. omega (arith, chain-apart I q r d b u.0 i z, hit-eq n i (sym v))),
        link_part sl n f y (λ v. v.older) (λ v k. refl) i (chain-f q d i z),
      ))
      (I.linked q d)))
      (eq_cases q r)

  fine : (q : ℕ) → q < s.site.V' → Fine sl' ck (p.registers q) (chain x' q)
  unfolding occurrences
  fine q d =
      ⊎_elim
      (λ u. subst (λ (j : ℕ). Fine sl' ck (p.registers j) (chain x' j)) (sym u.0) (subst (Fine sl' ck (p.registers r)) (sym chain-own) own))
      (λ u. subst (Fine sl' ck (p.registers q)) (sym (chain-other q u.0))
      (Fine-same sl sl' ck (p.registers q) (p.registers q) (chain x q) refl
      (λ i z. (lows i (chain-f q d i z), highs i (chain-f q d i z), values i (chain-f q d i z))) (I.stamps q d)))
      (eq_cases q r)
    where
      own : Fine sl' ck (p.registers r) (f ∷ chain x r)
      own = (
        ap (λ (i : Slot). i.high) is_f,
        inr (
          ap (λ (i : Slot). i.low) is_f,
          (
            omega (arith, st, lows n n≢f),
            highs n n≢f ∙ (I.stamps r b).0,
            values n n≢f ∙ stamped.0,
            All-occurrences (old x r) (λ i z. let g = All-get (Past sl ck) (old x r) stamped.1 i z in let k = chain-f r b i
                (omega (arith, z)) in (omega (arith, g.0, lows i k), omega (arith, g.1, highs i k))),
          ),
        ),
      )

  mem : (q c : ℕ) → 0 < occurrences c (old x q) → 0 < occurrences c (old x' q)
  unfolding occurrences
  mem q c z =
      ⊎_elim
      (λ u. subst (λ (j : ℕ). 0 < occurrences c (old x' j)) (sym u.0)
      (omega (arith, ap (occurrences c) old-own, subst (λ (j : ℕ). 0 < occurrences c (old x j)) u.0 z)))
      (λ u. subst (λ (l : List ℕ). 0 < occurrences c l) (sym (old-other q u.0)) z)
      (eq_cases q r)

  still : (v : ℕ) → x'.held v ≡ x.held v
  still v =
      held_same s linked_store refl refl v
      (λ _. ⊎_elim
      (λ u. ap (λ (i : ℕ). (worker_at linked_store i).announced) u.0 ∙ ap (λ (z : Worker). z.announced) at_own
      ∙ ap (λ (i : ℕ). (worker_at s i).announced) (sym u.0))
      (λ u. ap (λ (z : Worker). z.announced) (at_other v u.0))
      (eq_cases v w))

  other : (v : ℕ) → v < s.site.P → v ≢ w → Works x' h o p v (worker_at s v)
  other v vb vw =
      record {
        pool = All-cnt (worker_at s v).pool (λ ρ z. good ρ (work_f v vb ρ.slot (omega (arith, z)))) Z.pool;
        announced = Z.announced;
        snapshot = λ z. let a = Z.snapshot z in (a.0, a.1, λ q d. sees (worker_at s v).announced (a.0 q) q d z (a.2 q d));
        doing = doing_map x x' p p v (worker_at s v).announced refl (worker_at s v).doing (λ g c e. refl) moves Z.doing;
        current =
            current_map x x' h h o o v (worker_at s v).announced (worker_at s v).announced (worker_at s v).doing (λ z. z)
            (λ k K g. (
              K,
              fits_map x x' refl (worker_at s v).announced (call_at h k).operation (occurrences k o) (occurrences k o) refl
                  (worker_at s v).doing covers g,
            ))
            Z.current;
      }
    where
      Z : Works x h o p v (worker_at s v)
      Z = I.workers v vb

      moves : Moves x x' (worker_at s v).announced (worker_at s v).doing
      moves =
          record {
            tick = omega arith;
            reg = λ q z. z;
            nhd = refl;
            same_rows = refl;
            good = λ ρ z. good ρ (work_f v vb ρ.slot (omega (arith, z)));
            times' = λ i z. stays x x' i (still i);
            mem = λ q c z u k. mem q c k;
            highs = λ c z k. omega (arith, k, highs c (work_f v vb c (omega (arith, z))));
            source = λ g c e. refl;
            on = λ g c y a z u k. ons a c y g.register z u;
          }

      covers : (q i : ℕ) → (worker_at s v).doing ≡ PutStamp q i → Covers x x' q i
      covers q i z =
          let d = subst (PlaceHolds x p v (worker_at s v).announced) z Z.doing in
          let k : i ≢ f = work_f v vb i (omega (arith, ap (in_doing i) z, hit_same i)) in (
            (λ u.
                ⊎_elim
                (λ g. absurd (omega (
                  arith,
                  I.clock_fits,
                  u,
                  (All-get (Past sl ck) (old x r) stamped.1 i
                      (subst (λ (j : ℕ). 0 < occurrences i (old x j)) g.0 d.2)).1,
                )))
                (λ g. (
                  highs i k ∙ u,
                  ap (λ (j : ℕ). (nth sl' j).value) (top-other q g.0)
                      ∙ values (top x q) (chain-f q d.0 (top x q) (occurrences-head (top x q) (old x q))),
                ))
                (eq_cases q r)),
            (λ u. omega (arith, u, highs i k)),
          )

  own : Works x' h o p w y'
  unfolding occurrences
  own =
      record {
        pool = All-cnt (worker_at s w).pool (λ ρ z. good ρ (work_f w wb ρ.slot (omega (arith, z)))) Z.pool;
        announced = Z.announced;
        snapshot = λ z. let a = Z.snapshot z in (a.0, a.1, λ q d. sees (worker_at s w).announced (a.0 q) q d z (a.2 q d));
        doing = (b, (doing_is now s olds h o p I w wb (PutPublish r y) e).1, omega (arith, ap (occurrences n) old-own, hit_same n));
        current =
            let a = cur_is now s olds h o p I w wb (PutPublish r y) e in (
              a.0,
              a.1,
              (
                y,
                a.2.0,
                inl (
                  highs n n≢f ∙ (I.stamps r b).0,
                  a.2.1,
                  ap (λ (j : ℕ). (nth sl' j).value) top-own
                      ∙ ap (λ (v : Slot). v.value) is_f,
                ),
              ),
            );
      }
    where
      Z : Works x h o p w (worker_at s w)
      Z = I.workers w wb

  pends : (c : ℕ) → pend c (set s.workers w y') s.queue ≡ pend c s.workers s.queue + hit n c
  pends c = omega (arith, ap (in_doing c) e, sum_by-set (pend_w c) s.workers w y' start_worker (omega (arith, I.workers_length)))

  alone : (i : ℕ) → 0 < occurrences i fs → ((nth sl' i).older ≡ absent) × ((nth sl' i).newer ≡ absent)
  alone i z =
      let i≢f : i ≢ f = λ u. omega (
        arith,
        I.once f,
        below≤1 f s.site.N,
        free_times f,
        hit_same f,
        subst (λ (j : ℕ). 0 < occurrences j fs) u z,
      ) in
      let i≢n : i ≢ n = λ u. omega (arith, chain-once I r b n, n_chain, free_times n, subst (λ (j : ℕ). 0 < occurrences j fs) u z) in
      let a = I.free_alone i (omega (arith, z, free_times i)) in
      (link_part sl n f y (λ v. v.older) (λ v k. refl) i i≢f ∙ a.0, link_newer_other sl n f y i i≢f i≢n ∙ a.1)

  pub link_kept : Kept start now linked_store h o
  unfolding occurrences
  link_kept =
      record {
        olds = olds';
        p = p;
        inv =
            record {
              workers_length = length-set s.workers w y' ∙ I.workers_length;
              newest_length = length-set s.newest r f ∙ I.newest_length;
              slots_length = link_length sl n f y ∙ I.slots_length;
              olds_length = length-set olds r (n ∷ old x r) ∙ I.olds_length;
              marks_length = I.marks_length;
              slots_few = I.slots_few;
              clock_fits = I.clock_fits;
              free_alone = alone;
              once = λ c. omega (arith, I.once c, pends c, free_times c, times_set s.newest r f c (omega (arith, I.newest_length)));
              pending_old =
                  λ c. omega (arith, I.pending_old c, pends c, sum_by-set (occurrences c) olds r (n ∷ old x r) [] (omega (arith, I.olds_length)));
              linked = linked;
              stamps = fine;
              queue = All-queue s.queue (λ ρ z. good ρ (pend-f ρ.slot (omega (arith, z)))) I.queue;
              workers =
                  λ v vb. ⊎_elim (λ u. subst (λ (i : ℕ). Works x' h o p i (worker_at linked_store i)) (sym u.0)
                  (subst (Works x' h o p w) (sym at_own) own)) (λ u. subst (Works x' h o p v) (sym (at_other v u.0)) (other v vb u.0))
                  (eq_cases v w);
              marks =
                  λ m z. ⊎_elim inl (λ u. inr (u.0, u.1, u.2, λ q d. sees (mark_at s m) (u.1 q) q d u.0 (u.3 q d))) (I.marks m z);
              stamper = λ q d z.
                  ⊎_elim
                  (λ u. subst (λ (j : ℕ). (v : ℕ) × (v < s.site.P) × (c : ℕ) × ((worker_at linked_store v).doing ≡ PutStamp j c)
                  × ((nth sl' c).high ≡ absent)) (sym u.0)
                  (w, wb, n, ap (λ (i : Worker). i.doing) at_own, highs n n≢f ∙ (I.stamps r b).0))
                  (λ u.
                  let k : (nth sl (top x q)).low ≡ absent = sym (lows (top x q) (chain-f q d (top x q) (omega (arith, hit_same (top x q)))))
                  ∙ ap (λ (j : ℕ). (nth sl' j).low) (sym (top-other q u.0)) ∙ z in
                  let a = I.stamper q d k in
                  let g = subst (PlaceHolds x p a.0 (worker_at s a.0).announced) a.3 (I.workers a.0 a.1).doing in (
                    a.0,
                    a.1,
                    a.2,
                    ap (λ (i : Worker). i.doing) (at_other a.0 (λ m. apart a.2 q (sym a.3 ∙ ap (λ (j : ℕ). (worker_at s j).doing) m ∙ e)))
                        ∙ a.3,
                    highs a.2 (chain-f q d a.2 (omega (arith, g.2))) ∙ a.4,
                  ))
                  (eq_cases q r);
              outside = I.outside;
              linear = lin_skip I.linear;
              rows_fit = I.rows_fit;
            };
      }
    where
      apart : (c q : ℕ) → PutStamp q c ≡ PutPublish r y → ⊥
      apart c q z = let k : ◌≡◌ {A = ℕ} 0 1 = cc in omega arith
