-- A step that changes one worker's record, and perhaps the queue or a mark, and no slot, keeps the invariant.
use mathlib.Core.Path.{◌≡◌, refl, sym, ap, ◌∙◌, subst}
use mathlib.Core.Bool.{true, false}
use mathlib.Core.Logic.{◌≢◌, ◌⊎◌, inl, inr, ⊎_elim}
use mathlib.Core.List.{List}
use Prim.Native.Nat.{ℕ, ◌+◌, ◌-◌, ◌≤◌, ◌<◌}
use native.Mathlib.Omega.{arith}
use lib.Dec.{ltb}
use lib.ListN.{length, get_or, set, length-set}
use lib.Seq.{get_or-set_same, get_or-set_other}
use Rattle.model.specs.Store.{absent, mark_count, Content, Range, Purpose, Single, Marked, Totaling, Goal, PutStamp, ReadStand}
use Rattle.model.specs.Store.{Worker, start_worker, Store, worker_at, mark_at, with_queue, with_marks, with_worker}
use Rattle.model.specs.Record.{Operation}
use Rattle.model.specs.Demand.{Call, Plain, occurrences, All, call_at}
use Rattle.model.specs.Reached.{sum_by}
use Rattle.model.proofs.Basic.{eq_cases, lt_cases}
use Rattle.theorem.proofs.Slots.{nth}
use Rattle.theorem.proofs.Chain.{Fine}
use Rattle.theorem.proofs.Count.{cnt, sum_by-set}
use Rattle.theorem.proofs.Invariant.{Ctx, ctx, chain, pend_w, pend, Good, MarkHolds, time_in, copy_for, Fits, Works, Inv, held-worker}
use Rattle.theorem.proofs.Transport.{Came, stays, Moves, same_copy, doing_map, fits_map, current_map}
use Rattle.theorem.proofs.History.{Hist}

module _ {start : ℕ → Content} (now : ℕ) (s : Store) (olds : List (List ℕ)) (h : List Call) (o : List ℕ) (p : Plain) (I : Inv start now s olds h o p) (w : ℕ)
    (wb : w < s.site.P)
    (y : Worker) (q : List (List Range)) (ms : List ℕ) where
  abbrev pub after : Store
  after = with_marks (with_queue (with_worker s w y) q) ms

  abbrev x : Ctx
  x = ctx s olds

  abbrev x' : Ctx
  x' = ctx after olds

  pub at_own : worker_at after w ≡ y
  at_own = get_or-set_same s.workers w y start_worker (omega (arith, I.workers_length))

  pub at_other : (v : ℕ) → v ≢ w → worker_at after v ≡ worker_at s v
  at_other v n = get_or-set_other s.workers w v y start_worker n

  -- the worker's time is as it was, or gone, or new, and a mark's likewise, or one that a worker had
  pub after-times : (y.announced ≡ (worker_at s w).announced) ⊎ ((y.announced ≡ absent) ⊎ (s.clock ≤ y.announced))
      → ((m : ℕ) → (get_or ms m absent ≡ mark_at s m)
      ⊎ ((get_or ms m absent ≡ absent) ⊎ ((u : ℕ) × (u < s.site.P) × (get_or ms m absent ≡ (worker_at s u).announced))))
      → (v : ℕ) → Came x x' v
  after-times t f v = ⊎_elim (λ b. worker b.1) (λ b. mark b.0 b.1) (lt_cases v s.site.P)
    where
      worker : ltb v s.site.P ≡ true → Came x x' v
      worker b =
          let now-is : x'.held v ≡ (worker_at after v).announced = rw b in
          let was : x.held v ≡ (worker_at s v).announced = rw b in
          ⊎_elim
          (λ u.
          let e : x'.held v ≡ y.announced = now-is ∙ ap (λ (i : ℕ). (worker_at after i).announced) u.0 ∙ ap (λ (z : Worker). z.announced) at_own in
          ⊎_elim (λ z. stays x x' v (e ∙ z ∙ ap (λ (i : ℕ). (worker_at s i).announced) (sym u.0) ∙ sym was))
          (⊎_elim (λ z. inr (inl (e ∙ z))) (λ z. inr (inr (omega (arith, e, z))))) t)
          (λ u. stays x x' v (now-is ∙ ap (λ (z : Worker). z.announced) (at_other v u.0) ∙ sym was))
          (eq_cases v w)

      mark : s.site.P ≤ v → ltb v s.site.P ≡ false → Came x x' v
      mark le b =
          let m = v - s.site.P in
          let now-is : x'.held v ≡ get_or ms m absent = rw b in
          let was : x.held v ≡ mark_at s m = rw b in
          ⊎_elim (λ z. stays x x' v (now-is ∙ z ∙ sym was))
          (⊎_elim (λ z. inr (inl (now-is ∙ z)))
          (λ z. inl (z.0, omega (arith, z.1, le), now-is ∙ z.2 ∙ sym (held-worker s z.0 z.1))))
          (f m)

  module _ (now' : ℕ) (h' : List Call) (o' : List ℕ) (p' : Plain) where
    -- the marks too
    pub marked-inv :
        ((c : ℕ) → pend_w c y + sum_by (cnt c) q ≡ pend_w c (worker_at s w) + sum_by (cnt c) s.queue)
        → All (All (Good x)) q
        → ((v : ℕ) → Came x x' v)
        → ((r c : ℕ) → (worker_at s w).doing ≡ PutStamp r c → (nth s.slots c).high ≡ absent → ⊥)
        → Hist s.site.rows start now' w h o p h' o' p'
        → length ms ≡ mark_count
        → ((m : ℕ) → m < mark_count → MarkHolds x' p' m)
        → ((v : ℕ) → v < s.site.P → v ≢ w → (g : Goal) (c : ℕ) → (worker_at s v).doing ≡ ReadStand g c
        → (time_in x' (worker_at s v).announced g.purpose ≡ time_in x (worker_at s v).announced g.purpose)
        × (copy_for p' v g.purpose ≡ copy_for p v g.purpose))
        → Works x' h' o' p' w y
        → Inv start now' after olds h' o' p'
    marked-inv pe gq came nc H lm mk rd own =
        record {
          workers_length = length-set s.workers w y ∙ I.workers_length;
          newest_length = I.newest_length;
          slots_length = I.slots_length;
          olds_length = I.olds_length;
          marks_length = lm;
          slots_few = I.slots_few;
          clock_fits = I.clock_fits;
          free_alone = I.free_alone;
          once = λ c. omega (arith, I.once c, same c);
          pending_old = λ c. omega (arith, I.pending_old c, same c);
          linked = I.linked;
          stamps = λ r b. subst (λ (z : Content). Fine s.slots s.clock z (chain x r)) (sym (H.registers r)) (I.stamps r b);
          queue = gq;
          workers =
              λ v vb. ⊎_elim (λ u. subst (λ (i : ℕ). Works x' h' o' p' i (worker_at after i)) (sym u.0)
              (subst (Works x' h' o' p' w) (sym at_own) own)) (λ u. subst (Works x' h' o' p' v) (sym (at_other v u.0)) (other v vb u.0))
              (eq_cases v w);
          marks = mk;
          stamper = λ r b e.
              let a = I.stamper r b e in (
                a.0,
                a.1,
                a.2,
                ap (λ (z : Worker). z.doing) (at_other a.0 (λ n. nc r a.2 (ap (λ (i : ℕ). (worker_at s i).doing) (sym n) ∙ a.3) a.4)) ∙ a.3,
                a.4,
              );
          outside = λ v b. H.shut v (λ z. omega (arith, b, z, wb)) (I.outside v b);
          linear = H.linear;
          rows_fit = I.rows_fit;
        }
      where
        same : (c : ℕ) → pend c (set s.workers w y) q ≡ pend c s.workers s.queue
        same c = omega (arith, pe c, sum_by-set (pend_w c) s.workers w y start_worker (omega (arith, I.workers_length)))

        other : (v : ℕ) → v < s.site.P → v ≢ w → Works x' h' o' p' v (worker_at s v)
        other v vb n =
            record {
              pool = Z.pool;
              announced = Z.announced;
              snapshot = λ z. let a = Z.snapshot z in (a.0, H.copy v n ∙ a.1, a.2);
              doing =
                  doing_map x x' p p' v (worker_at s v).announced (H.copy v n) (worker_at s v).doing
                  (λ g c e. (rd v vb n g c e).1) moves Z.doing;
              current =
                  current_map x x' h h' o o' v (worker_at s v).announced (worker_at s v).announced (worker_at s v).doing (H.shut v n)
                  (λ k K f.
                  let a = H.running v n k K in (
                    a.0,
                    subst (λ (c : Operation). Fits x' (worker_at s v).announced c (worker_at s v).doing (occurrences k o')) (sym a.1)
                        (fits_map x x' refl (worker_at s v).announced (call_at h k).operation (occurrences k o) (occurrences k o') a.2
                        (worker_at s v).doing (λ r e z. ((λ u. (u, refl)), (λ u. u))) f),
                  ))
                  Z.current;
            }
          where
            Z : Works x h o p v (worker_at s v)
            Z = I.workers v vb

            moves : Moves x x' (worker_at s v).announced (worker_at s v).doing
            moves =
                record {
                  tick = omega arith;
                  reg = λ r z. z;
                  nhd = refl;
                  same_rows = refl;
                  good = λ ρ z g. g;
                  times' = λ v z. came v;
                  mem = λ r i z u v. v;
                  highs = λ i z u. u;
                  source = λ g c e. (rd v vb n g c e).0;
                  on = λ g i u a r b e z. z;
                }

-- the marks stay, and the copies under them
module _ {start : ℕ → Content} (now : ℕ) (s : Store) (olds : List (List ℕ)) (h : List Call) (o : List ℕ) (p : Plain) (I : Inv start now s olds h o p) (w : ℕ)
    (wb : w < s.site.P)
    (y : Worker) (q : List (List Range)) where
  abbrev z : Ctx
  z = ctx s olds

  abbrev z' : Ctx
  z' = ctx (with_queue (with_worker s w y) q) olds

  pub came : (y.announced ≡ (worker_at s w).announced) ⊎ ((y.announced ≡ absent) ⊎ (s.clock ≤ y.announced)) → (v : ℕ) → Came z z' v
  came t = after-times now s olds h o p I w wb y q s.marks t (λ m. inl refl)

  same_time : (t : ℕ) (a : Purpose) → time_in z' t a ≡ time_in z t a
  same_time t Single = refl
  same_time t (Marked m) = refl
  same_time t (Totaling g i b) = refl

  module _ (now' : ℕ) (h' : List Call) (o' : List ℕ) (p' : Plain) where
    pub work-inv :
        ((c : ℕ) → pend_w c y + sum_by (cnt c) q ≡ pend_w c (worker_at s w) + sum_by (cnt c) s.queue)
        → All (All (Good z)) q
        → (y.announced ≡ (worker_at s w).announced) ⊎ ((y.announced ≡ absent) ⊎ (s.clock ≤ y.announced))
        → ((r c : ℕ) → (worker_at s w).doing ≡ PutStamp r c → (nth s.slots c).high ≡ absent → ⊥)
        → Hist s.site.rows start now' w h o p h' o' p'
        → ((m : ℕ) → p'.kept m ≡ p.kept m)
        → Works z' h' o' p' w y
        → Inv start now' (with_queue (with_worker s w y) q) olds h' o' p'
    work-inv pe gq ti nc H kp own =
        marked-inv now s olds h o p I w wb y q s.marks now' h' o' p' pe gq (came ti) nc H I.marks_length
        (λ m b. ⊎_elim (λ u. inl (u.0, kp m ∙ u.1)) (λ u. inr (u.0, u.1, kp m ∙ u.2, u.3)) (I.marks m b))
        (λ v vb n g c e. (same_time (worker_at s v).announced g.purpose, same_copy p p' v (H.copy v n) kp g.purpose))
        own
