-- The steps that change one worker's record, and perhaps the queue, and no slot.
use mathlib.Core.Path.{◌≡◌, refl, sym, ap, ◌∙◌, subst}
use mathlib.Core.Bool.{Bool, true, false, not, ◌&&◌, true≢false}
use mathlib.Core.Logic.{◌≢◌, inl, inr, ⊎_elim}
use mathlib.Core.List.{List, [], ◌∷◌, ◌++◌, map, append-nil}
use mathlib.Core.Option.{Option, some}
use Prim.Native.Nat.{ℕ, ◌+◌, ◌-◌, ◌≤◌, ◌<◌}
use native.Mathlib.Omega.{arith}
use native.Mathlib.Nat.{not-suc-le-zero}
use lib.Dec.{ltb, leb}
use lib.ListN.{length, get_or, take, drop, length-append}
use borrow.Author.Tests as Tests
use Rattle.model.specs.Store.{absent, Reading, Content, Slot, Range, mark_count, OpenAnnounce, OpenPass, CloseWithdraw, MarkKeep, MarkRelease, count_of}
use Rattle.model.specs.Store.{Single, Marked, Totaling, Goal, Doing, Idle, PutPublish, PutStamp, PutHandIn, FlushTake}
use Rattle.model.specs.Store.{FlushRead, FlushFree, OnTime, ReadEnter, ReadStand, GetShow, Worker, Store, worker_at, slot_at, newest_of}
use Rattle.model.specs.Store.{holders, held, range_of, with_queue, with_worker, with_doing, place}
use Rattle.model.specs.Marks.{mark_of}
use Rattle.model.specs.About.{Effect, NoEffect, ByStamp, ByClock, about}
use Rattle.model.specs.Answer.{Answer, Done, No}
use Rattle.model.specs.Ranges.{needed, filter, merge, first_two, needed_pools, joining, queued_pool}
use Rattle.model.specs.Totals.{group_of, sign_of, register_of, row_at, of_group, first_of, goes_on, Sum, sum₀}
use Rattle.model.specs.Sums.{add_row}
use Rattle.model.specs.Rules.{twelve_digits}
use Rattle.model.specs.Steps.{read_times, answer_for, signed, goal_at}
use Rattle.model.specs.Record.{Operation, Put, Open, Read, Close, Get, Collect, Total, Mark, Release, MarkedRead}
use Rattle.model.specs.Apply.{terms, named_below, group_there, may_open, may_use_time}
use Rattle.model.specs.Demand.{Ending, Unfinished, FinishedAt, Call, end_for, Plain, feed, in_copy, sum_over, shows, at_end, end_effects}
use Rattle.model.specs.Demand.{occurrences, All, Stands, AgreesIf, Agrees, call_at}
use Rattle.model.specs.Reached.{sum_by}
use Rattle.model.proofs.Basic.{and_both, eq_cases, lt_cases, All-append, All-get, All-map, All-take, All-drop}
use Rattle.model.proofs.Basic.{occurrences-append, occurrences-at}
use Rattle.model.proofs.Totals.{own_next, first_none, first_own, sum-next, sum-grows, row_fits_lem, last_own, goes, goes_not}
use Rattle.theorem.proofs.Found.{Tells, answer_for-tells, signed-tells, tells_finishes, tells_end}
use Rattle.theorem.proofs.Linear.{agrees_refused}
use Rattle.theorem.proofs.Slots.{nth}
use Rattle.theorem.proofs.Chain.{On-found, On-on, Fine, Past}
use Rattle.theorem.proofs.Count.{cnt, sum_by-append, cnt-append, cnt-merge, cnt-split, cnt-queued, cnt-first_two, cnt-sent, All-merge}
use Rattle.theorem.proofs.Count.{All-keep, first_two-has, pools_have, joining-has, queued_has, All-kept, not_needed}
use Rattle.theorem.proofs.Invariant.{Ctx, ctx, old, chain, in_doing, pend_w, Good, Settled, Asked, Spared, time_in, copy_for}
use Rattle.theorem.proofs.Invariant.{Sourced, Summed, PlaceHolds, Running, NoneRunning, IsPut, Serves, Fits, Busy, Current, Works, Inv}
use Rattle.theorem.proofs.Invariant.{held_same}
use Rattle.theorem.proofs.Effect.{own_not, own_is}
use Rattle.theorem.proofs.Transport.{Came, asked, asked_of, spared, sourced_settled}
use Rattle.theorem.proofs.Stamp.{put-at_other, next-open, next_low, next-high}
use Rattle.theorem.proofs.History.{Hist, hist_skip, hist-begin, begin-running, begin-call, begin-not, hist-end, hist-show, end-shut}
use Rattle.theorem.proofs.Looks.{Looks, looks_read, looks_marked, looks_total}
use Rattle.theorem.proofs.ReadTimes.{Reads, reads}
use Rattle.theorem.proofs.Work.{at_own, at_other, work-inv, came}

-- the invariant after a record
pub record Kept (start : ℕ → Content) (now : ℕ) (s : Store) (h : List Call) (o : List ℕ) : Type 0 where
  pub olds : List (List ℕ)
  pub p : Plain
  pub inv : Inv start (now + 1) s olds h o p

-- with what the order's definition adds
pub none_more : {start : ℕ → Content} {now : ℕ} {s : Store} {h : List Call} (o e : List ℕ) → e ≡ [] → Kept start now s h o → Kept start now s h (o ++ e)
none_more {start} {now} {s} {h} o e z K = subst (λ (q : List ℕ). Kept start now s h (o ++ q)) (sym z) (subst (Kept start now s h) (sym (append-nil o)) K)

pub one_more_lem : {start : ℕ → Content} {now : ℕ} {s : Store} {h : List Call} (o e : List ℕ) (k : ℕ) → e ≡ k ∷ [] → Kept start now s h (o ++ (k ∷ [])) → Kept start now s h (o ++ e)
one_more_lem {start} {now} {s} {h} o e k z K = subst (λ (q : List ℕ). Kept start now s h (o ++ q)) (sym z) K

pub fine_low : (s : List Slot) (t : ℕ) (x : Content) (n c : ℕ) (l : List ℕ) → Fine s t x (n ∷ l) → 0 < occurrences c l → (nth s c).low ≤ t
fine_low s t x n c l f z = ⊎_elim (λ u. (All-get (Past s t) l u.2 c z).0) (λ u. next_low s t x c l u.1 z) f.1

pub fine_high : (s : List Slot) (t : ℕ) (x : Content) (n c : ℕ) (l : List ℕ) → Fine s t x (n ∷ l) → 0 < occurrences c l → (nth s c).high ≢ absent
    → (nth s c).high ≤ t
fine_high s t x n c l f z e =
    ⊎_elim (λ u. (All-get (Past s t) l u.2 c z).1)
    (λ u. next-high s t x c l u.1 z (λ v. e (ap (λ (i : ℕ). (nth s i).high) (sym v) ∙ next-open s t x l u.1))) f.1

some_inj : {f g : ℕ → Content} → some f ≡ some g → f ≡ g
some_inj e = cc

module _ {start : ℕ → Content} (now : ℕ) (s : Store) (olds : List (List ℕ)) (h : List Call) (o : List ℕ) (p : Plain) (I : Inv start now s olds h o p) (w : ℕ)
    (wb : w < s.site.P) where
  abbrev x : Ctx
  x = ctx s olds

  abbrev t : ℕ
  t = (worker_at s w).announced

  abbrev to : Doing → Store
  to d = place s w d

  pub doing_is : (d : Doing) → (worker_at s w).doing ≡ d → PlaceHolds x p w t d
  doing_is d e = subst (PlaceHolds x p w t) e (I.workers w wb).doing

  pub cur_is : (d : Doing) → (worker_at s w).doing ≡ d → Current x h o w t d
  cur_is d e = subst (Current x h o w t) e (I.workers w wb).current

  -- no put of w waits for its stamp
  abbrev Calm : Type 0
  Calm = (r c : ℕ) → (worker_at s w).doing ≡ PutStamp r c → (nth s.slots c).high ≡ absent → ⊥

  -- the worker goes on to place d, its time and its pool as before
  pub place-inv : (d d' : Doing) → (worker_at s w).doing ≡ d → ((c : ℕ) → in_doing c d' ≡ in_doing c d) → Calm
      → (h' : List Call) (o' : List ℕ) (p' : Plain) → Hist s.site.rows start (now + 1) w h o p h' o' p' → p'.copy w ≡ p.copy w
      → ((m : ℕ) → p'.kept m ≡ p.kept m)
      → PlaceHolds (ctx (to d') olds) p' w t d' → Current (ctx (to d') olds) h' o' w t d' → Kept start now (to d') h' o'
  place-inv d d' e m nc h' o' p' H cp kp dk ck =
      record {
        olds = olds;
        p = p';
        inv =
            work-inv now s olds h o p I w wb (with_doing (worker_at s w) d') s.queue (now + 1) h' o' p'
            (λ c. omega (arith, m c, ap (in_doing c) e)) I.queue (inl refl) nc H kp
            (record {
              pool = Z.pool;
              announced = Z.announced;
              snapshot = λ z. let a = Z.snapshot z in (a.0, cp ∙ a.1, a.2);
              doing = dk;
              current = ck;
            });
      }
    where
      Z : Works x h o p w (worker_at s w)
      Z = I.workers w wb

  -- no put before its second step
  abbrev Unstamping : Effect → Type 0
  Unstamping NoEffect = Unit {0}
  Unstamping (ByStamp c) = ⊥
  Unstamping ByClock = Unit {0}

  abbrev pub Plainly : Doing → Type 0
  Plainly d = Unstamping (about d).effect

  pub calm : (d : Doing) → Plainly d → (worker_at s w).doing ≡ d → Calm
  calm d a e r c z y = subst Plainly (sym e ∙ z) a

  skip : Hist s.site.rows start (now + 1) w h o p h o p
  skip = hist_skip now w h o p I.linear

  ------------------------------------------------------------------------
  -- A begin

  has-time : ltb t absent ≡ true → Settled x t → t < s.clock
  has-time e = ⊎_elim (λ u. absurd (omega (arith, u, Tests.ltb-true t absent e))) (λ u. u)

  abbrev rows : List ℕ
  rows = s.site.rows

  register_fits : (i : ℕ) → i < length rows → register_of (row_at rows i) < s.site.V'
  register_fits i b =
      let row = row_at rows i in
      Tests.ltb-true (register_of row) s.site.V'
      (and_both (leb (group_of row) 31 && leb (sign_of row) 1) _ (row_fits_lem s.site.V' 0 0 rows I.rows_fit i b)).1

  none_yet : (f : ℕ → Content) (g : ℕ) → sum₀ ≡ sum_over f (of_group g (take (first_of g rows) rows))
  unfolding sum_over
  none_yet f g = ap (sum_over f) (sym (first_none g rows))

  pub begin-kept : (c : Operation) → (worker_at s w).doing ≡ Idle
      → (named_below s.site.V' (terms rows c).register && named_below mark_count (mark_of (terms rows c).mark)) ≡ true
      → group_there rows (terms rows c).group ≡ true
      → may_open (terms rows c).time (ltb t absent) ≡ true → may_use_time (terms rows c).time (ltb t absent) ≡ true
      → Kept start now (place s w (terms rows c).first) (h ++ (record { operation = c; worker = w; begun = now; ending = Unfinished } ∷ [])) o
  begin-kept c e named gr fresh has =
      let n = and_both (named_below s.site.V' (terms rows c).register) _ named in
      go c n.0 n.1 gr (ltb t absent) refl fresh has
    where
      st : Settled x t
      st = doing_is Idle e

      no-open : NoneRunning h w
      no-open = cur_is Idle e

      begun : (c : Operation) (d : Doing) → ((i : ℕ) → in_doing i d ≡ 0) → PlaceHolds (ctx (to d) olds) p w t d
          → (Busy (ctx (to d) olds) (h ++ (record { operation = c; worker = w; begun = now; ending = Unfinished } ∷ [])) o w t d
          → Current (ctx (to d) olds) (h ++ (record { operation = c; worker = w; begun = now; ending = Unfinished } ∷ [])) o w t d)
          → Fits (ctx (to d) olds) t c d 0
          → Kept start now (to d) (h ++ (record { operation = c; worker = w; begun = now; ending = Unfinished } ∷ [])) o
      begun c d m dk f ft =
          place-inv Idle d e m (calm Idle tt e) _ o p (hist-begin now w h o p I.linear c) refl (λ i. refl) dk
          (f (
            length h,
            begin-running now w h o p I.linear c no-open,
            subst (λ (q : Operation). Fits (ctx (to d) olds) t q d (occurrences (length h) o)) (sym (begin-call now w h o p I.linear c))
                (subst (Fits (ctx (to d) olds) t c d) (sym (begin-not now w h o p I.linear c)) ft),
          ))

      -- a total at the first row of its group
      at_first : (g : ℕ) → first_of g rows < length rows → t < s.clock
          → PlaceHolds (ctx (to (ReadEnter (goal_at rows g (first_of g rows) sum₀))) olds) p w t (ReadEnter (goal_at rows g (first_of g rows) sum₀))
      at_first g b k =
          let f = (I.workers w wb).snapshot k in (
            register_fits (first_of g rows) b,
            k,
            (b, refl, first_own g rows b, omega arith, (f.0, f.1, none_yet f.0 g)),
          )

      go : (c : Operation) → named_below s.site.V' (terms rows c).register ≡ true
          → named_below mark_count (mark_of (terms rows c).mark) ≡ true → group_there rows (terms rows c).group ≡ true
          → (b : Bool) → ltb t absent ≡ b → may_open (terms rows c).time b ≡ true → may_use_time (terms rows c).time b ≡ true
          → Kept start now (place s w (terms rows c).first) (h ++ (record { operation = c; worker = w; begun = now; ending = Unfinished } ∷ [])) o
      go (Put r y) rg mk gr b eb fresh has = begun (Put r y) (PutPublish r y) (λ i. refl) (Tests.ltb-true r s.site.V' rg, st) (λ a. a) (refl, refl)
      go Open rg mk gr true eb fresh has = absurd (true≢false (sym fresh))
      go Open rg mk gr false eb fresh has =
          begun Open (OnTime OpenAnnounce) (λ i. refl)
          (⊎_elim (λ u. u) (λ u. absurd (omega (arith, u, I.clock_fits, Tests.ltb-false t absent eb))) st)
          (λ a. a) (refl, refl)
      go (Read r) rg mk gr true eb fresh has =
          begun (Read r) (ReadEnter (record { register = r; purpose = Single })) (λ i. refl)
          (Tests.ltb-true r s.site.V' rg, has-time eb st, tt) (λ a. a) (refl, refl)
      go (Read r) rg mk gr false eb fresh has = absurd (true≢false (sym has))
      go Close rg mk gr true eb fresh has = begun Close (OnTime CloseWithdraw) (λ i. refl) (has-time eb st) (λ a. a) (refl, refl)
      go Close rg mk gr false eb fresh has = absurd (true≢false (sym has))
      go (Get r) rg mk gr b eb fresh has = begun (Get r) (GetShow r) (λ i. refl) (Tests.ltb-true r s.site.V' rg, st) (λ a. a) (refl, refl)
      go Collect rg mk gr b eb fresh has = begun Collect FlushTake (λ i. refl) st (λ a. a) (inr (refl, refl))
      go (Total g) rg mk gr true eb fresh has =
          begun (Total g) (ReadEnter (goal_at rows g (first_of g rows) sum₀)) (λ i. refl)
          (at_first g (Tests.ltb-true (first_of g rows) (length rows) gr) (has-time eb st)) (λ a. a) (refl, refl)
      go (Total g) rg mk gr false eb fresh has = absurd (true≢false (sym has))
      go (Mark m) rg mk gr true eb fresh has =
          begun (Mark m) (OnTime (MarkKeep m)) (λ i. refl) (Tests.ltb-true m mark_count mk, has-time eb st) (λ a. a) (refl, refl)
      go (Mark m) rg mk gr false eb fresh has = absurd (true≢false (sym has))
      go (Release m) rg mk gr b eb fresh has =
          begun (Release m) (OnTime (MarkRelease m)) (λ i. refl) (Tests.ltb-true m mark_count mk, st) (λ a. a) (refl, refl)
      go (MarkedRead r m) rg mk gr b eb fresh has =
          begun (MarkedRead r m) (ReadEnter (record { register = r; purpose = Marked m })) (λ i. refl)
          (Tests.ltb-true r s.site.V' rg, (Tests.ltb-true m mark_count mk, st), tt) (λ a. a) (refl, refl)

  ------------------------------------------------------------------------
  -- Ends

  -- the operation is refused, and nothing else changes
  pub refuse-kept : (k : ℕ) (d : Doing) → (worker_at s w).doing ≡ d → Plainly d → ((c : ℕ) → in_doing c d ≡ 0) → Settled x t
      → ((j : ℕ) × Running h w j × (occurrences j o ≡ 0)) → Kept start now (to Idle) (map (end_for now w (No k)) h) o
  refuse-kept k d e pl m st a =
      place-inv d Idle e (λ c. sym (m c)) (calm d pl e) _ o p
      (hist-end now w h o p I.linear (No k) a.0 a.1 a.2 (agrees_refused (call_at h a.0).operation now))
      refl (λ i. refl) st (end-shut now w h o p I.linear (No k) a.0 a.1)

  pub refuse-put : (r : ℕ) (y : Reading) → (worker_at s w).doing ≡ PutPublish r y → Kept start now (to Idle) (map (end_for now w (No 14)) h) o
  refuse-put r y e =
      let a = cur_is (PutPublish r y) e in
      refuse-kept 14 (PutPublish r y) e tt (λ c. refl) (doing_is (PutPublish r y) e).1 (a.0, a.1, a.2.1)

  pub refuse-open : (worker_at s w).doing ≡ OnTime OpenAnnounce → Kept start now (to Idle) (map (end_for now w (No 15)) h) o
  refuse-open e =
      let a = cur_is (OnTime OpenAnnounce) e in refuse-kept 15 (OnTime OpenAnnounce) e tt (λ c. refl) (inl (doing_is (OnTime OpenAnnounce) e))
      (a.0, a.1, a.2.1)

  -- a put or a collect is done
  put-agrees : (c : Operation) → IsPut c → (e : Ending) (q : Option Answer) → Agrees c e q
  put-agrees c i e q = subst (λ (z : Operation). Agrees z e q) (sym i.2) tt

  -- what a flush ends with: nothing is left to free
  pub flush_done : (worker_at s w).doing ≡ FlushFree [] → Kept start now (to Idle) (map (end_for now w Done) h) (o ++ end_effects h w Done)
  unfolding cnt feed at_end
  flush_done e = ⊎_elim for-put for-collect a.2
    where
      a : Busy x h o w t (FlushFree [])
      a = cur_is (FlushFree []) e

      for-put : IsPut (call_at h a.0).operation × (occurrences a.0 o ≡ 1)
          → Kept start now (to Idle) (map (end_for now w Done) h) (o ++ end_effects h w Done)
      for-put u =
          none_more o (end_effects h w Done) (own_not a.1 Done (ap at_end u.0.2))
          (place-inv (FlushFree []) Idle e (λ c. refl) (calm (FlushFree []) tt e) _ o p
          (hist-end now w h o p I.linear Done a.0 a.1 u.1 (put-agrees (call_at h a.0).operation u.0 (FinishedAt now Done)))
          refl (λ i. refl) (doing_is (FlushFree []) e).0 (end-shut now w h o p I.linear Done a.0 a.1))

      for-collect : ((call_at h a.0).operation ≡ Collect) × (occurrences a.0 o ≡ 0)
          → Kept start now (to Idle) (map (end_for now w Done) h) (o ++ end_effects h w Done)
      for-collect u =
          one_more_lem o (end_effects h w Done) a.0 (own_is a.1 Done refl (ap at_end u.0))
          (place-inv (FlushFree []) Idle e (λ c. refl) (calm (FlushFree []) tt e) _ (o ++ (a.0 ∷ [])) (feed p w (call_at h a.0).operation)
          (hist-show now w h o p I.linear Done a.0 a.1 u.1 refl
          (subst (λ (z : Operation). Agrees z (FinishedAt now Done) (shows rows p w z)) (sym u.0) tt)
          (λ r. rw u.0) (λ v n. rw u.0))
          (rw u.0) (λ i. rw u.0) (doing_is (FlushFree []) e).0 (end-shut now w h o p I.linear Done a.0 a.1))

  ------------------------------------------------------------------------
  -- The hand-in

  module _ (r c : ℕ) (e : (worker_at s w).doing ≡ PutHandIn r c) where
    abbrev pool⁺ : List Range
    pool⁺ = (worker_at s w).pool ++ (range_of s c ∷ [])

    good⁺ : All (Good x) pool⁺
    unfolding range_of
    good⁺ =
        let d = doing_is (PutHandIn r c) e in
        All-append (Good x) (worker_at s w).pool (range_of s c ∷ []) (I.workers w wb).pool
        ((refl, refl, d.3, fine_low s.slots s.clock (p.registers r) (newest_of s r) c (old x r) (I.stamps r d.0) d.2), tt)

    pend⁺ : (d : Doing) → ((i : ℕ) → in_doing i d ≡ 0) → (i : ℕ)
        → in_doing i d + cnt i pool⁺ + sum_by (cnt i) s.queue ≡ pend_w i (worker_at s w) + sum_by (cnt i) s.queue
    unfolding range_of cnt
    pend⁺ d m i = omega (arith, m i, cnt-append i (worker_at s w).pool (range_of s c ∷ []), ap (in_doing i) e)

    pub hand-done : Kept start now (with_worker s w (record { doing = Idle; announced = t; pool = pool⁺ })) (map (end_for now w Done) h)
        (o ++ end_effects h w Done)
    unfolding at_end
    hand-done =
        let a = cur_is (PutHandIn r c) e in
        none_more o (end_effects h w Done) (own_not a.1 Done (ap at_end a.2.0.2)) (record {
          olds = olds;
          p = p;
          inv =
              work-inv now s olds h o p I w wb (record { doing = Idle; announced = t; pool = pool⁺ }) s.queue (now + 1) _ o p
              (pend⁺ Idle (λ i. refl)) I.queue (inl refl) (calm (PutHandIn r c) tt e)
              (hist-end now w h o p I.linear Done a.0 a.1 a.2.1
              (put-agrees (call_at h a.0).operation a.2.0 (FinishedAt now Done)))
              (λ i. refl)
              (record {
                pool = good⁺;
                announced = (I.workers w wb).announced;
                snapshot = (I.workers w wb).snapshot;
                doing = (doing_is (PutHandIn r c) e).1;
                current = end-shut now w h o p I.linear Done a.0 a.1;
              });
        })

    pub hand-full : Kept start now (with_worker s w (record { doing = FlushTake; announced = t; pool = pool⁺ })) h o
    hand-full =
        let a = cur_is (PutHandIn r c) e in
        record {
          olds = olds;
          p = p;
          inv =
              work-inv now s olds h o p I w wb (record { doing = FlushTake; announced = t; pool = pool⁺ }) s.queue (now + 1) h o p
              (pend⁺ FlushTake (λ i. refl)) I.queue (inl refl) (calm (PutHandIn r c) tt e) skip (λ i. refl)
              (record {
                pool = good⁺;
                announced = (I.workers w wb).announced;
                snapshot = (I.workers w wb).snapshot;
                doing = (doing_is (PutHandIn r c) e).1;
                current = (a.0, a.1, inl (a.2.0, a.2.1));
              });
        }

  ------------------------------------------------------------------------
  -- The flush

  pub take-kept : (worker_at s w).doing ≡ FlushTake → Kept start now (with_queue (to (FlushRead (first_two s.queue) [])) (drop 2 s.queue)) h o
  take-kept e =
      let a = cur_is FlushTake e in
      let good : All (Good x) (first_two s.queue) = first_two-has (All (Good x)) tt (All-merge (Good x)) s.queue I.queue in
      record {
        olds = olds;
        p = p;
        inv =
            work-inv now s olds h o p I w wb (with_doing (worker_at s w) (FlushRead (first_two s.queue) [])) (drop 2 s.queue) (now + 1) h o p
            (λ c. omega (arith, cnt-first_two c s.queue, ap (in_doing c) e)) (All-drop (All (Good x)) 2 s.queue I.queue)
            (inl refl) (calm FlushTake tt e) skip (λ i. refl)
            (record {
              pool = (I.workers w wb).pool;
              announced = (I.workers w wb).announced;
              snapshot = (I.workers w wb).snapshot;
              doing = (doing_is FlushTake e, good, inl (omega arith), All-map (λ ρ g v z. absurd (not-suc-le-zero z)) (first_two s.queue) good);
              current = (a.0, a.1, a.2);
            });
      }

  module _ (m : List Range) (ts : List ℕ) (e : (worker_at s w).doing ≡ FlushRead m ts) where
    d₀ : PlaceHolds x p w t (FlushRead m ts)
    d₀ = doing_is (FlushRead m ts) e

    pub ask-kept : length ts ≤ s.site.P → Kept start now (to (FlushRead m (ts ++ read_times s (length ts)))) h o
    ask-kept b =
        let a = cur_is (FlushRead m ts) e in
        place-inv (FlushRead m ts) (FlushRead m ts⁺) e (λ c. refl) (calm (FlushRead m ts) tt e) h o p skip refl (λ i. refl)
        (d₀.0, d₀.1, ⊎_elim (λ u. inl (omega (arith, len, u))) (λ u. inr (omega (arith, len, u))) R.0, more m d₀.1 d₀.3)
        (a.0, a.1, a.2)
      where
        ts⁺ : List ℕ
        ts⁺ = ts ++ read_times s (length ts)

        R : Reads s (length ts)
        R = reads s (length ts) I.marks_length b

        len : length ts⁺ ≡ length ts + length (read_times s (length ts))
        len = length-append ts (read_times s (length ts))

        x⁺ : Ctx
        x⁺ = ctx (to (FlushRead m ts⁺)) olds

        still : (v : ℕ) → Came x x⁺ v
        still = came now s olds h o p I w wb (with_doing (worker_at s w) (FlushRead m ts⁺)) s.queue (inl refl)

        -- no holder's time changes
        as_it_was : (v : ℕ) → x⁺.held v ≡ x.held v
        as_it_was v =
            held_same s (to (FlushRead m ts⁺)) refl refl v
            (λ _. ⊎_elim
            (λ u. ap (λ (i : ℕ). (worker_at (to (FlushRead m ts⁺)) i).announced) u.0
            ∙ ap (λ (z : Worker). z.announced) (at_own now s olds h o p I w wb _ s.queue s.marks)
            ∙ ap (λ (i : ℕ). (worker_at s i).announced) (sym u.0))
            (λ u. ap (λ (z : Worker). z.announced) (at_other now s olds h o p I w wb _ s.queue s.marks v u.0))
            (eq_cases v w))

        -- the time of a holder that this step reads is among those read
        read-now : (v i : ℕ) → v ≡ length ts + i → i < length (read_times s (length ts)) → x⁺.held v ≡ x.held v → 0 < occurrences (x⁺.held v) ts⁺
        read-now v i e b y =
            let z : x⁺.held v ≡ get_or (read_times s (length ts)) i absent = y ∙ ap (held s) e ∙ sym (R.1 i b) in
            omega (
              arith,
              occurrences-append (x⁺.held v) ts (read_times s (length ts)),
              subst (λ (q : ℕ). 0 < occurrences q (read_times s (length ts))) (sym z) (occurrences-at (read_times s (length ts)) i absent b),
            )

        one : (ρ : Range) → Good x ρ → Asked x ts ρ → Asked x⁺ ts⁺ ρ
        one ρ g k v z =
            ⊎_elim
            (λ u. ⊎_elim inl (⊎_elim (λ y. inr (inl (omega (arith, y, occurrences-append (x⁺.held v) ts (read_times s (length ts))))))
            (λ y. inr (inr y)))
            (asked x x⁺ ts ρ (asked_of x x⁺ ts d₀.2) (λ i _. still i) g.2 k v u.0))
            (λ u.
            let i : v ≡ length ts + (v - length ts) = omega (arith, u.0) in
            inr (inl (read-now v (v - length ts) i (omega (arith, z, len, u.0)) (as_it_was v))))
            (lt_cases v (length ts))

        more : (q : List Range) → All (Good x) q → All (Asked x ts) q → All (Asked x⁺ ts⁺) q
        more [] g k = tt
        more (ρ ∷ q) g k = (one ρ g.0 k.0, more q g.1 k.1)

    pub split-kept : (b : ℕ) → s.site.P < length ts
        → Kept start now
        (with_queue (with_worker s w (record { doing = FlushFree (filter (λ ρ. not (needed ts ρ)) m); announced = t; pool = [] }))
        (s.queue ++ needed_pools b (filter (needed ts) m) ++ queued_pool (merge (worker_at s w).pool (joining b (filter (needed ts) m)))))
        h
        o
    unfolding cnt
    split-kept b full =
        let a = cur_is (FlushRead m ts) e in
        record {
          olds = olds;
          p = p;
          inv =
              work-inv now s olds h o p I w wb y⁺ q⁺ (now + 1) h o p
              (λ c. omega (
                arith,
                cnt-split c (needed ts) m,
                cnt-sent c b stay,
                cnt-merge c (worker_at s w).pool (joining b stay),
                cnt-queued c (merge (worker_at s w).pool (joining b stay)),
                sum_by-append (cnt c) (s.queue ++ needed_pools b stay) (queued_pool (merge (worker_at s w).pool (joining b stay))),
                sum_by-append (cnt c) s.queue (needed_pools b stay),
                ap (in_doing c) e,
              ))
              (All-append (All (Good x)) (s.queue ++ needed_pools b stay) _
              (All-append (All (Good x)) s.queue _ I.queue
              (pools_have (All (Good x)) b stay (λ n. All-take (Good x) n stay gs) (λ n. All-drop (Good x) n stay gs) gs))
              (queued_has (All (Good x)) _
              (All-merge (Good x) (worker_at s w).pool (joining b stay) (I.workers w wb).pool (joining-has (All (Good x)) b stay tt gs))))
              (inl refl) (calm (FlushRead m ts) tt e) skip (λ i. refl)
              (record {
                pool = tt;
                announced = (I.workers w wb).announced;
                snapshot = (I.workers w wb).snapshot;
                doing = (d₀.0, All-keep (Good x) _ m d₀.1, All-map one go spare);
                current = (a.0, a.1, a.2);
              });
        }
      where
        stay : List Range
        stay = filter (needed ts) m

        go : List Range
        go = filter (λ ρ. not (needed ts ρ)) m

        y⁺ : Worker
        y⁺ = record { doing = FlushFree go; announced = t; pool = [] }

        q⁺ : List (List Range)
        q⁺ = s.queue ++ needed_pools b stay ++ queued_pool (merge (worker_at s w).pool (joining b stay))

        gs : All (Good x) stay
        gs = All-keep (Good x) (needed ts) m d₀.1

        x⁺ : Ctx
        x⁺ = ctx (with_queue (with_worker s w y⁺) q⁺) olds

        still : (v : ℕ) → Came x x⁺ v
        still = came now s olds h o p I w wb y⁺ q⁺ (inl refl)

        all_asked : length ts ≡ holders s
        all_asked = ⊎_elim (λ u. absurd (omega (arith, u, full))) (λ u. u) d₀.2

        zip : (q : List Range) → All (λ ρ. not (needed ts ρ) ≡ true) q → All (Good x) q → All (Asked x ts) q
            → All (λ ρ. (not (needed ts ρ) ≡ true) × (Good x ρ) × (Asked x ts ρ)) q
        zip [] f g k = tt
        zip (ρ ∷ q) f g k = ((f.0, g.0, k.0), zip q f.1 g.1 k.1)

        spare : All (λ ρ. (not (needed ts ρ) ≡ true) × (Good x ρ) × (Asked x ts ρ)) go
        spare = zip go (All-kept (λ ρ. not (needed ts ρ)) m) (All-keep (Good x) _ m d₀.1) (All-keep (Asked x ts) _ m d₀.3)

        one : (ρ : Range) → (not (needed ts ρ) ≡ true) × (Good x ρ) × (Asked x ts ρ) → Spared x⁺ ρ
        one ρ u =
            spared x x⁺ ρ refl (λ i _. still i) u.1.2
            (λ v z i j k.
            ⊎_elim (λ q. omega (arith, q))
            (⊎_elim
            (λ q. not_needed ts ρ (Tests.not-true (needed ts ρ) u.0) (x.held v) q i j k)
            (λ q. omega (arith, q)))
            (u.2 v (omega (arith, all_asked, z))))

  ------------------------------------------------------------------------
  -- Open, read, close

  pub announce_kept : (worker_at s w).doing ≡ OnTime OpenAnnounce → s.clock ≢ 4294967295
      → Kept start now (with_worker s w (record { doing = OnTime OpenPass; announced = s.clock; pool = (worker_at s w).pool })) h o
  announce_kept e n =
      let a = cur_is (OnTime OpenAnnounce) e in
      record {
        olds = olds;
        p = p;
        inv =
            work-inv now s olds h o p I w wb (record { doing = OnTime OpenPass; announced = s.clock; pool = (worker_at s w).pool }) s.queue
            (now + 1) h o p
            (λ c. omega (arith, ap (in_doing c) e)) I.queue (inr (inr (omega arith))) (calm (OnTime OpenAnnounce) tt e) skip (λ i. refl)
            (record {
              pool = (I.workers w wb).pool;
              announced = inr (omega arith, omega (arith, I.clock_fits));
              snapshot = λ z. absurd (omega (arith, z));
              doing = (omega arith, omega (arith, I.clock_fits));
              current = (a.0, a.1, (a.2.0, inl (refl, a.2.1)));
            });
      }

  pub withdraw_kept : (worker_at s w).doing ≡ OnTime CloseWithdraw
      → Kept start now (with_worker s w (record { doing = Idle; announced = absent; pool = (worker_at s w).pool })) (map (end_for now w Done) h)
      (o ++ end_effects h w Done)
  unfolding feed at_end
  withdraw_kept e =
      let a = cur_is (OnTime CloseWithdraw) e in
      one_more_lem o (end_effects h w Done) a.0 (own_is a.1 Done refl (ap at_end a.2.0)) (record {
        olds = olds;
        p = feed p w (call_at h a.0).operation;
        inv =
            work-inv now s olds h o p I w wb (record { doing = Idle; announced = absent; pool = (worker_at s w).pool }) s.queue
            (now + 1) _ (o ++ (a.0 ∷ [])) (feed p w (call_at h a.0).operation)
            (λ c. omega (arith, ap (in_doing c) e)) I.queue (inr (inl refl)) (calm (OnTime CloseWithdraw) tt e)
            (hist-show now w h o p I.linear Done a.0 a.1 a.2.1 refl
            (subst (λ (z : Operation). Agrees z (FinishedAt now Done) (shows rows p w z)) (sym a.2.0) tt)
            (λ r. rw a.2.0) (λ v n. rw a.2.0 (put-at_other p.copy w mathlib.Core.Option.none v n)))
            (λ i. rw a.2.0)
            (record {
              pool = (I.workers w wb).pool;
              announced = inl refl;
              snapshot = λ z. absurd (omega (arith, z, I.clock_fits));
              doing = inl refl;
              current = end-shut now w h o p I.linear Done a.0 a.1;
            });
      })

  -- an operation that shows something ends
  pub shown_kept : (d : Doing) → (worker_at s w).doing ≡ d → Plainly d → ((c : ℕ) → in_doing c d ≡ 0) → Settled x t
      → (k : ℕ) → Running h w k → occurrences k o ≡ 0 → Looks (call_at h k).operation
      → (a : Answer) → Tells a → shows rows p w (call_at h k).operation ≡ some a
      → Kept start now (to Idle) (map (end_for now w a) h) (o ++ end_effects h w a)
  shown_kept d e pl m st k K n L a T sh =
      one_more_lem o (end_effects h w a) k (own_is K a (tells_finishes T) L.end)
      (place-inv d Idle e (λ i. sym (m i)) (calm d pl e) _ (o ++ (k ∷ [])) (feed p w (call_at h k).operation)
      (hist-show now w h o p I.linear a k K n
      (subst (λ (q : Ending). Stands q 1) (sym (tells_end now T)) refl)
      (subst (λ (q : Ending). Agrees (call_at h k).operation q (shows rows p w (call_at h k).operation)) (sym (tells_end now T))
      (subst (λ (q : Bool). AgreesIf q (FinishedAt now a) (shows rows p w (call_at h k).operation)) (sym L.shown) sh))
      (λ i. ap (λ (q : Plain). q.registers i) (L.feeds p w)) (λ v z. ap (λ (q : Plain). q.copy v) (L.feeds p w)))
      (ap (λ (q : Plain). q.copy w) (L.feeds p w)) (λ i. ap (λ (q : Plain). q.kept i) (L.feeds p w)) st
      (end-shut now w h o p I.linear a k K))

  module _ (g : Goal) (c : ℕ) (e : (worker_at s w).doing ≡ ReadStand g c) where
    abbrev r : ℕ
    r = g.register

    abbrev v : Content
    v = (slot_at s c).value

    abbrev t' : ℕ
    t' = time_in x t g.purpose

    settled : Settled x t
    settled = sourced_settled x x t g.purpose (doing_is (ReadStand g c) e).1

    -- the copy has the value that is found
    found_in : (slot_at s c).low ≤ t' → (f : ℕ → Content) → copy_for p w g.purpose ≡ some f → v ≡ f r
    found_in z f q =
        let d = (doing_is (ReadStand g c) e).2 in
        let i : d.1 ≡ f = some_inj (sym d.2 ∙ q) in
        On-found s.slots t' c (d.1 r) (chain x r) d.3 z ∙ ap (λ (q : ℕ → Content). q r) i

    -- a read, or a marked read
    single-kept : (slot_at s c).low ≤ t' → (o' : Operation) → Looks o'
        → ((k : ℕ) → Serves (call_at h k).operation r g.purpose → (call_at h k).operation ≡ o')
        → ((f : ℕ → Content) → copy_for p w g.purpose ≡ some f → shows rows p w o' ≡ some (answer_for (f r)))
        → Kept start now (to Idle) (map (end_for now w (answer_for v)) h) (o ++ end_effects h w (answer_for v))
    single-kept z o' L is sh =
        let a = cur_is (ReadStand g c) e in
        let d = (doing_is (ReadStand g c) e).2 in
        let i = is a.0 a.2.0 in
        shown_kept (ReadStand g c) e tt (λ i. refl) settled a.0 a.1 a.2.1 (subst Looks (sym i) L)
        (answer_for v) (answer_for-tells v)
        (rw i (sh d.1 d.2 ∙ ap (λ (q : Content). some (answer_for q)) (sym (found_in z d.1 d.2))))

    pub found-kept : (slot_at s c).low ≤ t' → g.purpose ≡ Single
        → Kept start now (to Idle) (map (end_for now w (answer_for v)) h) (o ++ end_effects h w (answer_for v))
    unfolding shows in_copy
    found-kept z single =
        single-kept z (Read r) (looks_read r) (λ k q. subst (Serves (call_at h k).operation r) single q)
        (λ f q. ap (λ (i : Option (ℕ → Content)). in_copy i (λ f. answer_for (f r))) (sym (ap (copy_for p w) single) ∙ q))

    pub found-marked : (slot_at s c).low ≤ t' → (m : ℕ) → g.purpose ≡ Marked m
        → Kept start now (to Idle) (map (end_for now w (answer_for v)) h) (o ++ end_effects h w (answer_for v))
    unfolding shows in_copy
    found-marked z m marked =
        single-kept z (MarkedRead r m) (looks_marked r m) (λ k q. subst (Serves (call_at h k).operation r) marked q)
        (λ f q. ap (λ (i : Option (ℕ → Content)). in_copy i (λ f. answer_for (f r))) (sym (ap (copy_for p w) marked) ∙ q))

    module _ (j i : ℕ) (y : Sum) (total : g.purpose ≡ Totaling j i y) (z : (slot_at s c).low ≤ t') where
      abbrev more : Sum
      more = add_row y (row_at rows i) v

      call : (k : ℕ) × Running h w k × ((call_at h k).operation ≡ Total j) × (occurrences k o ≡ 0)
      call =
          let a = cur_is (ReadStand g c) e in
          (a.0, a.1, subst (Serves (call_at h a.0).operation r) total a.2.0, a.2.1)

      so_far : Summed rows p w r (Totaling j i y)
      so_far = subst (Summed rows p w r) total (doing_is (ReadStand g c) e).3

      -- the sums with this row are those over the copy
      more-is : more ≡ sum_over so_far.4.0 (of_group j (take (i + 1) rows))
      more-is =
          let f = so_far.4.0 in
          let q : v ≡ f (register_of (row_at rows i)) = found_in z f (ap (copy_for p w) total ∙ so_far.4.1) ∙ ap f so_far.1 in
          ap (λ (k : Content). add_row y (row_at rows i) k) q
          ∙ ap (λ (k : Sum). add_row k (row_at rows i) (f (register_of (row_at rows i)))) so_far.4.2
          ∙ sym (sum-next f (of_group j (take i rows)) (row_at rows i))
          ∙ ap (sum_over f) (sym (own_next j rows i so_far.0 so_far.2))

      -- 18
      pub over-kept : Kept start now (to Idle) (map (end_for now w (No 18)) h) o
      over-kept = refuse-kept 18 (ReadStand g c) e tt (λ i. refl) settled (call.0, call.1, call.3)

      -- the last row of its group
      pub total_kept : goes_on rows j i ≡ false
          → Kept start now (to Idle) (map (end_for now w (signed more)) h) (o ++ end_effects h w (signed more))
      unfolding shows in_copy
      total_kept n =
          let all : of_group j (take (i + 1) rows) ≡ of_group j rows =
          last_own s.site.V' rows I.rows_fit i j so_far.0 so_far.2 (goes_not rows j i n) in
          shown_kept (ReadStand g c) e tt (λ i. refl) settled call.0 call.1 call.3 (subst Looks (sym call.2) (looks_total j))
          (signed more) (signed-tells more)
          (rw (call.2, so_far.4.1) (ap (λ (k : Sum). some (signed k)) (sym (more-is ∙ ap (sum_over so_far.4.0) all))))

      -- another row follows
      pub next-kept : count_of v ≤ twelve_digits → goes_on rows j i ≡ true → Kept start now (to (ReadEnter (goal_at rows j (i + 1) more))) h o
      next-kept few n =
          let k = goes rows j i n in
          let own : length (of_group j (take (i + 1) rows)) ≡ length (of_group j (take i rows)) + 1 =
          ap length (own_next j rows i so_far.0 so_far.2) ∙ length-append (of_group j (take i rows)) (row_at rows i ∷ []) in
          place-inv (ReadStand g c) (ReadEnter (goal_at rows j (i + 1) more)) e (λ i. refl) (calm (ReadStand g c) tt e) h o p skip refl (λ i. refl) (
            register_fits (i + 1) k.0,
            subst (Sourced s.clock t) total (doing_is (ReadStand g c) e).1,
            (
              k.0,
              refl,
              k.1,
              omega (arith, sum-grows y (row_at rows i) v, so_far.3, own, few),
              (so_far.4.0, so_far.4.1, more-is),
            ),
          )
          (call.0, call.1, (call.2, call.3))

    pub on-kept : t' < (slot_at s c).low → Kept start now (to (ReadStand g (slot_at s c).older)) h o
    on-kept z =
        let a = cur_is (ReadStand g c) e in
        let d = doing_is (ReadStand g c) e in
        place-inv (ReadStand g c) (ReadStand g (slot_at s c).older) e (λ i. refl) (calm (ReadStand g c) tt e) h o p skip refl (λ i. refl) (
          d.0,
          d.1,
          (d.2.0, d.2.1, d.2.2, On-on s.slots absent t' c (d.2.1 r) (chain x r) (I.linked r d.0) d.2.3 z),
          d.3,
        )
        (a.0, a.1, a.2)
