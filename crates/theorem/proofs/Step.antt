-- Every step keeps the invariant, and what it answers and frees is as the two claims on freeing ask.
use mathlib.Core.Path.{◌≡◌, refl, sym, ap, ◌∙◌, subst}
use mathlib.Core.Bool.{Bool, true, false, cond}
use mathlib.Core.Logic.{◌⊎◌, inl, inr, ⊎_elim}
use mathlib.Core.List.{List, [], ◌∷◌, ◌++◌, map, append-nil}
use mathlib.Core.Option.{Option, none, some}
use Prim.Native.Nat.{ℕ, ◌≤◌, ◌<◌}
use native.Mathlib.Omega.{arith}
use lib.Dec.{leb, eqb}
use lib.ListN.{length}
use lib.Seq.{get_or-set_same}
use borrow.Author.Tests as Tests
use Rattle.model.specs.Store.{Content, absent, Reading, Slot, Range, OpenAnnounce, OpenPass, CloseWithdraw, MarkKeep, MarkRelease, Purpose, count_of}
use Rattle.model.specs.Store.{Single, Marked, Totaling, Goal, Doing, Idle, PutPublish, PutStamp, PutHandIn, FlushTake, FlushRead}
use Rattle.model.specs.Store.{FlushFree, OnTime, ReadEnter, ReadStand, GetShow, Store, worker_at, slot_at, newest_of, held, range_of}
use Rattle.model.specs.Store.{with_worker, place, up}
use Rattle.model.specs.Marks.{time_for}
use Rattle.model.specs.Totals.{goes_on}
use Rattle.model.specs.Rules.{twelve_digits}
use Rattle.model.specs.Answer.{Answer, Going, Freed, Done, No, Stepped, said}
use Rattle.model.specs.Versions.{stamp}
use Rattle.model.specs.Steps.{put_publish, put_stamp, put_hand_in, flush_take, flush_split, flush_read, flush_free, open_announce, open_pass}
use Rattle.model.specs.Steps.{total_found, found, read_enter, read_stand, get_show, close_withdraw, mark_keep, mark_release}
use Rattle.model.specs.Steps.{time_step, step_at}
use Rattle.model.specs.Demand.{Call, end_for, Plain, change_effects, end_effects, occurrences, FreesNothingNeeded, TookIn}
use Rattle.model.proofs.Basic.{hit_same, hit_other, eq_cases, cond_both}
use Rattle.theorem.proofs.Slots.{nth, link_new, unlink_part}
use Rattle.theorem.proofs.Effect.{change-none, change-same}
use Rattle.theorem.proofs.Found.{Tells, answer_for-tells, signed-tells, stopped_by_lem}
use Rattle.theorem.proofs.Linear.{lin_skip}
use Rattle.theorem.proofs.Invariant.{ctx, Settled, Running, Inv, in_doing, NoneRunning}
use Rattle.theorem.proofs.History.{ended_none}
use Rattle.theorem.proofs.Apart.{below≤1, free_in_lem}
use Rattle.theorem.proofs.Stamp.{Stamped, stamp-inv}
use Rattle.theorem.proofs.Places.{Kept, none_more, doing_is, cur_is, Plainly, refuse-kept, refuse-put, refuse-open, flush_done}
use Rattle.theorem.proofs.Places.{hand-done, hand-full, take-kept, ask-kept, split-kept, announce_kept, withdraw_kept, found-kept}
use Rattle.theorem.proofs.Places.{found-marked, over-kept, total_kept, next-kept, on-kept}
use Rattle.theorem.proofs.Transport.{sourced_settled}
use Rattle.theorem.proofs.Marking.{keep_kept, release_kept}
use Rattle.theorem.proofs.Stamping.{cover_kept, enter_kept, show_kept}
use Rattle.theorem.proofs.Link.{link_kept, linked_store, highs, work_f}
use Rattle.theorem.proofs.Unlink.{unlink_kept, freed_store, not_needed, c_pend}
use Rattle.theorem.proofs.Tick.{pass_kept}

-- the operations after a step of worker w with answer a
abbrev pub seen : ℕ → ℕ → Answer → List Call → List Call
seen now w a h = cond (said a).ends (map (end_for now w a) h) h

pub record After (start : ℕ → Content) (now : ℕ) (s : Store) (w : ℕ) (h : List Call) (o : List ℕ) (t : Stepped) : Type 0 where
  pub kept : Kept start now t.store (seen now w t.answer h) (o ++ (change_effects h s t.store ++ end_effects h w t.answer))
  pub safe : FreesNothingNeeded (up s) t.answer
  pub frees : (c : ℕ) → t.answer ≡ Freed c → (occurrences c s.free ≡ 0) × (0 < occurrences c t.store.free)
  pub stays : (c : ℕ) → 0 < occurrences c s.free → (0 < occurrences c t.store.free) ⊎ TookIn c w (up s) t.answer (up t.store)

abbrev pub IsNone : Option ℕ → Type 0
IsNone none = Unit {0}
IsNone (some c) = ⊥

abbrev pub NotFreed : Answer → Type 0
NotFreed a = IsNone (said a).freed

-- a step that frees nothing and takes no slot
quiet : {start : ℕ → Content} {now : ℕ} {s : Store} {w : ℕ} {h : List Call} {o : List ℕ} {t : Stepped}
    → Kept start now t.store (seen now w t.answer h) (o ++ (change_effects h s t.store ++ end_effects h w t.answer))
    → t.store.free ≡ s.free → NotFreed t.answer → After start now s w h o t
quiet K e n =
    record {
      kept = K;
      safe = λ c z. absurd (subst NotFreed z n);
      frees = λ c z. absurd (subst NotFreed z n);
      stays = λ c z. inl (subst (λ (l : List ℕ). 0 < occurrences c l) (sym e) z);
    }

-- the slots and the clock are as they were
pub change-still : (h : List Call) (s t : Store) → t.clock ≡ s.clock → t.slots ≡ s.slots → change_effects h s t ≡ []
change-still h s t k e = change-none h s t k (λ v r c z y. ap (λ (l : List Slot). (nth l c).high) e)

module _ {start : ℕ → Content} {now : ℕ} (s : Store) {w : ℕ} {h : List Call} {o : List ℕ} where
  -- no put is stamped and no time passed, and the operation that ends, if any, takes effect
  ended : (t : Store) (a : Answer) → t.clock ≡ s.clock → t.slots ≡ s.slots → Kept start now t (seen now w a h) (o ++ end_effects h w a)
      → t.free ≡ s.free → NotFreed a → After start now s w h o (record { store = t; answer = a })
  ended t a k l K e n =
      quiet (subst (λ (q : List ℕ). Kept start now t (seen now w a h) (o ++ (q ++ end_effects h w a))) (sym (change-still h s t k l)) K) e n

  -- nothing takes effect
  plain : (t : Store) (a : Answer) → t.clock ≡ s.clock → t.slots ≡ s.slots → end_effects h w a ≡ [] → Kept start now t (seen now w a h) o
      → t.free ≡ s.free → NotFreed a → After start now s w h o (record { store = t; answer = a })
  plain t a k l y K e n = ended t a k l (none_more o (end_effects h w a) y K) e n

  -- only puts and opens take effect
  spreads : (t : Store) (a : Answer) → end_effects h w a ≡ [] → Kept start now t (seen now w a h) (o ++ change_effects h s t) → t.free ≡ s.free
      → NotFreed a → After start now s w h o (record { store = t; answer = a })
  spreads t a y K e n =
      quiet (subst (λ (q : List ℕ). Kept start now t (seen now w a h) (o ++ q))
      (sym (ap (λ (q : List ℕ). change_effects h s t ++ q) y ∙ append-nil (change_effects h s t))) K) e n

  -- a step that shows something
  shows-it : (a : Answer) → Tells a → (t : Store) → Kept start now t (map (end_for now w a) h) (o ++ (change_effects h s t ++ end_effects h w a))
      → t.free ≡ s.free → After start now s w h o (record { store = t; answer = a })
  shows-it a T t K e =
      quiet (subst (λ (b : Bool). Kept start now t (cond b (map (end_for now w a) h) h) (o ++ (change_effects h s t ++ end_effects h w a)))
      (sym T.ends) K) e (subst IsNone (sym T.freed) tt)

  -- and no more than that
  shows-only : (a : Answer) → Tells a → Kept start now (place s w Idle) (map (end_for now w a) h) (o ++ end_effects h w a)
      → After start now s w h o (record { store = place s w Idle; answer = a })
  shows-only a T K =
      shows-it a T (place s w Idle)
      (subst (λ (q : List ℕ). Kept start now (place s w Idle) (map (end_for now w a) h) (o ++ (q ++ end_effects h w a)))
      (sym (change-still h s (place s w Idle) refl refl)) K) refl

own_going : (h : List Call) (w : ℕ) → end_effects h w Going ≡ []
unfolding end_effects
own_going h w = refl

own_freed : (h : List Call) (w c : ℕ) → end_effects h w (Freed c) ≡ []
unfolding end_effects
own_freed h w c = refl

pub own_refused : (h : List Call) (w k : ℕ) → end_effects h w (No k) ≡ []
unfolding end_effects
own_refused h w k = refl

pub inv_skip : {start : ℕ → Content} (now : ℕ) (s : Store) (olds : List (List ℕ)) (h : List Call) (o : List ℕ) (p : Plain) → Inv start now s olds h o p → Kept start now s h o
inv_skip now s olds h o p I =
    record {
      olds = olds;
      p = p;
      inv =
          record {
            workers_length = I.workers_length;
            newest_length = I.newest_length;
            slots_length = I.slots_length;
            olds_length = I.olds_length;
            marks_length = I.marks_length;
            slots_few = I.slots_few;
            clock_fits = I.clock_fits;
            free_alone = I.free_alone;
            once = I.once;
            pending_old = I.pending_old;
            linked = I.linked;
            stamps = I.stamps;
            queue = I.queue;
            workers = I.workers;
            marks = I.marks;
            stamper = I.stamper;
            outside = I.outside;
            linear = lin_skip I.linear;
            rows_fit = I.rows_fit;
          };
    }

-- a step record of a worker that performs no operation, refused on reading
pub no_step : {start : ℕ → Content} (now : ℕ) (s : Store) (olds : List (List ℕ)) (h : List Call) (o : List ℕ) (p : Plain) → Inv start now s olds h o p
    → (w k : ℕ) → NoneRunning h w → Kept start now s (map (end_for now w (No k)) h) o
no_step {start} now s olds h o p I w k f = subst (λ (q : List Call). Kept start now s q o) (sym (ended_none now w (No k) h f)) (inv_skip now s olds h o p I)

module _ {start : ℕ → Content} (now : ℕ) (s : Store) (olds : List (List ℕ)) (h : List Call) (o : List ℕ) (p : Plain) (I : Inv start now s olds h o p) (w : ℕ)
    (wb : w < s.site.P) where
  put-after : (r : ℕ) (y : Reading) → (worker_at s w).doing ≡ PutPublish r y → (l : List ℕ) → s.free ≡ l → After start now s w h o (put_publish s w r y l)
  unfolding put_publish stamp occurrences
  put-after r y e [] fr = plain s (place s w Idle) (No 14) refl refl (own_refused h w 14) (refuse-put now s olds h o p I w wb r y e) refl tt
  put-after r y e (f ∷ fs) fr =
      record {
        kept =
            subst (λ (q : List ℕ). Kept start now t h (o ++ (change_effects h s t ++ q))) (sym (own_going h w))
            (subst (λ (q : List ℕ). Kept start now t h (o ++ q)) (sym (append-nil (change_effects h s t)))
            (subst (λ (q : List ℕ). Kept start now t h (o ++ q)) (sym same)
            (subst (Kept start now t h) T.grown (link_kept now (stamp s r) olds h T.o T.p T.inv w wb r b y e T.low f fs fr))));
        safe = λ c z. absurd (subst NotFreed z tt);
        frees = λ c z. absurd (subst NotFreed z tt);
        stays = λ c z.
            ⊎_elim
            (λ u. inr (refl, r, y, e, fs, fr ∙ ap (λ (i : ℕ). i ∷ fs) u.0, top-f ∙ u.0, ap (λ (i : ℕ). (slot_at t i).value) (sym u.0) ∙ value-f))
            (λ u. inl (omega (arith, z, ap (occurrences c) fr, hit_other f c u.0)))
            (eq_cases f c);
      }
    where
      b : r < s.site.V'
      b = (doing_is now s olds h o p I w wb (PutPublish r y) e).0

      T : Stamped start now s r olds h o
      T = stamp-inv now s olds h o p I r b

      t : Store
      t = linked_store now (stamp s r) olds h T.o T.p T.inv w wb r b y e T.low f fs fr

      -- the slot that the put took is its register's newest, with the put's value
      top-f : newest_of t r ≡ f
      top-f = get_or-set_same s.newest r f absent (omega (arith, I.newest_length, b))

      value-f : (slot_at t f).value ≡ some y
      value-f =
          ap (λ (v : Slot). v.value)
          (link_new (stamp s r).slots (newest_of s r) f y
          (free_in_lem T.inv f (subst (λ (q : List ℕ). 0 < occurrences f q) (sym fr) (omega (arith, hit_same f)))))

      same : change_effects h s t ≡ change_effects h s (stamp s r)
      same =
          change-same h s (stamp s r) t refl
          (λ v q c z d.
          highs now (stamp s r) olds h T.o T.p T.inv w wb r b y e T.low f fs fr c
          (work_f now (stamp s r) olds h T.o T.p T.inv w wb r b y e T.low f fs fr v z c (omega (arith, ap (in_doing c) d, hit_same c))))

  free_pick : (t : Bool) (r : ℕ) → (cond t (stamp s r) s).free ≡ s.free
  unfolding stamp
  free_pick true r = refl
  free_pick false r = refl

  hand_after : (r c : ℕ) → (worker_at s w).doing ≡ PutHandIn r c → After start now s w h o (put_hand_in s w c)
  unfolding put_hand_in
  hand_after r c e = go (eqb (length ((worker_at s w).pool ++ (range_of s c ∷ []))) s.site.B)
    where
      go : (full : Bool) → After start now s w h o
          (record {
            store = with_worker s w (record {
              doing = cond full FlushTake Idle;
              announced = (worker_at s w).announced;
              pool = (worker_at s w).pool
                  ++ (range_of s c ∷ []);
            });
            answer = cond full Going Done;
          })
      go true =
          plain s (with_worker s w (record {
            doing = FlushTake;
            announced = (worker_at s w).announced;
            pool = (worker_at s w).pool
                ++ (range_of s c ∷ []);
          })) Going refl refl (own_going h w) (hand-full now s olds h o p I w wb r c e) refl tt
      go false =
          ended s (with_worker s w (record { doing = Idle; announced = (worker_at s w).announced; pool = (worker_at s w).pool ++ (range_of s c ∷ []) }))
          Done refl refl (hand-done now s olds h o p I w wb r c e) refl tt

  give_after : (m : List Range) → (worker_at s w).doing ≡ FlushFree m → After start now s w h o (flush_free s w m)
  unfolding flush_free occurrences range_of
  give_after [] e = ended s (place s w Idle) Done refl refl (flush_done now s olds h o p I w wb e) refl tt
  give_after (ρ ∷ l) e =
      record {
        kept =
            none_more o _
            (ap (λ (q : List ℕ). q ++ end_effects h w (Freed ρ.slot))
            (change-none h s (freed_store now s olds h o p I w wb ρ l e) refl
            (λ v r c z d. unlink_part s.slots ρ.slot (λ i. i.high) (λ i j. refl) (λ i j. refl) c))
            ∙ own_freed h w ρ.slot)
            (unlink_kept now s olds h o p I w wb ρ l e);
        safe = λ c z v vb a b d.
            let i : c ≡ ρ.slot = cc in
            not_needed now s olds h o p I w wb ρ l e v vb a
            (subst (λ (k : ℕ). (slot_at s k).low ≤ held s v) i b)
            (subst (λ (k : ℕ). held s v < (slot_at s k).high) i d);
        frees = λ c z.
            let i : ρ.slot ≡ c = cc in
            subst (λ (k : ℕ). (occurrences k s.free ≡ 0) × (0 < occurrences k (ρ.slot ∷ s.free))) i (
              omega (arith, I.once ρ.slot, below≤1 ρ.slot s.site.N, c_pend now s olds h o p I w wb ρ l e),
              omega (arith, hit_same ρ.slot),
            );
        stays = λ c z. inl (omega (arith, z));
      }

  found_after : (g : Goal) (c : ℕ) → (worker_at s w).doing ≡ ReadStand g c → (slot_at s c).low ≤ time_for s.marks (worker_at s w).announced g.purpose
      → (y : Purpose) → g.purpose ≡ y → After start now s w h o (found s w y (slot_at s c).value)
  unfolding found total_found
  found_after g c e z Single q = shows-only s _ (answer_for-tells _) (found-kept now s olds h o p I w wb g c e z q)
  found_after g c e z (Marked m) q = shows-only s _ (answer_for-tells _) (found-marked now s olds h o p I w wb g c e z m q)
  found_after g c e z (Totaling j i y) q =
      cond_both (After start now s w h o) (leb (count_of (slot_at s c).value) twelve_digits) _ _
      (λ few. cond_both (After start now s w h o) (goes_on s.site.rows j i) _ _
      (λ n. plain s _ Going refl refl (own_going h w)
      (next-kept now s olds h o p I w wb g c e j i y q z (Tests.leb-true (count_of (slot_at s c).value) twelve_digits few) n) refl tt)
      (λ n. shows-only s _ (signed-tells _) (total_kept now s olds h o p I w wb g c e j i y q z n)))
      (λ many. plain s _ (No 18) refl refl (own_refused h w 18) (over-kept now s olds h o p I w wb g c e j i y q z) refl tt)

  -- an operation on a mark is refused
  stopped : (k : ℕ) (d : Doing) → (worker_at s w).doing ≡ d → Plainly now s olds h o p I w wb d → ((c : ℕ) → in_doing c d ≡ 0)
      → Settled (ctx s olds) (worker_at s w).announced → ((j : ℕ) × Running h w j × (occurrences j o ≡ 0))
      → After start now s w h o (record { store = place s w Idle; answer = No k })
  stopped k d e pl n st a = plain s _ (No k) refl refl (own_refused h w k) (refuse-kept now s olds h o p I w wb k d e pl n st a) refl tt

  pub step_after : (d : Doing) → (worker_at s w).doing ≡ d → After start now s w h o (step_at s w d)
  unfolding step_at time_step put_stamp flush_take flush_read flush_split open_announce open_pass read_enter read_stand get_show close_withdraw mark_keep mark_release stamp
  step_after Idle e =
      plain s s (No 11) refl refl (own_refused h w 11) (no_step now s olds h o p I w 11 (cur_is now s olds h o p I w wb Idle e)) refl tt
  step_after (PutPublish r y) e = put-after r y e s.free refl
  step_after (PutStamp r c) e =
      spreads s _ Going (own_going h w) (cover_kept now s olds h o p I w wb r c e) (free_pick (eqb (slot_at s c).high absent) r) tt
  step_after (PutHandIn r c) e = hand_after r c e
  step_after FlushTake e = plain s _ Going refl refl (own_going h w) (take-kept now s olds h o p I w wb e) refl tt
  step_after (FlushRead m ts) e =
      cond_both (After start now s w h o) (leb (length ts) s.site.P) _ _
      (λ u. plain s _ Going refl refl (own_going h w) (ask-kept now s olds h o p I w wb m ts e (Tests.leb-true (length ts) s.site.P u)) refl tt)
      (λ u. plain s _ Going refl refl (own_going h w) (split-kept now s olds h o p I w wb m ts e s.site.B
      (Tests.leb-false (length ts) s.site.P u)) refl tt)
  step_after (FlushFree m) e = give_after m e
  step_after (OnTime OpenAnnounce) e =
      cond_both (After start now s w h o) (eqb s.clock 4294967295) _ _
      (λ u. plain s _ (No 15) refl refl (own_refused h w 15) (refuse-open now s olds h o p I w wb e) refl tt)
      (λ u. plain s _ Going refl refl (own_going h w) (announce_kept now s olds h o p I w wb e (Tests.eqb-false s.clock 4294967295 u)) refl tt)
  step_after (OnTime OpenPass) e = quiet (pass_kept now s olds h o p I w wb e) refl tt
  step_after (ReadEnter g) e =
      stopped_by_lem (After start now s w h o) _ s w _
      (λ k u. stopped k (ReadEnter g) e tt (λ i. refl) (sourced_settled (ctx s olds) (ctx s olds) _ g.purpose (doing_is now s olds h o p I w wb (ReadEnter g) e).1)
      (let a = cur_is now s olds h o p I w wb (ReadEnter g) e in (a.0, a.1, a.2.1)))
      (λ u. spreads s _ Going (own_going h w) (enter_kept now s olds h o p I w wb g e u) refl tt)
  step_after (ReadStand g c) e =
      let a = time_for s.marks (worker_at s w).announced g.purpose in
      cond_both (After start now s w h o) (leb (slot_at s c).low a) _ _
      (λ u. found_after g c e (Tests.leb-true (slot_at s c).low a u) g.purpose refl)
      (λ u. plain s _ Going refl refl (own_going h w) (on-kept now s olds h o p I w wb g c e (Tests.leb-false (slot_at s c).low a u)) refl tt)
  step_after (OnTime CloseWithdraw) e = ended s _ Done refl refl (withdraw_kept now s olds h o p I w wb e) refl tt
  step_after (OnTime (MarkKeep m)) e =
      let d = doing_is now s olds h o p I w wb (OnTime (MarkKeep m)) e in
      let a = cur_is now s olds h o p I w wb (OnTime (MarkKeep m)) e in
      stopped_by_lem (After start now s w h o) _ s w _ (λ k u. stopped k (OnTime (MarkKeep m)) e tt (λ i. refl) (inr d.1) (a.0, a.1, a.2.1))
      (λ u. ended s _ Done refl refl (keep_kept now s olds h o p I w wb m e u) refl tt)
  step_after (OnTime (MarkRelease m)) e =
      let d = doing_is now s olds h o p I w wb (OnTime (MarkRelease m)) e in
      let a = cur_is now s olds h o p I w wb (OnTime (MarkRelease m)) e in
      stopped_by_lem (After start now s w h o) _ s w _ (λ k u. stopped k (OnTime (MarkRelease m)) e tt (λ i. refl) d.1 (a.0, a.1, a.2.1))
      (λ u. ended s _ Done refl refl (release_kept now s olds h o p I w wb m e u) refl tt)
  step_after (GetShow r) e = shows-it s _ (answer_for-tells _) (place (stamp s r) w Idle) (show_kept now s olds h o p I w wb r e) refl
