-- Marks: what the refusals 19, 20 and 21 say where they are not given, what a read finds under its source, and the steps of mark and release.
use mathlib.Core.Path.{◌≡◌, refl, sym, ap, ◌∙◌, subst}
use mathlib.Core.Bool.{Bool, true, false, ◌||◌, true≢false}
use mathlib.Core.Logic.{◌≢◌, ◌⊎◌, inl, inr, ⊎_elim}
use mathlib.Core.List.{List, [], ◌∷◌, ◌++◌, map}
use mathlib.Core.Option.{Option, none, some}
use Prim.Native.Nat.{ℕ, zero, suc, ◌+◌, ◌≤◌, ◌<◌}
use native.Mathlib.Nat.{not-suc-le-zero, le_of_suc-le-suc}
use native.Mathlib.Omega.{arith}
use lib.Dec.{ltb}
use lib.ListN.{length, get_or, set, length-set}
use lib.Seq.{get_or-set_same, get_or-set_other}
use borrow.Author.Tests as Tests
use Rattle.model.specs.Store.{absent, mark_count, Content, MarkKeep, MarkRelease, Purpose, Single, Marked, Totaling, Goal, Doing, Idle}
use Rattle.model.specs.Store.{PutStamp, OnTime, ReadStand, Worker, start_worker, Store, worker_at, mark_at, with_doing, with_marks, place}
use Rattle.model.specs.About.{about}
use Rattle.model.specs.Marks.{EmptyMark, HeldMark, UnreadMark, reads, is_read, mark_refusal, need_for}
use Rattle.model.specs.Answer.{Done}
use Rattle.model.specs.Record.{Operation, Mark, Release}
use Rattle.model.specs.Demand.{FinishedAt, Call, end_for, Plain, update, feed, no_copy, in_copy, shows, at_end, end_effects, occurrences}
use Rattle.model.specs.Demand.{showing, AgreesIf, Agrees, call_at}
use Rattle.model.proofs.Basic.{cond_both, eq_cases}
use Rattle.theorem.proofs.Effect.{own_is}
use Rattle.theorem.proofs.Slots.{nth}
use Rattle.theorem.proofs.Chain.{Sees}
use Rattle.theorem.proofs.Invariant.{Ctx, ctx, chain, in_doing, Settled, MarkHolds, time_in, copy_for, Sourced, Running, Inv}
use Rattle.theorem.proofs.Transport.{Came}
use Rattle.theorem.proofs.Stamp.{put-at_same, put-at_other}
use Rattle.theorem.proofs.History.{Hist, hist-show, end-shut}
use Rattle.theorem.proofs.Work.{after-times, marked-inv}
use Rattle.theorem.proofs.Places.{Kept, one_more_lem, doing_is, cur_is, calm}

------------------------------------------------------------------------
-- No refusal

abbrev Granted : Option ℕ → Type 0 → Type 0
Granted none A = A
Granted (some k) A = Unit {0}

granted : {y : Option ℕ} {A : Type 0} → Granted y A → y ≡ none → A
granted {A = A} g e = subst (λ (y : Option ℕ). Granted y A) e g

pub empty-is : (s : Store) (m : ℕ) → mark_refusal s (EmptyMark m) ≡ none → absent ≤ mark_at s m
unfolding mark_refusal
empty-is s m =
    granted (cond_both (λ (y : Option ℕ). Granted y (absent ≤ mark_at s m)) (ltb (mark_at s m) absent) _ _
    (λ u. tt) (λ u. Tests.ltb-false (mark_at s m) absent u))

pub held-is : (s : Store) (m : ℕ) → mark_refusal s (HeldMark m) ≡ none → mark_at s m < absent
unfolding mark_refusal
held-is s m =
    granted (cond_both (λ (y : Option ℕ). Granted y (mark_at s m < absent)) (ltb (mark_at s m) absent) _ _
    (λ u. Tests.ltb-true (mark_at s m) absent u) (λ u. tt))

pub unread_is : (s : Store) (m : ℕ) → mark_refusal s (UnreadMark m) ≡ none → (mark_at s m < absent) × (is_read m s.workers ≡ false)
unfolding mark_refusal
unread_is s m =
    granted (cond_both (λ (y : Option ℕ). Granted y ((mark_at s m < absent) × (is_read m s.workers ≡ false))) (ltb (mark_at s m) absent) _ _
    (λ u. cond_both (λ (y : Option ℕ). Granted y ((mark_at s m < absent) × (is_read m s.workers ≡ false))) (is_read m s.workers) _ _
    (λ v. tt) (λ v. (Tests.ltb-true (mark_at s m) absent u, v)))
    (λ u. tt))

-- nobody reads the mark
or_false : (a b : Bool) → (a || b) ≡ false → (a ≡ false) × (b ≡ false)
or_false true b e = absurd (true≢false e)
or_false false b e = (refl, e)

none_reads : (m : ℕ) (l : List Worker) → is_read m l ≡ false → (v : ℕ) → v < length l
    → reads m (about (get_or l v start_worker).doing).stance ≡ false
unfolding is_read
none_reads m [] e v b = absurd (not-suc-le-zero b)
none_reads m (x ∷ l) e zero b = (or_false (reads m (about x.doing).stance) (is_read m l) e).0
none_reads m (x ∷ l) e (suc v) b = none_reads m l (or_false (reads m (about x.doing).stance) (is_read m l) e).1 v (le_of_suc-le-suc b)

pub not_read : (s : Store) (m v : ℕ) → is_read m s.workers ≡ false → v < length s.workers
    → (g : Goal) (c : ℕ) → (worker_at s v).doing ≡ ReadStand g c → g.purpose ≢ Marked m
not_read s m v e b g c d q =
    true≢false (sym (Tests.eq-eqb m m refl) ∙ sym (ap (λ (y : Purpose). asks y) q) ∙ sym (ap (λ (y : Doing). reads m (about y).stance) d)
    ∙ none_reads m s.workers e v b)
  where
    asks : Purpose → Bool
    asks y = reads m (about (ReadStand (record { register = g.register; purpose = y }) c)).stance

------------------------------------------------------------------------
-- What a read finds under its source: a time that is past, a copy, and in each register's list the version that the time needs

module _ {start : ℕ → Content} (now : ℕ) (s : Store) (olds : List (List ℕ)) (h : List Call) (o : List ℕ) (p : Plain) (I : Inv start now s olds h o p) (w : ℕ)
    (wb : w < s.site.P) where
  abbrev x : Ctx
  x = ctx s olds

  abbrev t : ℕ
  t = (worker_at s w).announced

  abbrev pub Source : Purpose → Type 0
  Source y =
      (time_in x t y < s.clock)
      × (f : ℕ → Content) × (copy_for p w y ≡ some f) × ((r : ℕ) → r < s.site.V' → Sees s.slots (time_in x t y) (f r) (chain x r))

  own_source : t < s.clock
      → (t < s.clock) × (f : ℕ → Content) × (p.copy w ≡ some f) × ((r : ℕ) → r < s.site.V' → Sees s.slots t (f r) (chain x r))
  own_source z = let S = (I.workers w wb).snapshot z in (z, S.0, S.1, S.2)

  pub source : (y : Purpose) → Sourced s.clock t y → mark_refusal s (need_for y) ≡ none → Source y
  source Single a e = own_source a
  source (Marked m) a e = ⊎_elim (λ u. absurd (omega (arith, u.0, held-is s m e))) (λ u. u) (I.marks m a.0)
  source (Totaling g i y) a e = own_source a

  ------------------------------------------------------------------------
  -- One mark changes, and with it the copy under it; the worker is idle then

  module _ (m b : ℕ) (mb : m < mark_count) (d : Doing) (e : (worker_at s w).doing ≡ d) (f : Option (ℕ → Content)) where
    abbrev y⁺ : Worker
    y⁺ = with_doing (worker_at s w) Idle

    abbrev marks⁺ : List ℕ
    marks⁺ = set s.marks m b

    abbrev s⁺ : Store
    s⁺ = with_marks (place s w Idle) marks⁺

    own-mark : get_or marks⁺ m absent ≡ b
    own-mark = get_or-set_same s.marks m b absent (omega (arith, mb, I.marks_length))

    other-mark : (j : ℕ) → j ≢ m → get_or marks⁺ j absent ≡ mark_at s j
    other-mark j n = get_or-set_other s.marks m j b absent n

    came⁺ : (b ≡ absent) ⊎ (b ≡ t) → (v : ℕ) → Came x (ctx s⁺ olds) v
    came⁺ a =
        after-times now s olds h o p I w wb y⁺ s.queue marks⁺ (inl refl)
        (λ j. ⊎_elim
        (λ u. inr (⊎_elim (λ z. inl (ap (λ (i : ℕ). get_or marks⁺ i absent) u.0 ∙ own-mark ∙ z))
        (λ z. inr (w, wb, ap (λ (i : ℕ). get_or marks⁺ i absent) u.0 ∙ own-mark ∙ z)) a))
        (λ u. inl (other-mark j u.0)) (eq_cases j m))

    -- a mark but this one is as it was
    kept-other : (p' : Plain) → ((j : ℕ) → j ≢ m → p'.kept j ≡ p.kept j) → (j : ℕ) → j < mark_count → j ≢ m → MarkHolds (ctx s⁺ olds) p' j
    kept-other p' k j jb n =
        let q = other-mark j n in
        ⊎_elim (λ u. inl (q ∙ u.0, k j n ∙ u.1))
        (λ u. inr (
          omega (arith, q, u.0),
          u.1,
          k j n ∙ u.2,
          λ r rb. subst (λ (i : ℕ). Sees s.slots i (u.1 r) (chain x r)) (sym q) (u.3 r rb),
        ))
        (I.marks j jb)

    -- whoever reads reads another mark, or as of its own time
    reads_on : (p' : Plain) → ((v : ℕ) → p'.copy v ≡ p.copy v) → ((j : ℕ) → j ≢ m → p'.kept j ≡ p.kept j)
        → (v : ℕ) (y : Purpose) → y ≢ Marked m
        → (time_in (ctx s⁺ olds) (worker_at s v).announced y ≡ time_in x (worker_at s v).announced y) × (copy_for p' v y ≡ copy_for p v y)
    reads_on p' c k v Single n = (refl, c v)
    reads_on p' c k v (Marked j) n = let i : j ≢ m = λ z. n (ap Marked z) in (other-mark j i, k j i)
    reads_on p' c k v (Totaling g i y) n = (refl, c v)

    pub mark-kept : (b ≡ absent) ⊎ (b ≡ t) → Settled x t → ((c : ℕ) → in_doing c d ≡ 0)
        → ((r c : ℕ) → (worker_at s w).doing ≡ PutStamp r c → (nth s.slots c).high ≡ absent → ⊥)
        → (k : ℕ) (K : Running h w k) → occurrences k o ≡ 0 → (op : Operation) → (call_at h k).operation ≡ op → at_end op ≡ true
        → feed p w op ≡ record { registers = p.registers; copy = p.copy; kept = update p.kept m f }
        → shows s.site.rows p w op ≡ some Done → showing op ≡ true
        → ((v : ℕ) → v < s.site.P → v ≢ w → (g : Goal) (i : ℕ) → (worker_at s v).doing ≡ ReadStand g i → g.purpose ≢ Marked m)
        → MarkHolds (ctx s⁺ olds) (record { registers = p.registers; copy = p.copy; kept = update p.kept m f }) m
        → Kept start now s⁺ (map (end_for now w Done) h) (o ++ end_effects h w Done)
    mark-kept came st empty nc k K n op is en fd sh so unread here =
        one_more_lem o (end_effects h w Done) k (own_is K Done refl (ap at_end is ∙ en))
        (record {
          olds = olds;
          p = p⁺;
          inv =
              marked-inv now s olds h o p I w wb y⁺ s.queue marks⁺ (now + 1) (map (end_for now w Done) h) (o ++ (k ∷ [])) p⁺
              (λ i. omega (arith, ap (in_doing i) e, empty i)) I.queue (came⁺ came) nc H (length-set s.marks m b ∙ I.marks_length)
              (λ j jb. ⊎_elim (λ u. subst (MarkHolds (ctx s⁺ olds) p⁺) (sym u.0) here)
              (λ u. kept-other p⁺ (λ i z. put-at_other p.kept m f i z) j jb u.0) (eq_cases j m))
              (λ v vb vn g i z. reads_on p⁺ (λ v. refl) (λ j q. put-at_other p.kept m f j q) v g.purpose (unread v vb vn g i z))
              (record {
                pool = (I.workers w wb).pool;
                announced = (I.workers w wb).announced;
                snapshot = (I.workers w wb).snapshot;
                doing = st;
                current = end-shut now w h o p I.linear Done k K;
              });
        })
      where
        p⁺ : Plain
        p⁺ = record { registers = p.registers; copy = p.copy; kept = update p.kept m f }

        fed : feed p w (call_at h k).operation ≡ p⁺
        fed = ap (feed p w) is ∙ fd

        H : Hist s.site.rows start (now + 1) w h o p (map (end_for now w Done) h) (o ++ (k ∷ [])) p⁺
        H =
            subst (Hist s.site.rows start (now + 1) w h o p (map (end_for now w Done) h) (o ++ (k ∷ []))) fed
            (hist-show now w h o p I.linear Done k K n refl
            (subst (λ (z : Operation). Agrees z (FinishedAt now Done) (shows s.site.rows p w z)) (sym is)
            (subst (λ (z : Bool). AgreesIf z (FinishedAt now Done) (shows s.site.rows p w op)) (sym so) sh))
            (λ r. ap (λ (q : Plain). q.registers r) fed) (λ v z. ap (λ (q : Plain). q.copy v) fed))

  -- mark: the copy under the mark is the worker's
  pub keep_kept : (m : ℕ) → (worker_at s w).doing ≡ OnTime (MarkKeep m) → mark_refusal s (EmptyMark m) ≡ none
      → Kept start now (with_marks (place s w Idle) (set s.marks m t)) (map (end_for now w Done) h) (o ++ end_effects h w Done)
  unfolding feed shows no_copy at_end
  keep_kept m e q =
      let d = doing_is now s olds h o p I w wb (OnTime (MarkKeep m)) e in
      let c = cur_is now s olds h o p I w wb (OnTime (MarkKeep m)) e in
      let S = (I.workers w wb).snapshot d.1 in
      mark-kept m t d.0 (OnTime (MarkKeep m)) e (p.copy w) (inr refl) (inr d.1) (λ i. refl)
      (calm now s olds h o p I w wb (OnTime (MarkKeep m)) tt e) c.0 c.1 c.2.1 (Mark m) c.2.0 refl refl
      (rw (⊎_elim (λ u. u.1) (λ u. absurd (full u.0)) (I.marks m d.0))) refl
      (λ v vb vn g i z j. standing v vb g i z j)
      (subst (λ (i : ℕ). ((i ≡ absent) × (update p.kept m (p.copy w) m ≡ none))
      ⊎ ((i < s.clock) × (f : ℕ → Content) × (update p.kept m (p.copy w) m ≡ some f)
      × ((r : ℕ) → r < s.site.V' → Sees s.slots i (f r) (chain x r))))
      (sym (own-mark m t d.0 (OnTime (MarkKeep m)) e (p.copy w)))
      (inr (d.1, S.0, put-at_same p.kept m (p.copy w) ∙ S.1, S.2)))
    where
      full : mark_at s m < s.clock → ⊥
      full z = omega (arith, z, empty-is s m q, I.clock_fits)

      -- a mark that is empty is read by nobody
      standing : (v : ℕ) → v < s.site.P → (g : Goal) (i : ℕ) → (worker_at s v).doing ≡ ReadStand g i → g.purpose ≢ Marked m
      standing v vb g i z j =
          full (subst (λ (y : Purpose). time_in x (worker_at s v).announced y < s.clock) j (doing_is now s olds h o p I v vb (ReadStand g i) z).2.0)

  -- release: there is none
  pub release_kept : (m : ℕ) → (worker_at s w).doing ≡ OnTime (MarkRelease m) → mark_refusal s (UnreadMark m) ≡ none
      → Kept start now (with_marks (place s w Idle) (set s.marks m absent)) (map (end_for now w Done) h) (o ++ end_effects h w Done)
  unfolding feed shows in_copy at_end
  release_kept m e q =
      let d = doing_is now s olds h o p I w wb (OnTime (MarkRelease m)) e in
      let c = cur_is now s olds h o p I w wb (OnTime (MarkRelease m)) e in
      let u = unread_is s m q in
      mark-kept m absent d.0 (OnTime (MarkRelease m)) e none (inl refl) d.1 (λ i. refl)
      (calm now s olds h o p I w wb (OnTime (MarkRelease m)) tt e) c.0 c.1 c.2.1 (Release m) c.2.0 refl refl
      (⊎_elim (λ z. absurd (omega (arith, z.0, u.0))) (λ z. rw z.2) (I.marks m d.0)) refl
      (λ v vb vn g i z. not_read s m v u.1 (omega (arith, vb, I.workers_length)) g i z)
      (inl (own-mark m absent d.0 (OnTime (MarkRelease m)) e none, put-at_same p.kept m none))
