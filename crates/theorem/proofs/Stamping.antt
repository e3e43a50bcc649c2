-- The steps that stamp a register and change the worker's place: read (1), get, put (2).
use mathlib.Core.Path.{◌≡◌, refl, sym, ap, ◌∙◌, subst}
use mathlib.Core.Bool.{cond}
use mathlib.Core.Logic.{◌≢◌, inl, ⊎_elim}
use mathlib.Core.List.{List, ◌++◌, map, append_assoc}
use mathlib.Core.Option.{none, some}
use Prim.Native.Nat.{ℕ, ◌≤◌, ◌<◌}
use native.Mathlib.Omega.{arith}
use lib.Dec.{eqb}
use Rattle.model.specs.Store.{absent, Content, Purpose, Single, Marked, Totaling, Idle, PutStamp, PutHandIn, Goal, ReadEnter}
use Rattle.model.specs.Store.{ReadStand, GetShow, Store, worker_at, slot_at, newest_of, place}
use Rattle.model.specs.Marks.{mark_refusal, need_for}
use Rattle.model.specs.Versions.{stamp}
use Rattle.model.specs.Steps.{answer_for}
use Rattle.model.specs.Demand.{Call, end_for, Plain, shows, change_effects, end_effects}
use Rattle.model.proofs.Basic.{eq_cases, All-get}
use Rattle.theorem.proofs.Effect.{change-none}
use Rattle.theorem.proofs.Found.{answer_for-tells}
use Rattle.theorem.proofs.Slots.{nth, stamp-value}
use Rattle.theorem.proofs.Chain.{Past}
use Rattle.theorem.proofs.Invariant.{ctx, old, PlaceHolds, Inv}
use Rattle.theorem.proofs.Marking.{Source, source}
use Rattle.theorem.proofs.Stamp.{Stamped, stamp-inv}
use Rattle.theorem.proofs.History.{hist_skip}
use Rattle.theorem.proofs.Looks.{Looks, looks_get}
use Rattle.theorem.proofs.Places.{Kept, none_more, place-inv, doing_is, cur_is, calm, fine_high}
use Rattle.theorem.proofs.Places.{shown_kept}

-- the covered version is stamped: on to the hand-in
cover_on : {start : ℕ → Content} (now : ℕ) (s : Store) (olds : List (List ℕ)) (h : List Call) (o : List ℕ) (p : Plain) → Inv start now s olds h o p → (w : ℕ) → w < s.site.P
    → (r c : ℕ) → (worker_at s w).doing ≡ PutStamp r c → (nth s.slots c).high ≤ s.clock → Kept start now (place s w (PutHandIn r c)) h o
cover_on now s olds h o p I w wb r c e hi =
    let d = doing_is now s olds h o p I w wb (PutStamp r c) e in
    let a = cur_is now s olds h o p I w wb (PutStamp r c) e in
    place-inv now s olds h o p I w wb (PutStamp r c) (PutHandIn r c) e (λ i. refl)
    (λ q i z y. let j : i ≡ c = cc in omega (arith, hi, I.clock_fits, y, ap (λ (k : ℕ). (nth s.slots k).high) j))
    h o p (hist_skip now w h o p I.linear) refl (λ m. refl)
    (d.0, d.1, d.2, hi)
    (a.0, a.1, ((r, a.2.0, a.2.1), ⊎_elim (λ u. absurd (omega (arith, u.0, hi, I.clock_fits))) (λ u. u.1) a.2.2))

module _ {start : ℕ → Content} (now : ℕ) (s : Store) (olds : List (List ℕ)) (h : List Call) (o : List ℕ) (p : Plain) (I : Inv start now s olds h o p) (w : ℕ)
    (wb : w < s.site.P) where
  pub cover_kept : (r c : ℕ) → (worker_at s w).doing ≡ PutStamp r c
      → Kept start now (place (cond (eqb (slot_at s c).high absent) (stamp s r) s) w (PutHandIn r c)) h
      (o ++ change_effects h s (cond (eqb (slot_at s c).high absent) (stamp s r) s))
  unfolding stamp
  cover_kept r c e = ⊎_elim (λ u. rw u.1 first) (λ u. rw u.1 (second u.0)) (eq_cases (slot_at s c).high absent)
    where
      d : PlaceHolds (ctx s olds) p w (worker_at s w).announced (PutStamp r c)
      d = doing_is now s olds h o p I w wb (PutStamp r c) e

      T : Stamped start now s r olds h o
      T = stamp-inv now s olds h o p I r d.0

      first : Kept start now (place (stamp s r) w (PutHandIn r c)) h (o ++ change_effects h s (stamp s r))
      first =
          subst (Kept start now (place (stamp s r) w (PutHandIn r c)) h) T.grown
          (cover_on now (stamp s r) olds h T.o T.p T.inv w wb r c e
          (⊎_elim (λ u. (All-get (Past (stamp s r).slots s.clock) (old (ctx s olds) r) u.2 c d.2).1)
          (λ u. absurd (omega (arith, T.low, u.0, I.clock_fits))) (T.inv.stamps r d.0).1))

      second : (slot_at s c).high ≢ absent → Kept start now (place s w (PutHandIn r c)) h (o ++ change_effects h s s)
      second n =
          none_more o (change_effects h s s) (change-none h s s refl (λ v q i z y. refl))
          (cover_on now s olds h o p I w wb r c e (fine_high s.slots s.clock (p.registers r) (newest_of s r) c (old (ctx s olds) r)
          (I.stamps r d.0) d.2 n))

  pub enter_kept : (g : Goal) → (worker_at s w).doing ≡ ReadEnter g → mark_refusal s (need_for g.purpose) ≡ none
      → Kept start now (place (stamp s g.register) w (ReadStand g (newest_of s g.register))) h (o ++ change_effects h s (stamp s g.register))
  unfolding stamp
  enter_kept g e q =
      let a = cur_is now (stamp s r) olds h T.o T.p T.inv w wb (ReadEnter g) e in
      subst (Kept start now (place (stamp s r) w (ReadStand g (newest_of s r))) h) T.grown
      (place-inv now (stamp s r) olds h T.o T.p T.inv w wb (ReadEnter g) (ReadStand g (newest_of s r)) e (λ i. refl)
      (calm now (stamp s r) olds h T.o T.p T.inv w wb (ReadEnter g) tt e)
      h T.o T.p (hist_skip now w h T.o T.p T.inv.linear) refl (λ m. refl)
      (d.0, d.1, (S.0, S.1, S.2, inl (refl, S.3 r d.0)), D.2)
      (a.0, a.1, a.2))
    where
      r : ℕ
      r = g.register

      d : PlaceHolds (ctx s olds) p w (worker_at s w).announced (ReadEnter g)
      d = doing_is now s olds h o p I w wb (ReadEnter g) e

      T : Stamped start now s r olds h o
      T = stamp-inv now s olds h o p I r d.0

      D : PlaceHolds (ctx (stamp s r) olds) T.p w (worker_at s w).announced (ReadEnter g)
      D = doing_is now (stamp s r) olds h T.o T.p T.inv w wb (ReadEnter g) e

      -- stamping moves no mark
      same_refusal : (y : Purpose) → mark_refusal (stamp s r) (need_for y) ≡ mark_refusal s (need_for y)
      same_refusal Single = unfold mark_refusal in refl
      same_refusal (Marked m) = unfold mark_refusal in refl
      same_refusal (Totaling j i k) = unfold mark_refusal in refl

      S : Source now (stamp s r) olds h T.o T.p T.inv w wb g.purpose
      S = source now (stamp s r) olds h T.o T.p T.inv w wb g.purpose d.1 (same_refusal g.purpose ∙ q)

  pub show_kept : (r : ℕ) → (worker_at s w).doing ≡ GetShow r
      → Kept start now (place (stamp s r) w Idle) (map (end_for now w (answer_for (slot_at s (newest_of s r)).value)) h)
      (o ++ (change_effects h s (stamp s r) ++ end_effects h w (answer_for (slot_at s (newest_of s r)).value)))
  unfolding stamp shows
  show_kept r e =
      let a = cur_is now (stamp s r) olds h T.o T.p T.inv w wb (GetShow r) e in
      subst (Kept start now (place (stamp s r) w Idle) (map (end_for now w (answer_for v)) h))
      (append_assoc o (change_effects h s (stamp s r)) (end_effects h w (answer_for v)))
      (subst (λ (q : List ℕ). Kept start now (place (stamp s r) w Idle) (map (end_for now w (answer_for v)) h) (q ++ end_effects h w (answer_for v))) T.grown
      (shown_kept now (stamp s r) olds h T.o T.p T.inv w wb (GetShow r) e tt (λ i. refl) d.1 a.0 a.1 a.2.1
      (subst Looks (sym a.2.0) (looks_get r)) (answer_for v) (answer_for-tells v)
      (rw a.2.0 (ap (λ (q : Content). some (answer_for q)) (sym val)))))
    where
      v : Content
      v = (slot_at s (newest_of s r)).value

      d : PlaceHolds (ctx s olds) p w (worker_at s w).announced (GetShow r)
      d = doing_is now s olds h o p I w wb (GetShow r) e

      T : Stamped start now s r olds h o
      T = stamp-inv now s olds h o p I r d.0

      val : v ≡ T.p.registers r
      val =
          sym (stamp-value s.slots (newest_of s r) s.clock (newest_of s r))
          ∙ ⊎_elim (λ u. u.1) (λ u. absurd (omega (arith, T.low, u.0, I.clock_fits))) (T.inv.stamps r d.0).1
