-- What billing may rely on: along the order the copy under a mark changes at a mark of it, which finds none, and at a release of it.
use mathlib.Core.Path.{◌≡◌, refl, sym, ap, ◌∙◌, subst}
use mathlib.Core.Bool.{true}
use mathlib.Core.Logic.{◌≢◌, ◌⊎◌, inl, inr, ⊎_elim}
use mathlib.Core.List.{List, [], ◌∷◌}
use mathlib.Core.Option.{Option, none, some}
use Prim.Native.Nat.{ℕ, ◌<◌}
use native.Mathlib.Nat.{not-suc-le-zero}
use native.Mathlib.Omega.{arith}
use lib.ListN.{length}
use Rattle.model.specs.Store.{Content}
use Rattle.model.specs.Answer.{Answer, Done}
use Rattle.model.specs.Steps.{answer_for}
use Rattle.model.specs.Record.{Operation, Put, Open, Read, Close, Get, Collect, Total, Mark, Release, MarkedRead}
use Rattle.model.specs.Demand.{Ending, Unfinished, RefusedAt, FinishedAt, Call, Plain, plain₀, feed, in_copy, no_copy, shows, at_end}
use Rattle.model.specs.Demand.{occurrences, Stands, FinishedBefore, FinishedBy, ByEnds, Agrees, RegistersAgree}
use Rattle.model.specs.Demand.{IsOrder, call_at}
use Rattle.model.specs.MonthEnd.{ReleasedBetween, SameFigures, MonthEnd}
use Rattle.model.proofs.Basic.{hit_same, hit_other, eq_cases, lt_cases, All-get}
use Rattle.theorem.proofs.Stamp.{put-at_other}

-- what a copy shows is there
shown_is : (y : Option (ℕ → Content)) (q : (ℕ → Content) → Answer) (a : Answer) → in_copy y q ≡ some a → (f : ℕ → Content) × (y ≡ some f) × (q f ≡ a)
unfolding in_copy
shown_is none q a e = let z : ◌≡◌ {A = ℕ} 0 1 = cc in absurd (omega (arith, z))
shown_is (some f) q a e = (f, refl, let z : q f ≡ a = cc in z)

-- a mark shows nothing where there is a copy
full_shows : (f : ℕ → Content) (a b : Answer) → no_copy (some f) a ≡ some b → ⊥
unfolding no_copy
full_shows f a b e = let z : ◌≡◌ {A = ℕ} 0 1 = cc in omega (arith, z)

-- what a finished marked read, and a mark, were shown
marked_shown : (rows : List ℕ) (p : Plain) (w r m n : ℕ) (a : Answer) → Agrees (MarkedRead r m) (FinishedAt n a) (shows rows p w (MarkedRead r m))
    → in_copy (p.kept m) (λ f. answer_for (f r)) ≡ some a
unfolding shows
marked_shown rows p w r m n a q = q

mark_shown : (rows : List ℕ) (p : Plain) (w m n : ℕ) (a : Answer) → Agrees (Mark m) (FinishedAt n a) (shows rows p w (Mark m))
    → no_copy (p.kept m) Done ≡ some a
unfolding shows
mark_shown rows p w m n a q = q

some_inj : {f g : ℕ → Content} → some f ≡ some g → f ≡ g
some_inj q = cc

module _ (rows : List ℕ) (h : List Call) (m : ℕ) where
  abbrev op : ℕ → Operation
  op i = (call_at h i).operation

  abbrev end : ℕ → Ending
  end i = (call_at h i).ending

  -- what is fed is a mark of it, or a release of it, or keeps the copy under it
  kept_cases : (p : Plain) (w : ℕ) (c : Operation) → (c ≡ Mark m) ⊎ ((c ≡ Release m) ⊎ ((feed p w c).kept m ≡ p.kept m))
  unfolding feed
  kept_cases p w (Put r x) = inr (inr refl)
  kept_cases p w Open = inr (inr refl)
  kept_cases p w (Read r) = inr (inr refl)
  kept_cases p w Close = inr (inr refl)
  kept_cases p w (Get r) = inr (inr refl)
  kept_cases p w Collect = inr (inr refl)
  kept_cases p w (Total g) = inr (inr refl)
  kept_cases p w (Mark j) = ⊎_elim (λ u. inl (ap Mark (sym u.0))) (λ u. inr (inr (put-at_other p.kept j (p.copy w) m u.0))) (eq_cases m j)
  kept_cases p w (Release j) = ⊎_elim (λ u. inr (inl (ap Release (sym u.0)))) (λ u. inr (inr (put-at_other p.kept j none m u.0))) (eq_cases m j)
  kept_cases p w (MarkedRead r j) = inr (inr refl)

  -- one that was finished later than another was finished, at a record between
  later : (e : Ending) (k : ℕ) → FinishedBefore k e → (n : ℕ) × (a : Answer) × (e ≡ FinishedAt n a) × (n < k)
  later Unfinished k z = absurd z
  later (RefusedAt i) k z = absurd z
  later (FinishedAt i a) k z = (i, a, refl, z)

  -- a marked read was shown what is under the mark
  read_shown : (p : Plain) (r i n : ℕ) (a : Answer) → op i ≡ MarkedRead r m → end i ≡ FinishedAt n a
      → Agrees (op i) (end i) (shows rows p (call_at h i).worker (op i)) → (f : ℕ → Content) × (p.kept m ≡ some f) × (answer_for (f r) ≡ a)
  read_shown p r i n a iop iend z =
      shown_is (p.kept m) (λ f. answer_for (f r)) a
      (marked_shown rows p (call_at h i).worker r m n a
      (subst (λ (e : Ending). Agrees (MarkedRead r m) e (shows rows p (call_at h i).worker (MarkedRead r m))) iend
      (subst (λ (c : Operation). Agrees c (end i) (shows rows p (call_at h i).worker c)) iop z)))

  module _ (r j k : ℕ) (b : Answer) (jop : op j ≡ MarkedRead r m) (jend : end j ≡ FinishedAt k b) where
    j-at-end : at_end (op j) ≡ true
    j-at-end = unfold at_end in (ap at_end jop)

    j-before : (e : Ending) → FinishedBy e (end j) → FinishedBefore k e
    j-before e z = subst (FinishedBy e) jend z

    -- from plain registers on that have the copy f under the mark, to read j, all with ends after record n
    walk : (n : ℕ) → (ReleasedBetween h m n k → ⊥) → (f : ℕ → Content) (p : Plain) (o : List ℕ) → p.kept m ≡ some f
        → ((i : ℕ) → 0 < occurrences i o → i < length h)
        → RegistersAgree rows h p o → ByEnds h o → 0 < occurrences j o
        → ((i l : ℕ) (a : Answer) → 0 < occurrences i o → at_end (op i) ≡ true → end i ≡ FinishedAt l a → n < l)
        → answer_for (f r) ≡ b
    unfolding RegistersAgree ByEnds occurrences
    walk n free f p [] e inside R B there past = absurd (not-suc-le-zero there)
    walk n free f p (c ∷ o) e inside R B there past =
        ⊎_elim (λ u. here u.0)
        (λ u. on u.0 (λ z. walk n free f (feed p (call_at h c).worker (op c)) o z (λ i x. inside i (omega (arith, x))) R.1 B.1
        (omega (arith, there, hit_other c j u.0)) (λ i l a x. past i l a (omega (arith, x)))))
        (eq_cases c j)
      where
        here : c ≡ j → answer_for (f r) ≡ b
        here u =
            let z = read_shown p r j k b jop jend
            (subst (λ (i : ℕ). Agrees (op i) (end i) (shows rows p (call_at h i).worker (op i))) u R.0) in
            ap (λ (g : ℕ → Content). answer_for (g r)) (some_inj (sym e ∙ z.1)) ∙ z.2

        on : c ≢ j → ((feed p (call_at h c).worker (op c)).kept m ≡ some f → answer_for (f r) ≡ b) → answer_for (f r) ≡ b
        on u rest =
            ⊎_elim (λ z. absurd (marks z)) (⊎_elim (λ z. absurd (releases z)) (λ z. rest (z ∙ e)))
            (kept_cases p (call_at h c).worker (op c))
          where
            next : 0 < occurrences j o
            next = omega (arith, there, hit_other c j u)

            first : 0 < occurrences c (c ∷ o)
            first = omega (arith, hit_same c)

            -- it takes effect at its end, so it was finished, before read j
            ended : at_end (op c) ≡ true → (l : ℕ) × (a : Answer) × (end c ≡ FinishedAt l a) × (l < k)
            ended z = later (end c) k (j-before (end c) (All-get _ o B.0 j next z j-at-end))

            -- a mark of it would have found no copy
            marks : op c ≡ Mark m → ⊥
            marks z =
                let q = ended (at-end z) in
                full_shows f Done q.1 (sym (ap (λ (y : Option (ℕ → Content)). no_copy y Done) e)
                ∙ mark_shown rows p (call_at h c).worker m q.0 q.1 (subst (λ (i : Ending). Agrees (Mark m) i (shows rows p (call_at h c).worker (Mark m))) q.2
                (subst (λ (i : Operation). Agrees i (end c) (shows rows p (call_at h c).worker i)) z R.0)))
              where
                at-end : op c ≡ Mark m → at_end (op c) ≡ true
                at-end z = unfold at_end in (ap at_end z)

            -- a release of it would be between the two
            releases : op c ≡ Release m → ⊥
            releases z =
                let q = ended (at-end z) in
                free (q.0, q.1, past c q.0 q.1 first (at-end z) q.2, q.3, (c, inside c first, z, q.2))
              where
                at-end : op c ≡ Release m → at_end (op c) ≡ true
                at-end z = unfold at_end in (ap at_end z)

    -- along the order, to the earlier of the two reads
    find : (i n : ℕ) (a : Answer) → op i ≡ MarkedRead r m → end i ≡ FinishedAt n a → n < k → (ReleasedBetween h m n k → ⊥)
        → (p : Plain) (o : List ℕ) → ((c : ℕ) → 0 < occurrences c o → c < length h)
        → RegistersAgree rows h p o → ByEnds h o → 0 < occurrences i o → 0 < occurrences j o → a ≡ b
    unfolding RegistersAgree ByEnds occurrences
    find i n a iop iend less free p [] inside R B x y = absurd (not-suc-le-zero x)
    find i n a iop iend less free p (c ∷ o) inside R B x y =
        ⊎_elim (λ u. here u.0) (λ u. ⊎_elim (λ v. absurd (wrong v.0 u.0))
        (λ v. find i n a iop iend less free (feed p (call_at h c).worker (op c)) o (λ d z. inside d (omega (arith, z))) R.1 B.1
        (omega (arith, x, hit_other c i u.0)) (omega (arith, y, hit_other c j v.0)))
        (eq_cases c j)) (eq_cases c i)
      where
        i-at-end : at_end (op i) ≡ true
        i-at-end = unfold at_end in (ap at_end iop)

        -- the later of the two does not stand first
        wrong : c ≡ j → c ≢ i → ⊥
        wrong u v =
            let z = All-get _ o B.0 i (omega (arith, x, hit_other c i v)) (ap (λ (d : ℕ). at_end (op d)) u ∙ j-at-end) i-at-end in
            omega (arith, less, subst (λ (e : Ending). FinishedBy e (FinishedAt n a)) (ap end u ∙ jend) (subst (FinishedBy (end c)) iend z))

        here : c ≡ i → a ≡ b
        here u =
            let ne : c ≢ j = λ v. omega (arith, less, same (sym iend ∙ ap end (sym u ∙ v) ∙ jend)) in
            let z = read_shown p r i n a iop iend
            (subst (λ (d : ℕ). Agrees (op d) (end d) (shows rows p (call_at h d).worker (op d))) u R.0) in
            sym z.2 ∙ walk n free z.0 _ o (fed u ∙ z.1) (λ d q. inside d (omega (arith, q))) R.1 B.1
            (omega (arith, y, hit_other c j ne)) (after u)
          where
            same : {l l' : ℕ} {e e' : Answer} → FinishedAt l e ≡ FinishedAt l' e' → l ≡ l'
            same q = cc

            fed : c ≡ i → (feed p (call_at h c).worker (op c)).kept m ≡ p.kept m
            fed u = unfold feed in (ap (λ (d : Operation). (feed p (call_at h c).worker d).kept m) (ap op u ∙ iop))

            after : c ≡ i → (d l : ℕ) (e : Answer) → 0 < occurrences d o → at_end (op d) ≡ true → end d ≡ FinishedAt l e → n < l
            after u d l e q at-end z =
                let g = All-get _ o B.0 d q (ap (λ (s : ℕ). at_end (op s)) u ∙ i-at-end) at-end in
                subst (λ (s : Ending). FinishedBy s (FinishedAt l e)) (ap end u ∙ iend) (subst (FinishedBy (end c)) z g)

-- a finished call stands in the order
stands_once : {n : ℕ} (e : Ending) (l : ℕ) (a : Answer) → e ≡ FinishedAt l a → Stands e n → n ≡ 1
stands_once {n} e l a q s = subst (λ (i : Ending). Stands i n) q s

pub same_figures : (rows : List ℕ) (start : ℕ → Content) (h : List Call) (o : List ℕ) → IsOrder rows start h o → SameFigures h
same_figures rows start h o O r m n k a b i j less free =
    find rows h m r j.0 k b j.2 j.3 i.0 n a i.2 i.3 less free (plain₀ start) o
    (λ c x. ⊎_elim (λ u. u.0) (λ u. absurd (omega (arith, x, O.within c u.0))) (lt_cases c (length h)))
    O.registers_agree O.by_ends
    (omega (arith, stands_once (call_at h i.0).ending n a i.3 (O.stands i.0 i.1)))
    (omega (arith, stands_once (call_at h j.0).ending k b j.3 (O.stands j.0 j.1)))

pub month_end_lem : MonthEnd
month_end_lem rows start es D = same_figures rows start _ _ D.is_order
