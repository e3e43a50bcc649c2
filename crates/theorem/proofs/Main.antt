-- Demand 3, for every accepted setup and every list of records.
use mathlib.Core.Path.{◌≡◌, refl, sym, ap, ◌∙◌, subst}
use mathlib.Core.Logic.{⊎_elim}
use mathlib.Core.List.{List, [], ◌∷◌, ◌++◌, map, append-nil, append_assoc}
use Prim.Native.Nat.{ℕ, zero, suc, ◌+◌, ◌<◌}
use native.Mathlib.Nat.{not-suc-le-zero, le_of_suc-le-suc}
use native.Mathlib.Omega.{arith}
use lib.ListN.{length, get_or}
use Rattle.model.specs.Store.{Content, Site, Store, Hub, up}
use Rattle.model.specs.Rules.{Ruled}
use Rattle.model.specs.Answer.{Answer, Freed}
use Rattle.model.specs.Record.{decode}
use Rattle.model.specs.Apply.{made_by, apply_ruled, answers_to}
use Rattle.model.specs.Demand.{Event, events, Call, observe, history, StepsTaken, Plain, start_of, plain₀, effects, order, occurrences, All}
use Rattle.model.specs.Demand.{IsOrder, FreesNothingNeeded, TookBy, Took, event₀, FreedOnce, Demand3, rows_in, Demand, exchange}
use Rattle.theorem.proofs.Invariant.{Inv}
use Rattle.theorem.proofs.Record.{Holds, apply-holds, step-taken}
use Rattle.theorem.proofs.Setup.{accepts, accepted_inv}

-- what is shown of the records from number `now` on, which find the rows of totals, the free slots `free`, the operations h and the order o
record Result (rows : List ℕ) (start : ℕ → Content) (now : ℕ) (free : List ℕ) (es : List Event) (h : List Call) (o : List ℕ) : Type 0 where
  taken : StepsTaken now es h
  is_order : IsOrder rows start (history now (map exchange es) h) (o ++ order now es h)
  safe : All (λ (e : Event). FreesNothingNeeded e.before e.answer) es
  again : (c j : ℕ) → 0 < occurrences c free → j < length es → (get_or es j event₀).answer ≡ Freed c → (k : ℕ) × (k < j) × Took c (get_or es k event₀)
  once : FreedOnce es

run : {start : ℕ → Content} (bs : List Ruled) (now : ℕ) (s : Store) (olds : List (List ℕ)) (h : List Call) (o : List ℕ) (p : Plain) → Inv start now s olds h o p
    → Result s.site.rows start now s.free (events (up s) bs) h o
unfolding events history StepsTaken order
run {start} [] now s olds h o p I =
    record {
      taken = tt;
      is_order = subst (IsOrder s.site.rows start h) (sym (append-nil o)) I.linear.is_order;
      safe = tt;
      again = λ c j z b. absurd (not-suc-le-zero b);
      once = λ c i j z b. absurd (not-suc-le-zero b);
    }
run {start} (b ∷ bs) now s olds h o p I = join (run bs (now + 1) A.store A.kept.olds h' o' A.kept.p A.kept.inv)
  where
    A : Holds start now s (decode b.bytes) h o (apply_ruled (up s) b)
    A = apply-holds now s olds h o p I b.rules b.bytes

    h' : List Call
    h' = observe now (decode b.bytes) (apply_ruled (up s) b).answer h

    -- the order after this record
    o' : List ℕ
    o' = o ++ effects h (decode b.bytes) (up s) (apply_ruled (up s) b).answer (up A.store)

    es : List Event
    es = events (apply_ruled (up s) b).hub bs

    e₀ : Event
    e₀ = record { given = b.rules.given; bytes = b.bytes; before = up s; answer = (apply_ruled (up s) b).answer; after = (apply_ruled (up s) b).hub }

    join : Result A.store.site.rows start (now + 1) A.store.free (events (up A.store) bs) h' o'
        → Result s.site.rows start now s.free (e₀ ∷ es) h o
    join R₀ =
        record {
          taken = (step-taken now s olds h o p I (decode b.bytes), R.taken);
          is_order =
              subst (IsOrder s.site.rows start (history (now + 1) (map exchange es) h'))
              (append_assoc o (effects h (decode b.bytes) (up s) (apply_ruled (up s) b).answer (up A.store)) (order (now + 1) es h')
              ∙ ap (λ (q : Hub). o ++ (effects h (decode b.bytes) (up s) (apply_ruled (up s) b).answer q ++ order (now + 1) es h')) (sym A.is))
              R.is_order;
          safe = (A.safe, R.safe);
          again = again;
          once = once;
        }
      where
        R : Result s.site.rows start (now + 1) A.store.free es h' o'
        R =
            subst (λ (q : Hub). Result s.site.rows start (now + 1) A.store.free (events q bs) h' o') (sym A.is)
            (subst (λ (q : Site). Result q.rows start (now + 1) A.store.free (events (up A.store) bs) h' o') A.site R₀)

        again : (c j : ℕ) → 0 < occurrences c s.free → j < length (e₀ ∷ es) → (get_or (e₀ ∷ es) j event₀).answer ≡ Freed c
            → (k : ℕ) × (k < j) × Took c (get_or (e₀ ∷ es) k event₀)
        again c zero z d f = absurd (omega (arith, z, (A.frees c f).0))
        again c (suc j) z d f =
            ⊎_elim
            (λ u. let a = R.again c j u (le_of_suc-le-suc d) f in (suc a.0, omega (arith, a.1), a.2))
            (λ u. (0, omega arith, subst (TookBy c (decode b.bytes) (up s) (apply_ruled (up s) b).answer) (sym A.is) u))
            (A.stays c z)

        once : FreedOnce (e₀ ∷ es)
        once c i zero z d f g = absurd (not-suc-le-zero z)
        once c zero (suc j) z d f g =
            let a = R.again c j (A.frees c f).1 (le_of_suc-le-suc d) g in (suc a.0, omega arith, omega (arith, a.1), a.2)
        once c (suc i) (suc j) z d f g =
            let a = R.once c i j (le_of_suc-le-suc z) (le_of_suc-le-suc d) f g in (suc a.0, omega (arith, a.1), omega (arith, a.2), a.3)

------------------------------------------------------------------------
-- The theorem

pub demand : Demand
demand row b e bs =
    let A = accepts b.rules row b.bytes e in
    subst (λ (q : Hub). Demand3 (rows_in q) (start_of b.rules.given) (events q bs)) (sym A.is)
    (whole (run bs 0 (made_by b.rules A.sizes row) _ [] [] (plain₀ (start_of b.rules.given)) (accepted_inv b.rules A)))
  where
    whole : {rows free : List ℕ} {start : ℕ → Content} {es : List Event} → Result rows start 0 free es [] [] → Demand3 rows start es
    whole R = record { steps_taken = R.taken; is_order = R.is_order; frees_nothing_needed = R.safe; freed_once = R.once }

-- the answers that the log shows are those of the events
pub answers-of_events : (h : Hub) (bs : List Ruled) → map (λ (e : Event). e.answer) (events h bs) ≡ answers_to h bs
unfolding events answers_to
answers-of_events h [] = refl
answers-of_events h (b ∷ bs) = ap (λ (l : List Answer). (apply_ruled h b).answer ∷ l) (answers-of_events (apply_ruled h b).hub bs)
