-- The decision on a record is the model's, for a store in memory. The tests of a begin are the model's own, of what memory has; a worker's record is
-- looked at only where the worker is below P, and there it is the model's worker in memory.
use mathlib.Core.Path.{◌≡◌, refl, sym, ap, subst, ◌∙◌}
use mathlib.Core.Bool.{Bool, true, false, true≢false, cond}
use mathlib.Core.List.{List, map}
use Prim.Native.Nat.{ℕ, ◌<◌, ◌%◌}
use native.Mathlib.Omega.{arith}
use lib.Dec.{ltb}
use lib.ListN.{length, replicate, length-map}
use Rattle.lists.proofs.Over.{take-over}
use borrow.Author.Tests.{ltb-true}
use Rattle.model.specs.Store as Model
use Rattle.model.specs.Store.{Store, up, absent, mark_count, worker_at, place}
use Rattle.model.specs.Marks as Mark
use Rattle.model.specs.Marks.{mark_refusal, number_of}
use Rattle.model.specs.Rights.{allowed}
use Rattle.model.specs.Rules.{Given, in_force}
use Rattle.model.specs.Answer.{Ok, Stepped, Applied}
use Rattle.model.specs.Record as Record
use Rattle.model.specs.Steps.{step_at}
use Rattle.model.specs.Demand.{occurrences}
use Rattle.model.specs.Refusals.{on_reading}
use Rattle.model.specs.Apply.{refuse, Terms, terms, named_below, group_there, value_within, status_known, is_idle, may_open, may_use_time, tested, Seen}
use Rattle.model.specs.Apply.{refusal, seen, refused_by, set_up, begin, step, obey, apply_decoded}
use Rattle.model.proofs.Begin.{of_marks, refusal-by, not_zero, marked_by}
use Rattle.theorem.proofs.View.{idle_is}
use Rattle.worker.specs.declared.Doing.{Doing}
use Rattle.worker.specs.declared.Worker.{Worker}
use Rattle.worker.specs.Rep.{doing_rep, worker_rep}
use Rattle.state.specs.declared.Hub.{Hub}
use Rattle.state.specs.State.{worker_in, table_kept}
use Rattle.places.specs.About.{about_of}
use Rattle.marks.specs.Marks.{refusal_in}
use Rattle.gate.specs.Gate.{Decided}
use Rattle.gate.specs.declared.Gate.TheVariants.{Make, Start, Go}
use Rattle.std.specs.Prelude.{Ok as Grants, Err as Refuse}
use Rattle.gate.specs.Gate.{has_time, mark_need_rep, seen_of, started_by, started, begin_gate}
use Rattle.decision.specs.Decision.{gate_of}
use Rattle.decision.proofs.Named.{Names}
use Rattle.simulation.specs.Memory.{read_of, hub_rep}
use Rattle.simulation.specs.Shell.{rows_kept, marks_read}
use Rattle.simulation.proofs.Laws.{worker_in_lem}
use Rattle.simulation.proofs.Facts.{same_facts, has-time}
use Rattle.simulation.proofs.Sound.{Sound}
use Rattle.simulation.proofs.Marks.{UnreadIn, refusal-same}

-- the gate of a record that was read as r and has the byte u, by whether the memory is ready, the length of the row, the list that is lent, and the
-- hub by value
abbrev pub gate_by : Record.Decoded → ℕ → Bool → ℕ → Given → Hub → Decided
gate_by r u ready long given h =
    let x = worker_in h (u % 16) in
    gate_of r ready h.site.p h.site.v long (about_of x.doing).idle (has_time x.announced) given.totals (rows_kept h) h.marks (marks_read h) (table_kept h)

-- a begin of operation o by worker w in the store s is accepted
pub record Begun (s : Store) (w : ℕ) (o : Record.Operation) (a : Applied) : Type 0 where
  pub inside : w < s.site.P
  pub idle : (worker_at s w).doing ≡ Model.Idle
  pub is : a ≡ record { hub = up (place s w (terms s.site.rows o).first); answer = Ok }

-- what a step makes of the hub
abbrev took : Stepped → Applied
took x = record { hub = up x.store; answer = x.answer }

-- worker w takes a step
pub record Stepping (s : Store) (w : ℕ) (a : Applied) : Type 0 where
  pub inside : w < s.site.P
  pub is : a ≡ took (step_at s w (worker_at s w).doing)

-- what a gate means: what the model makes of the record
abbrev pub Means : Store → Decided → Applied → Type 0
Means s (Refuse k) a = a ≡ refuse (up s) k
Means s (Grants (Make p v n k)) a = ⊥
Means s (Grants (Start w d)) a = (o : Record.Operation) × (d ≡ doing_rep (terms s.site.rows o).first) × Begun s w o a
Means s (Grants (Go w)) a = Stepping s w a

------------------------------------------------------------------------
-- The decision

-- two choices by the same test
pub both : {A B : Type 0} (M : A → B → Type 0) (t u : Bool) (g g' : A) (a a' : B) → t ≡ u
    → (u ≡ true → M g a) → (u ≡ false → M g' a') → M (cond t g g') (cond u a a')
both M true true g g' a a' e f f' = f refl
both M true false g g' a a' e f f' = absurd (true≢false e)
both M false true g g' a a' e f f' = absurd (true≢false (sym e))
both M false false g g' a a' e f f' = f' refl

module _ (s : Store) (S : Sound s) (k : Hub) (given : Given) where
  abbrev rows : List ℕ
  rows = s.site.rows

  -- the rows that count are the store's
  kept_rows : rows_kept (hub_rep s k) ≡ rows
  kept_rows = take-over rows k.site.rows (length rows) refl

  abbrev table : List ℕ
  table = s.site.table

  -- so are those of rights
  kept_table : table_kept (hub_rep s k) ≡ table
  kept_table = take-over table k.site.rights (length table) refl

  -- what the workers read of marks
  abbrev reading : List ℕ
  reading = map read_of s.workers

  kept_reading : marks_read (hub_rep s k) ≡ reading
  kept_reading = take-over reading (replicate 16 0) s.site.P (length-map s.workers read_of ∙ S.bounds.workers.2)

  -- a mark that is named is one of the twelve
  unread_in : (y : Mark.MarkNeed) → named_below mark_count (Mark.mark_of y) ≡ true → UnreadIn y
  unread_in Mark.NoMark e = tt
  unread_in (Mark.EmptyMark m) e = tt
  unread_in (Mark.HeldMark m) e = tt
  unread_in (Mark.UnreadMark m) e = ltb-true m mark_count e

  -- a worker below P is the model's worker in memory
  who_is : (w u : ℕ) → w ≡ u → ltb w s.site.P ≡ true → worker_in (hub_rep s k) (u % 16) ≡ worker_rep (worker_at s w)
  who_is w u n i =
      let below = ltb-true w s.site.P i in
      let few = S.bounds.workers.1 in
      let e : u % 16 ≡ w = omega arith in
      ap (worker_in (hub_rep s k)) e ∙ worker_in_lem s w S.bounds.workers.2 few below

  abbrev x : ℕ → Worker
  x u = worker_in (hub_rep s k) (u % 16)

  -- what memory has for the begin of worker u
  abbrev seen_in : ℕ → Seen
  seen_in u = seen_of s.site.V' rows table (about_of (x u).doing).idle (has_time (x u).announced) s.marks reading

  -- a test that both make, and what follows where it is passed
  behind : (t : Bool) (n i j : ℕ) → (t ≡ true → i ≡ j) → tested t n i ≡ tested t n j
  behind true n i j f = f refl
  behind false n i j f = refl

  same_refusal : (w u : ℕ) → w ≡ u → (o : Record.Operation) → ltb w s.site.P ≡ true
      → refusal (in_force given).limit (seen_in u) w o ≡ refusal (in_force given).limit (seen s w) w o
  unfolding refusal
  same_refusal w u n o i =
      let a : Terms = terms rows o in
      let y : Model.Worker = worker_at s w in
      let idle : (about_of (x u).doing).idle ≡ is_idle y.doing =
      ap (λ (z : Worker). (about_of z.doing).idle) (who_is w u n i) ∙ (same_facts y.doing).0 in
      let has : has_time (x u).announced ≡ ltb y.announced absent =
      ap (λ (z : Worker). has_time z.announced) (who_is w u n i) ∙ has-time y.announced in
      ap (tested (named_below s.site.V' a.register) 4)
      (behind (named_below mark_count (Mark.mark_of a.mark)) 4 _ _
      (λ e.
      let marked : refusal_in (mark_need_rep a.mark) s.marks reading ≡ number_of (mark_refusal s a.mark) =
      refusal-same s S a.mark (unread_in a.mark e) in
      λ j.
      tested (group_there rows a.group) 17
      (tested (value_within (in_force given).limit a.value) 16
      (tested (status_known a.value) 25
      (tested (allowed table s.site.V' w a.right) 23
      (tested (idle j) 10 (tested (may_open a.time (has j)) 12 (tested (may_use_time a.time (has j)) 13 (marked j)))))))))

  begins : (w u : ℕ) → w ≡ u → (o : Record.Operation) → Means s (begin_gate s.site.P (seen_in u) w o) (begin (in_force given) s w o)
  unfolding begin_gate started begin refused_by
  begins w u q o =
      both M (ltb w s.site.P) (ltb w s.site.P) _ _ _ _ refl
      (λ i. subst (λ (n : ℕ). M (started_by w n d) (refused_by (refusal (in_force given).limit (seen s w) w o) (up s) begun)) (sym (same_refusal w u q o i))
      (refusal-by (λ n. M (started_by w n d) (refused_by n (up s) begun)) (in_force given).limit (seen s w) w o no
      (λ t. marked_by (λ n. M (started_by w n d) (refused_by n (up s) begun)) (mark_refusal s (terms rows o).mark) (of_marks s (terms rows o).mark) no
      (λ e. (o, refl, record { inside = ltb-true w s.site.P i; idle = idle_is (worker_at s w).doing t.idle; is = refl })))))
      (λ n. refl)
    where
      M : Decided → Applied → Type 0
      M = Means s

      d : Doing
      d = doing_rep (terms rows o).first

      begun : Applied
      begun = record { hub = up (place s w (terms rows o).first); answer = Ok }

      no : (n : ℕ) → 0 < occurrences n on_reading → M (started_by w n d) (refused_by n (up s) begun)
      no n h = rw (not_zero n h) refl

  -- the decision on a record that was read as r is the model's
  pub gate_left : (r : Record.Decoded) (u : ℕ) → Names r u → (long : ℕ)
      → Means s (gate_by r u true long given (hub_rep s k)) (apply_decoded (in_force given) (up s) r)
  unfolding gate_of apply_decoded obey set_up step
  gate_left (Record.Refuses k) u n long = refl
  gate_left (Record.Asks (Record.SetUp z)) u n long = refl
  gate_left (Record.Asks (Record.Begin w o)) u n long =
      let by : List ℕ → List ℕ → List ℕ → Decided = λ l r t.
      begin_gate s.site.P (seen_of s.site.V' l t (about_of (x u).doing).idle (has_time (x u).announced) s.marks r) w o in
      subst (λ (g : Decided). Means s g (begin (in_force given) s w o)) (λ i. by (sym kept_rows i) (sym kept_reading i) (sym kept_table i)) (begins w u n o)
  gate_left (Record.Asks (Record.Step w)) u n long =
      both (Means s) (ltb w s.site.P) (ltb w s.site.P) _ _ _ _ refl
      (λ i. record { inside = ltb-true w s.site.P i; is = refl })
      (λ n. refl)
