-- Read (1) and (2) and get are the model's. Read (1) and get stamp the register; read (2) looks at the slot on which the read stands.
use mathlib.Core.Path.{◌≡◌, refl, ap, ◌∙◌, subst}
use mathlib.Core.Bool.{Bool, true, false, cond}
use mathlib.Core.List.{List, map}
use mathlib.Core.Option.{Option, none, some}
use Prim.Native.Nat.{ℕ, ◌+◌, ◌*◌, ◌-◌, ◌%◌, ◌≤◌, ◌<◌}
use native.Mathlib.Nat.{mod-eq_of_lt}
use native.Mathlib.Omega.{arith}
use lib.Dec.{leb, eqb}
use lib.ListN.{length}
use lib.Seq.{get_or-set_same}
use borrow.Author.Tests.{leb-true, le-leb, ne_eqb}
use Rattle.model.specs.Store as Model
use Rattle.model.specs.Store.{Store, start_worker, worker_at, slot_at, newest_of, with_doing, place, count_of}
use Rattle.model.specs.Answer as Model-as-Answer
use Rattle.model.specs.Versions.{stamp_slots, stamp}
use Rattle.model.specs.Steps.{step_at, stopped_by, read_enter, read_stand, get_show, goal_at, signed, total_found, found}
use Rattle.model.specs.Marks.{number_of, mark_refusal, need_for, time_for}
use Rattle.model.specs.Totals.{sign_of, row_at, goes_on, Sum}
use Rattle.model.specs.Sums.{add_row}
use Rattle.model.specs.Rules.{twelve_digits}
use Rattle.model.specs.About.{about}
use Rattle.model.specs.Reached.{TotalFits}
use Rattle.model.proofs.Basic.{All-at}
use Rattle.values.specs.Meaning.{content_rep, answer_of}
use Rattle.values.specs.declared.Answer.{Answer}
use Rattle.values.specs.declared.Answer.TheVariants.{Going, Value, Below, No}
use Rattle.slots.specs.declared.Slot.{Slot}
use Rattle.slots.specs.Slots.{slot_rep}
use Rattle.arrays.specs.Arrays.{short}
use Rattle.versions.specs.Versions.{slot_at_in}
use Rattle.worker.specs.declared.Doing as Code
use Rattle.worker.specs.declared.Doing.TheVariants.{ReadStand}
use Rattle.worker.specs.Rep.{announced_rep, sum_rep, goal_rep}
use Rattle.marks.specs.declared.MarkNeed as Need
use Rattle.marks.specs.Marks.{refusal_in, time_in}
use Rattle.total_sums.specs.Sums.{added_to}
use Rattle.announcing.specs.declared.Outcome.{Outcome}
use Rattle.announcing.specs.Announcing.{outcome_of}
use Rattle.step.specs.Step.{Stepped, newest_at, still_at, need_of, read_enter_step, total_found_of, found_of, read_stand_step, get_show_step}
use Rattle.showing.specs.Shown.{answer_to, signed_of}
use Rattle.step.specs.Step.{step_of}
use Rattle.simulation.specs.Memory.{Memory, read_of, hand_words, write}
use Rattle.simulation.specs.Left.{Sized}
use Rattle.simulation.specs.Shell.{rows_kept}
use Rattle.simulation.proofs.Sound.{Sound}
use Rattle.simulation.proofs.Simulates.{Simulates}
use Rattle.simulation.proofs.Laid.{slots_is, rows_is, place_at, among}
use Rattle.simulation.proofs.Found.{step_found, short-is, slot_is, newest_is, newest-short, stamp-row, time_is}
use Rattle.simulation.proofs.Marks.{refusal-same, Numbered, numbered, need_same, need_unread, time_same}
use Rattle.simulation.proofs.Contents.{answer_same, content_is}
use Rattle.simulation.proofs.Kept.{kept_sim}

module _ (s : Store) (m : Memory) (w : ℕ) (S : Sound s) (Z : Sized m) (laid : m ≡ write s m) (wb : w < s.site.P) where
  pub read_enter-sim : (g : Model.Goal) → (worker_at s w).doing ≡ Model.ReadEnter g → Simulates s m w (Model.ReadEnter g)
  unfolding step_of read_enter_step step_at read_enter stopped_by stamp hand_words
  read_enter-sim g e = by (mark_refusal s (need_for g.purpose)) refl (numbered s (need_for g.purpose))
    where
      d : Model.Doing
      d = Model.ReadEnter g

      r : ℕ
      r = g.register

      n : ℕ
      n = newest_of s r

      h : r < s.site.V'
      h = (place_at s S w wb d e).0

      -- the code's refusal is the model's
      same : refusal_in (need_of (goal_rep g).purpose) s.marks (map read_of s.workers) ≡ number_of (mark_refusal s (need_for g.purpose))
      same =
          ap (λ (y : Need.MarkNeed). refusal_in y s.marks (map read_of s.workers)) (need_same g.purpose)
          ∙ refusal-same s S (need_for g.purpose) (need_unread g.purpose)

      by : (q : Option ℕ) → mark_refusal s (need_for g.purpose) ≡ q → Numbered (mark_refusal s (need_for g.purpose)) → Simulates s m w (Model.ReadEnter g)
      by none q c =
          kept_sim s m w d S Z laid wb e (Model.ReadStand g n) (worker_at s w).announced s.clock (stamp_slots s.slots n s.clock) Going
          (rw (same, q, newest-short s m S laid r h)) (stamp-row s m S laid r h) (rw q) refl refl
      by (some j) q c =
          let b = subst Numbered q c in
          kept_sim s m w d S Z laid wb e Model.Idle (worker_at s w).announced s.clock s.slots (No j)
          (rw (same, q, ne_eqb j 0 (λ z. omega (arith, z, b.0)))) (slots_is s m laid) (rw q) refl refl

  pub get_show-sim : (r : ℕ) → (worker_at s w).doing ≡ Model.GetShow r → Simulates s m w (Model.GetShow r)
  unfolding step_of get_show_step step_at get_show stamp hand_words
  get_show-sim r e =
      let d : Model.Doing = Model.GetShow r in
      let n : ℕ = newest_of s r in
      let h : r < s.site.V' = place_at s S w wb d e in
      let shown : slot_at_in m.slots (newest_at m.newest r) ≡ slot_rep (slot_at s n) =
      ap (slot_at_in m.slots) (newest_is s m S laid r h) ∙ slot_is s m S laid n (S.newest r h) in
      kept_sim s m w d S Z laid wb e Model.Idle (worker_at s w).announced s.clock (stamp_slots s.slots n s.clock)
      (answer_to (content_rep (slot_at s n).value)) (rw shown) (stamp-row s m S laid r h) (rw (answer_same (slot_at s n).value)) refl refl

-- the code's answer with the sums of a total is the model's
signed_is : (y : Sum) → answer_of (signed_of (sum_rep y)) ≡ signed y
unfolding signed
signed_is y = go (leb y.minus y.plus)
  where
    go : (t : Bool)
        → answer_of
        (cond t (Value (record { count = y.plus - y.minus; status = y.status })) (Below (record { count = y.minus - y.plus; status = y.status })))
        ≡ cond t (Model-as-Answer.Value (record { count = y.plus - y.minus; status = y.status }))
        (Model-as-Answer.Below (record { count = y.minus - y.plus; status = y.status }))
    go true = refl
    go false = refl

module _ (s : Store) (m : Memory) (w : ℕ) (g : Model.Goal) (c : ℕ)
    (S : Sound s) (Z : Sized m) (laid : m ≡ write s m) (wb : w < s.site.P) (e : (worker_at s w).doing ≡ Model.ReadStand g c) where
  abbrev d : Model.Doing
  d = Model.ReadStand g c

  abbrev o : ℕ
  o = (slot_at s c).older

  abbrev t : ℕ
  t = (worker_at s w).announced

  -- the time as of which it reads
  abbrev t' : ℕ
  t' = time_for s.marks t g.purpose

  abbrev rows : List ℕ
  rows = s.site.rows

  -- the outcome of the place, the answer and what the step leaves besides
  abbrev ends : Code.Doing → Answer → Outcome
  ends p y = outcome_of p (announced_rep t) s.clock (length s.free) y

  -- the step, of the slot v, the time a and the rows of totals q
  abbrev looks : Slot → ℕ → List ℕ → Stepped
  looks v a q =
      still_at
      (cond (leb v.low a) (found_of (goal_rep g).purpose v.value (announced_rep t) s.clock (length s.free) q)
      (ends (ReadStand (goal_rep g) (short v.older)) Going))
      m.slots m.newest

  looked : step_found s m w d ≡ looks (slot_rep (slot_at s c)) t' rows
  unfolding step_of read_stand_step
  looked =
      ap (λ (v : Slot). looks v (time_in (goal_rep g).purpose (announced_rep t) s.marks) (rows_kept m.hub))
      (slot_is s m S laid c (place_at s S w wb d e).1)
      ∙ ap (λ (a : ℕ). looks (slot_rep (slot_at s c)) a (rows_kept m.hub)) (time_same s.marks t g.purpose (time_is s w S wb))
      ∙ ap (looks (slot_rep (slot_at s c)) t') (rows_is s m laid)

  -- a read that moves on stands on a slot again, since the store after it is sound
  on_slot : Sound (place s w (Model.ReadStand g o)) → o < s.site.N
  on_slot S' =
      let x : Model.Worker = with_doing (worker_at s w) (Model.ReadStand g o) in
      (place_at (place s w (Model.ReadStand g o)) S' w wb (Model.ReadStand g o)
      (ap (λ (z : Model.Worker). z.doing) (get_or-set_same s.workers w x start_worker (among s S w wb)))).1

  module _ (z : leb (slot_at s c).low t' ≡ true) where
    -- a read shows the value
    single-sim : g.purpose ≡ Model.Single → Simulates s m w d
    unfolding step_at read_stand found hand_words
    single-sim q =
        kept_sim s m w d S Z laid wb e Model.Idle t s.clock s.slots (answer_to (content_rep (slot_at s c).value))
        (looked ∙ rw (z, q)) (slots_is s m laid) (rw (z, q, answer_same (slot_at s c).value)) refl refl

    -- and so does a marked read
    marked-sim : (i : ℕ) → g.purpose ≡ Model.Marked i → Simulates s m w d
    unfolding step_at read_stand found hand_words
    marked-sim i q =
        kept_sim s m w d S Z laid wb e Model.Idle t s.clock s.slots (answer_to (content_rep (slot_at s c).value))
        (looked ∙ rw (z, q)) (slots_is s m laid) (rw (z, q, answer_same (slot_at s c).value)) refl refl

    -- a total adds it
    module _ (j i : ℕ) (y : Sum) (q : g.purpose ≡ Model.Totaling j i y) where
      abbrev v : Model.Content
      v = (slot_at s c).value

      abbrev x : ℕ
      x = count_of v

      abbrev row : ℕ
      row = row_at rows i

      fits : TotalFits rows (Model.Totaling j i y)
      fits =
          subst (TotalFits rows) q
          (subst (λ (k : Model.Doing). TotalFits rows (about k).purpose) e
          (All-at (λ (k : Model.Worker). TotalFits rows (about k.doing).purpose) s.workers w start_worker (among s S w wb) S.bounds.totals))

      abbrev more : Sum
      more = add_row y row v

      -- no sum goes beyond its bound
      added : (a u : ℕ) → a ≤ 31 * twelve_digits → u ≤ twelve_digits → added_to a u ≡ a + u
      added a u h k = rw (le-leb a (31 * twelve_digits) h, le-leb u twelve_digits k)

      part : (b : Bool) (u v : ℕ) → u ≤ twelve_digits → v ≤ twelve_digits → cond b u v ≤ twelve_digits
      part true u v h k = h
      part false u v h k = k

      plus-is : x ≤ twelve_digits → added_to y.plus (cond (eqb (sign_of row) 0) x 0) ≡ more.plus
      plus-is h = added y.plus _ (omega (arith, fits.2)) (part (eqb (sign_of row) 0) x 0 h (omega arith))

      minus_is : x ≤ twelve_digits → added_to y.minus (cond (eqb (sign_of row) 0) 0 x) ≡ more.minus
      minus_is h = added y.minus _ (omega (arith, fits.2)) (part (eqb (sign_of row) 0) 0 x (omega arith) h)

      -- 18
      over-sim : leb x twelve_digits ≡ false → Simulates s m w d
      unfolding step_at read_stand found total_found total_found_of hand_words
      over-sim f =
          kept_sim s m w d S Z laid wb e Model.Idle t s.clock s.slots (No 18)
          (looked ∙ rw (z, q, content_is v, f)) (slots_is s m laid) (rw (z, q, f)) refl refl

      module _ (f : leb x twelve_digits ≡ true) where
        small : x ≤ twelve_digits
        small = leb-true x twelve_digits f

        last-sim : goes_on rows j i ≡ false → Simulates s m w d
        unfolding step_at read_stand found total_found total_found_of hand_words
        last-sim n =
            kept_sim s m w d S Z laid wb e Model.Idle t s.clock s.slots (signed_of (sum_rep more))
            (looked ∙ rw (z, q, content_is v, f, n, plus-is small, minus_is small)) (slots_is s m laid) (rw (z, q, f, n, signed_is more)) refl refl

        next-sim : goes_on rows j i ≡ true → Simulates s m w d
        unfolding step_at read_stand found total_found total_found_of hand_words
        next-sim n =
            let short : (i + 1) % 65536 ≡ i + 1 = mod-eq_of_lt (omega (arith, fits.0, S.bounds.rows.1)) in
            kept_sim s m w d S Z laid wb e (Model.ReadEnter (goal_at rows j (i + 1) more)) t s.clock s.slots Going
            (looked ∙ rw (z, q, content_is v, f, n, plus-is small, minus_is small, short)) (slots_is s m laid) (rw (z, q, f, n)) refl refl

      total-sim : Simulates s m w d
      total-sim = by (leb x twelve_digits) refl (goes_on rows j i) refl
        where
          by : (a : Bool) → leb x twelve_digits ≡ a → (b : Bool) → goes_on rows j i ≡ b → Simulates s m w d
          by false f b n = over-sim f
          by true f false n = last-sim f n
          by true f true n = next-sim f n

  found-sim : leb (slot_at s c).low t' ≡ true → (y : Model.Purpose) → g.purpose ≡ y → Simulates s m w d
  found-sim z Model.Single q = single-sim z q
  found-sim z (Model.Marked i) q = marked-sim z i q
  found-sim z (Model.Totaling j i y) q = total-sim z j i y q

  pub read_stand-sim : Sound (step_at s w (Model.ReadStand g c)).store → Simulates s m w (Model.ReadStand g c)
  unfolding step_at read_stand hand_words
  read_stand-sim S' = by (leb (slot_at s c).low t') refl
    where
      by : (low : Bool) → leb (slot_at s c).low t' ≡ low → Simulates s m w d
      by true z = found-sim z g.purpose refl
      by false z =
          let p : step_at s w d ≡ record { store = place s w (Model.ReadStand g o); answer = Model-as-Answer.Going } = rw z in
          let below : o < s.site.N = on_slot (subst (λ (y : Model-as-Answer.Stepped). Sound y.store) p S') in
          kept_sim s m w d S Z laid wb e (Model.ReadStand g o) t s.clock s.slots Going
          (looked ∙ rw (z, short-is o (omega (arith, S.bounds.slots.1)))) (slots_is s m laid) p refl refl
