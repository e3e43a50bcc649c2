-- What each step on slots leaves, put together from what the calls in its code ensure, by rewriting with those equations. In each law w is a
-- place's register or slot as an index, v the slot that was loaded, l₁ and l₂ the row after each call that changes it, and o the outcome.
use mathlib.Core.Path.{◌≡◌}
use mathlib.Core.Bool.{true, false}
use mathlib.Core.List.{List}
use Prim.Native.Nat.{ℕ, ◌-◌}
use lib.Dec.{eqb, leb}
use lib.ListN.{set}
use Rattle.model.specs.Store.{absent}
use Rattle.values.specs.declared.Reading.{Reading}
use Rattle.values.specs.declared.Answer.{Answer}
use Rattle.values.specs.declared.Answer.TheVariants.{Going, No}
use Rattle.slots.specs.declared.Slot.{Slot}
use Rattle.arrays.specs.Arrays.{short}
use Rattle.versions.specs.Versions.{slot_at_in, stamped_in, linked_in}
use Rattle.worker.specs.Rep.{Announced}
use Rattle.worker.specs.declared.Goal.{Goal}
use Rattle.worker.specs.declared.Doing.TheVariants.{Idle, PutStamp, PutHandIn, ReadStand}
use Rattle.marks.specs.declared.MarkNeed.{MarkNeed}
use Rattle.marks.specs.Marks.{refusal_in, time_in}
use Rattle.announcing.specs.declared.Outcome.{Outcome}
use Rattle.step.specs.declared.Next.TheVariants.{Taken}
use Rattle.announcing.specs.Announcing.{outcome_of}
use Rattle.showing.specs.Shown.{answer_to}
use Rattle.step.specs.Step.{Stepped, newest_at, next_free, put_publish_step, put_stamp_step, stopped, need_of, read_enter_step, found_of}
use Rattle.step.specs.Step.{read_stand_step, get_show_step}

abbrev leaves : Outcome → List Slot → List ℕ → Stepped
leaves o l newest = record { next = Taken o; row = l; newest = newest }

-- put (1), with no free slot and with one
pub put_refused : (r : ℕ) (x : Reading) {t : Announced} {k n : ℕ} {l : List Slot} {newest : List ℕ} (free : List ℕ) {o : Outcome}
    → eqb n 0 ≡ true → o ≡ outcome_of Idle t k n (No 14) → leaves o l newest ≡ put_publish_step r x t k n l newest free
unfolding put_publish_step
put_refused r x free none eo = rw (none, eo)

pub put-published : (x : Reading) (n : ℕ) (l : List Slot) (newest free : List ℕ) {r : ℕ} {t : Announced} {k i f w : ℕ} {l₁ l₂ : List Slot}
    {newest₁ : List ℕ} {o : Outcome} → eqb n 0 ≡ false → i ≡ newest_at newest r → f ≡ next_free free n → l₁ ≡ stamped_in l i k
    → l₂ ≡ linked_in l₁ i f x → w ≡ r → newest₁ ≡ set newest w (short f) → o ≡ outcome_of (PutStamp r (short i)) t k (n - 1) Going
    → leaves o l₂ newest₁ ≡ put_publish_step r x t k n l newest free
unfolding put_publish_step
put-published x n l newest free some ei ef e₁ e₂ ew en eo = rw (some, eo, e₂, e₁, en, ew, ei, ef)

-- put (2), where the covered version's high is open and where it is set
pub put-stamped : (l : List Slot) {r c : ℕ} {t : Announced} {k n i w : ℕ} {v : Slot} {l₁ : List Slot} {newest : List ℕ} {o : Outcome}
    → w ≡ c → v ≡ slot_at_in l w → eqb v.high absent ≡ true → i ≡ newest_at newest r → l₁ ≡ stamped_in l i k
    → o ≡ outcome_of (PutHandIn r c) t k n Going → leaves o l₁ newest ≡ put_stamp_step r c t k n l newest
unfolding put_stamp_step
put-stamped l ew ev unset ei e₁ eo = rw (eo, ← ew, ← ev, unset, e₁, ei)

pub put-passed : {r c : ℕ} {t : Announced} {k n w : ℕ} {v : Slot} {l : List Slot} {newest : List ℕ} {o : Outcome} → w ≡ c → v ≡ slot_at_in l w
    → eqb v.high absent ≡ false → o ≡ outcome_of (PutHandIn r c) t k n Going → leaves o l newest ≡ put_stamp_step r c t k n l newest
unfolding put_stamp_step
put-passed ew ev already eo = rw (eo, ← ew, ← ev, already)

-- read (1), where the mark that it reads is empty and where there is no refusal
pub read_stopped : (g : Goal) (l : List Slot) (newest marks reading : List ℕ) {t : Announced} {k n j : ℕ} {y : MarkNeed} {o : Outcome}
    → y ≡ need_of g.purpose → j ≡ refusal_in y marks reading → eqb j 0 ≡ false → o ≡ stopped j t k n
    → leaves o l newest ≡ read_enter_step g t k n l newest marks reading
unfolding read_enter_step
read_stopped g l newest marks reading ey ej some eo = rw (eo, ← ey, ← ej, some)

pub read_entered : (l : List Slot) (marks reading : List ℕ) {g : Goal} {t : Announced} {k n i j : ℕ} {y : MarkNeed} {l₁ : List Slot}
    {newest : List ℕ} {o : Outcome} → y ≡ need_of g.purpose → j ≡ refusal_in y marks reading → eqb j 0 ≡ true
    → i ≡ newest_at newest g.register → l₁ ≡ stamped_in l i k → o ≡ outcome_of (ReadStand g (short i)) t k n Going
    → leaves o l₁ newest ≡ read_enter_step g t k n l newest marks reading
unfolding read_enter_step
read_entered l marks reading ey ej none ei e₁ eo = rw (eo, e₁, ei, ← ey, ← ej, none)

-- read (2), where the version's low is at most the time and where it is not
pub read_found : (g : Goal) (t : Announced) (k n : ℕ) (l : List Slot) (rows marks : List ℕ) {c w time : ℕ} {v : Slot} {o : Outcome} → w ≡ c
    → v ≡ slot_at_in l w → time ≡ time_in g.purpose t marks → leb v.low time ≡ true → o ≡ found_of g.purpose v.value t k n rows
    → o ≡ read_stand_step g c t k n l rows marks
unfolding read_stand_step
read_found g t k n l rows marks ew ev et early eo = rw (← ew, ← ev, ← et, early, eo)

pub read_moved : (l : List Slot) (rows marks : List ℕ) {g : Goal} {c : ℕ} {t : Announced} {k n w time : ℕ} {v : Slot} {o : Outcome} → w ≡ c
    → v ≡ slot_at_in l w → time ≡ time_in g.purpose t marks → leb v.low time ≡ false
    → o ≡ outcome_of (ReadStand g (short v.older)) t k n Going → o ≡ read_stand_step g c t k n l rows marks
unfolding read_stand_step
read_moved l rows marks ew ev et late eo = rw (← ew, ← ev, ← et, late, eo)

-- get
pub got : (r : ℕ) (l : List Slot) {t : Announced} {k n i : ℕ} {v : Slot} {a : Answer} {l₁ : List Slot} {newest : List ℕ} {o : Outcome}
    → i ≡ newest_at newest r → l₁ ≡ stamped_in l i k → v ≡ slot_at_in l i → a ≡ answer_to v.value → o ≡ outcome_of Idle t k n a
    → leaves o l₁ newest ≡ get_show_step r t k n l newest
unfolding get_show_step
got r l ei e₁ ev ea eo = rw (eo, e₁, ea, ev, ei)
