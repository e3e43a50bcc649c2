-- The numbers in the answers are in the range of their types, on memory that holds a hub: a freed slot is below N, a time is before the last of
-- the clock, and a refusal has one of its numbers. So the two numbers of an answer stand for that answer.
use mathlib.Core.Path.{◌≡◌, sym, subst}
use mathlib.Core.Bool.{◌&&◌}
use mathlib.Core.List.{List, [], ◌∷◌}
use mathlib.Core.Option.{none, some}
use Prim.Native.Nat.{ℕ, ◌<◌}
use native.Mathlib.Omega.{arith}
use lib.Dec.{ltb, leb, eqb, lit<}
use lib.ListN.{length, get_or}
use Rattle.model.specs.Store as Model
use Rattle.model.specs.Store.{Store, Range, blank, up, last_clock, worker_at, slot_at, newest_of, count_of}
use Rattle.model.specs.Rules.{Given, twelve_digits, in_force}
use Rattle.model.specs.Totals.{goes_on, Sum}
use Rattle.model.specs.Answer.{Answer, Ok, Going, Freed, At, Value, None, Below, Done, No, Stepped, Applied}
use Rattle.model.specs.Record.{SetUp, Begin, Step, Decoded, Asks, Refuses, command_of, unused_zero, decode, list_fits}
use Rattle.model.specs.Steps.{put_publish, put_stamp, put_hand_in, flush_take, flush_split, flush_read, flush_free}
use Rattle.model.specs.Steps.{open_announce, open_pass, answer_for, signed, total_found, found, read_enter, read_stand, get_show, close_withdraw}
use Rattle.model.specs.Steps.{stopped_by, mark_keep, mark_release, time_step, step_at}
use Rattle.model.specs.Marks.{MarkNeed, EmptyMark, UnreadMark, mark_refusal, need_for, time_for}
use Rattle.model.specs.Apply.{in_ranges, set_up, step, obey, apply_decoded, apply}
use Rattle.model.specs.Demand.{All}
use Rattle.model.specs.Refusals.{on_reading}
use Rattle.model.proofs.Basic.{cond_both, All-get}
use Rattle.model.proofs.Begin.{begin-by}
use Rattle.theorem.proofs.Found.{stopped_by_lem}
use Rattle.values.specs.Meaning.{answer_of}
use Rattle.values.specs.declared.Answer as Code
use Rattle.values.specs.declared.Answer.TheVariants as Is
use Rattle.answers.specs.Numbers.{kind_of, number_of, answer_from, InRange}
use Rattle.answers.proofs.Faithful.{faithful}
use Rattle.simulation.specs.Memory.{Memory}
use Rattle.simulation.specs.Holds.{Holds}
use Rattle.simulation.proofs.Sound.{PlaceIn, Sound, sound}
use Rattle.simulation.proofs.Marks.{Numbered, numbered}
use borrow.Author.Tests.{ltb-true}

-- of an answer of the model
abbrev Ranged : Answer → Type 0
Ranged Ok = Unit {0}
Ranged Going = Unit {0}
Ranged (Freed c) = c < 65536
Ranged (At t) = t < 4294967296
Ranged (Value x) = Unit {0}
Ranged None = Unit {0}
Ranged (Below x) = Unit {0}
Ranged Done = Unit {0}
Ranged (No k) = k < 256

abbrev RangedBy : Applied → Type 0
RangedBy a = Ranged a.answer

------------------------------------------------------------------------
-- A step in a sound store

module _ (s : Store) (S : Sound s) (w : ℕ) (below : w < s.site.P) where
  abbrev RangedStep : Stepped → Type 0
  RangedStep x = Ranged x.answer

  put-ranged : (r : ℕ) (x : Model.Reading) (l : List ℕ) → RangedStep (put_publish s w r x l)
  unfolding put_publish
  put-ranged r x [] = lit< tt
  put-ranged r x (c ∷ l) = tt

  free_ranged : (l : List Range) → PlaceIn s (worker_at s w).announced (Model.FlushFree l) → RangedStep (flush_free s w l)
  unfolding flush_free
  free_ranged [] p = tt
  free_ranged (ρ ∷ l) p = omega (arith, p.1.0.0, S.bounds.slots.1)

  signed-ranged : (y : Sum) → Ranged (signed y)
  unfolding signed
  signed-ranged y = cond_both Ranged (leb y.minus y.plus) _ _ (λ q. tt) (λ q. tt)

  shown_ranged : (x : Model.Content) → Ranged (answer_for x)
  unfolding answer_for
  shown_ranged none = tt
  shown_ranged (some x) = tt

  found-ranged : (y : Model.Purpose) (x : Model.Content) → RangedStep (found s w y x)
  unfolding found total_found
  found-ranged Model.Single x = shown_ranged x
  found-ranged (Model.Marked m) x = shown_ranged x
  found-ranged (Model.Totaling g i y) x =
      cond_both RangedStep (leb (count_of x) twelve_digits) _ _
      (λ e. cond_both RangedStep (goes_on s.site.rows g i) _ _ (λ f. tt)
      (λ f. signed-ranged _))
      (λ e. lit< tt)

  mark_ranged : (y : MarkNeed) (next : Stepped) → RangedStep next → RangedStep (stopped_by (mark_refusal s y) s w next)
  mark_ranged y next a =
      stopped_by_lem RangedStep (mark_refusal s y) s w next (λ k e. (subst Numbered e (numbered s y)).1) (λ e. a)

  step-ranged : (d : Model.Doing) → PlaceIn s (worker_at s w).announced d → RangedStep (step_at s w d)
  unfolding step_at time_step put_stamp put_hand_in flush_take flush_split flush_read open_announce open_pass read_enter read_stand get_show close_withdraw mark_keep mark_release answer_for
  step-ranged Model.Idle p = lit< tt
  step-ranged (Model.PutPublish r x) p = put-ranged r x s.free
  step-ranged (Model.PutStamp r c) p = tt
  step-ranged (Model.PutHandIn r c) p = cond_both Ranged (eqb _ s.site.B) Going Done (λ e. tt) (λ e. tt)
  step-ranged Model.FlushTake p = tt
  step-ranged (Model.FlushRead m ts) p = cond_both RangedStep (leb (length ts) s.site.P) _ _ (λ e. tt) (λ e. tt)
  step-ranged (Model.FlushFree m) p = free_ranged m p
  step-ranged (Model.OnTime Model.OpenAnnounce) p = cond_both RangedStep (eqb s.clock last_clock) _ _ (λ e. lit< tt) (λ e. tt)
  step-ranged (Model.OnTime Model.OpenPass) p = omega (arith, p.1)
  step-ranged (Model.OnTime Model.CloseWithdraw) p = tt
  step-ranged (Model.OnTime (Model.MarkKeep i)) p = mark_ranged (EmptyMark i) _ tt
  step-ranged (Model.OnTime (Model.MarkRelease i)) p = mark_ranged (UnreadMark i) _ tt
  step-ranged (Model.ReadEnter g) p = mark_ranged (need_for g.purpose) _ tt
  step-ranged (Model.ReadStand g c) p =
      cond_both RangedStep (leb (slot_at s c).low (time_for s.marks (worker_at s w).announced g.purpose)) _ _ (λ e. found-ranged g.purpose (slot_at s c).value) (λ e. tt)
  step-ranged (Model.GetShow r) p = shown_ranged (slot_at s (newest_of s r)).value

------------------------------------------------------------------------
-- A record

-- 6, 1 and 2
abbrev RangedRead : Decoded → Type 0
RangedRead (Asks c) = Unit {0}
RangedRead (Refuses k) = k < 256

read_ranged : (b : List ℕ) → RangedRead (decode b)
unfolding decode
read_ranged b =
    cond_both RangedRead (ltb (length b) 16) _ _ (λ e. lit< tt)
    (λ e. cond_both RangedRead (ltb 11 (get_or b 0 0)) _ _ (λ f. lit< tt)
    (λ f. cond_both RangedRead (unused_zero b (command_of b (get_or b 0 0))) _ _ (λ g. tt) (λ g. lit< tt)))

-- memory that holds a hub has a sound one
abbrev SoundIn : Model.Hub → Type 0
SoundIn (blank row) = Unit {0}
SoundIn (up s) = Sound s

-- the number of a refusal on reading fits its byte
numbers_small : All (λ (i : ℕ). i < 256) on_reading
numbers_small = search arith

decoded_ranged : (given : Given) (h : Model.Hub) → SoundIn h → (d : Decoded) → RangedRead d → RangedBy (apply_decoded (in_force given) h d)
unfolding apply_decoded obey set_up step
decoded_ranged given h S (Refuses k) r = r
decoded_ranged given (blank row) S (Asks (SetUp z)) r = cond_both RangedBy (in_ranges z && leb z.N (length row.row) && list_fits z.V' given.totals) _ _ (λ e. tt) (λ e. lit< tt)
decoded_ranged given (blank row) S (Asks (Begin w o)) r = lit< tt
decoded_ranged given (blank row) S (Asks (Step w)) r = lit< tt
decoded_ranged given (up s) S (Asks (SetUp z)) r = lit< tt
decoded_ranged given (up s) S (Asks (Begin w o)) r =
    begin-by RangedBy (in_force given) s w o (λ k n. All-get (λ (i : ℕ). i < 256) on_reading numbers_small k n) (λ t. tt)
decoded_ranged given (up s) S (Asks (Step w)) r =
    cond_both RangedBy (ltb w s.site.P) _ _
    (λ e. let below : w < s.site.P = ltb-true w s.site.P e in step-ranged s S w below (worker_at s w).doing (S.places w below))
    (λ e. lit< tt)

held-sound : (h : Model.Hub) (m : Memory) → Holds h m → SoundIn h
held-sound (blank row) m H = tt
held-sound (up s) m L = sound L.store

------------------------------------------------------------------------
-- An answer of the code

in-range : (y : Code.Answer) → Ranged (answer_of y) → InRange y
in-range Is.Ok r = tt
in-range Is.Going r = tt
in-range (Is.Freed c) r = r
in-range (Is.At t) r = r
in-range (Is.Value x) r = tt
in-range Is.None r = tt
in-range (Is.Below x) r = tt
in-range Is.Done r = tt
in-range (Is.No k) r = r

pub comes_back : (given : Given) (h : Model.Hub) (m : Memory) (b : List ℕ) (y : Code.Answer) → Holds h m → answer_of y ≡ (apply (in_force given) h b).answer
    → answer_from (kind_of y) (number_of y) ≡ y
unfolding apply
comes_back given h m b y H e =
    faithful y (in-range y (subst Ranged (sym e) (decoded_ranged given h (held-sound h m H) (decode b) (read_ranged b))))
