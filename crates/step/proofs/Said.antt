-- What a step that is still to do says: a time is read only of a worker below p, a list is split only behind the marks, and a range is freed only
-- where one is left.
use mathlib.Core.Path.{◌≡◌, refl}
use mathlib.Core.Bool.{Bool, true, false, cond}
use mathlib.Core.List.{List}
use Prim.Native.Nat.{ℕ, ◌<◌}
use native.Mathlib.Omega.{arith}
use lib.Dec.{ltb, eqb}
use borrow.Author.Tests.{ltb-true, ltb-false, eqb-false}
use Rattle.model.specs.Store.{absent}
use Rattle.slots.specs.declared.Slot.{Slot}
use Rattle.worker.specs.Rep.{Announced}
use Rattle.worker.specs.declared.Doing.{Doing}
use Rattle.worker.specs.declared.Doing.TheVariants.{Idle, PutPublish, PutStamp, PutHandIn, FlushTake, FlushRead, FlushFree, OnTime}
use Rattle.worker.specs.declared.Doing.TheVariants.{ReadEnter, ReadStand, GetShow}
use Rattle.worker.specs.declared.TimeStep.{TimeStep}
use Rattle.worker.specs.declared.TimeStep.TheVariants.{OpenAnnounce, OpenPass, CloseWithdraw, MarkKeep, MarkRelease}
use Rattle.worker.specs.Rep.{time_of}
use Rattle.marks.specs.declared.MarkNeed.TheVariants.{Empty, Unread}
use Rattle.marks.specs.Marks.{refusal_in}
use Rattle.step.specs.declared.Next.{Next}
use Rattle.step.specs.declared.Next.TheVariants.{Taken, HandIn, Take, Read, ReadMarks, Split, Free, Mark}
use Rattle.step.specs.Step.{Stepped, put_publish_step, put_stamp_step, stopped, need_of, read_enter_step, get_show_step, time_step_of}
use Rattle.step.specs.Step.{free_or_done, step_of}

abbrev pub Said : ℕ → Next → Type 0
Said p (Taken o) = Unit {0}
Said p (HandIn c) = Unit {0}
Said p Take = Unit {0}
Said p (Read m j) = j < p
Said p (ReadMarks m) = Unit {0}
Said p (Split m j) = p < j
Said p (Free m) = 0 < m
Said p (Mark m x) = Unit {0}

read_said : (m j p : ℕ) (t u : Bool) → ltb j p ≡ t → eqb j p ≡ u → Said p (cond t (Read m j) (cond u (ReadMarks m) (Split m j)))
read_said m j p true u e f = ltb-true j p e
read_said m j p false true e f = tt
read_said m j p false false e f =
    let a = ltb-false j p e in
    let b = eqb-false j p f in
    omega arith

free_said : (m p k n : ℕ) (a : Announced) (t : Bool) → eqb m 0 ≡ t → Said p (cond t (free_or_done 0 a k n) (Free m))
free_said m p k n a true e = tt
free_said m p k n a false e = let z = eqb-false m 0 e in omega arith

either : (p : ℕ) (t : Bool) (x y : Stepped) → Said p x.next → Said p y.next → Said p (cond t x y).next
either p true x y f g = f
either p false x y f g = g

mark_said : (p j m x k n : ℕ) (t : Announced) (u : Bool) → Said p (cond u (Mark m x) (Taken (stopped j t k n)))
mark_said p j m x k n t true = tt
mark_said p j m x k n t false = tt

time_said : (y : TimeStep) (t : Announced) (k n p : ℕ) (marks reading : List ℕ) → Said p (time_step_of y t k n marks reading)
time_said OpenAnnounce t k n p marks reading = tt
time_said OpenPass t k n p marks reading = tt
time_said CloseWithdraw t k n p marks reading = tt
time_said (MarkKeep m) t k n p marks reading =
    let j : ℕ = refusal_in (Empty m) marks reading in
    mark_said p j m (time_of t) k n t (eqb j 0)
time_said (MarkRelease m) t k n p marks reading =
    let j : ℕ = refusal_in (Unread m) marks reading in
    mark_said p j m absent k n t (eqb j 0)

pub said : (d : Doing) (t : Announced) (k n p : ℕ) (l : List Slot) (newest free rows marks reading : List ℕ)
    → Said p (step_of d t k n p l newest free rows marks reading).next
unfolding step_of put_publish_step put_stamp_step read_enter_step get_show_step
said Idle t k n p l newest free rows marks reading = tt
said (PutPublish r x) t k n p l newest free rows marks reading = either p (eqb n 0) _ _ tt tt
said (PutStamp r c) t k n p l newest free rows marks reading = tt
said (PutHandIn r c) t k n p l newest free rows marks reading = tt
said FlushTake t k n p l newest free rows marks reading = tt
said (FlushRead m j) t k n p l newest free rows marks reading = read_said m j p (ltb j p) (eqb j p) refl refl
said (FlushFree m) t k n p l newest free rows marks reading = free_said m p k n t (eqb m 0) refl
said (OnTime y) t k n p l newest free rows marks reading = time_said y t k n p marks reading
said (ReadEnter g) t k n p l newest free rows marks reading =
    either p (eqb (refusal_in (need_of g.purpose) marks reading) 0) _ _ tt tt
said (ReadStand g c) t k n p l newest free rows marks reading = tt
said (GetShow r) t k n p l newest free rows marks reading = tt
