-- Marks (H13) in this code's types: each definition is the model's of the like name (model/specs/Marks.antt). `marks` is the time that each mark
-- holds, absent where it is empty; `reading` has for each worker the mark that it reads plus one, 0 where it reads none.
use Rattle.std.specs.Prelude.{Option, Some, None, Bool, false, cond, ◌||◌, List, [], ◌∷◌, ℕ, ◌+◌, ◌%◌, ltb, eqb, get_or}
use Rattle.model.specs.Store.{absent}
use Rattle.worker.specs.Rep.{Announced}
use Rattle.worker.specs.declared.Doing.{Doing}
use Rattle.worker.specs.declared.Purpose.{Purpose}
use Rattle.worker.specs.declared.Purpose.TheVariants.{Single, Marked, Totaling}
use Rattle.worker.specs.Rep.{time_of}
use Rattle.places.specs.declared.Stand.{Stand}
use Rattle.places.specs.About.{about_of}
use Rattle.marks.specs.declared.MarkNeed.{MarkNeed}
use Rattle.marks.specs.declared.MarkNeed.TheVariants.{Nothing, Empty, Held, Unread}

------------------------------------------------------------------------
-- Which worker reads which mark

-- mark m as a worker that reads it shows it: plus one, in a byte. It is another for each of the twelve marks.
abbrev pub shown_as : ℕ → ℕ
shown_as m = m % 255 + 1

-- the mark as of which a value is read; 0 where there is none
abbrev pub read_as : Purpose → ℕ
read_as Single = 0
read_as (Marked m) = shown_as m
read_as (Totaling g i k plus minus) = 0

-- H13.8: a read of a mark runs from its first step to its end: while it stands on a version
abbrev pub read_from : Option Stand → ℕ
read_from None = 0
read_from (Some x) = read_as x.goal.purpose

-- the mark that a worker at this place reads, plus one; 0 where it reads none
abbrev pub read_by : Doing → ℕ
read_by d = read_from (about_of d).stance

-- what stands for a worker in `reading` after a step from one place to another, where `old` stood there: as it was, unless a read of a mark begins
-- or ends with the step
abbrev pub read_next : Doing → Doing → ℕ → ℕ
read_next before after old = cond (eqb (read_by before) (read_by after)) old (read_by after)

-- one of the workers reads mark m
unfoldable pub read_in : List ℕ → ℕ → Bool
read_in [] m = false
read_in (x ∷ l) m = eqb x (shown_as m) || read_in l m

------------------------------------------------------------------------
-- What is asked of a mark

-- the time that mark m holds, absent where it is empty and where there is no such mark
abbrev pub mark_in : List ℕ → ℕ → ℕ
mark_in marks m = get_or marks m absent

-- mark m holds a time
abbrev pub held_in : List ℕ → ℕ → Bool
held_in marks m = ltb (mark_in marks m) absent

-- H13.6 to H13.8: the refusal that a need meets, 0 where there is none
unfoldable pub refusal_in : MarkNeed → List ℕ → List ℕ → ℕ
refusal_in Nothing marks reading = 0
refusal_in (Empty m) marks reading = cond (held_in marks m) 19 0
refusal_in (Held m) marks reading = cond (held_in marks m) 0 20
refusal_in (Unread m) marks reading = cond (held_in marks m) (cond (read_in reading m) 21 0) 20

-- H13.5: the time as of which a worker with the announced time t reads: its own, or the mark's
abbrev pub time_in : Purpose → Announced → List ℕ → ℕ
time_in Single t marks = time_of t
time_in (Marked m) t marks = mark_in marks m
time_in (Totaling g i k plus minus) t marks = time_of t
