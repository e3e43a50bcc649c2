-- The begin of an operation, as the code has it: the model's tests and its first place, of what is known in memory.
use Rattle.std.specs.Prelude.{Bool, is_some, cond, Result, Ok, Err, List, ℕ, ltb, eqb}
use Rattle.model.specs.Rules.{none_given, in_force}
use Rattle.model.specs.Record.{Operation}
use Rattle.model.specs.Marks as Model
use Rattle.model.specs.Apply.{terms, Seen, refusal}
use Rattle.worker.specs.Rep.{Announced}
use Rattle.worker.specs.declared.Doing.{Doing}
use Rattle.worker.specs.Rep.{doing_rep}
use Rattle.marks.specs.declared.MarkNeed.{MarkNeed}
use Rattle.marks.specs.declared.MarkNeed.TheVariants.{Nothing, Empty, Held, Unread}
use Rattle.marks.specs.Marks.{refusal_in}
use Rattle.places.specs.About.{about_of}
use Rattle.gate.specs.declared.Gate.{Gate}
use Rattle.gate.specs.declared.Gate.TheVariants.{Start}
use Rattle.gate.specs.declared.Known.{Known}

-- a time is announced
abbrev pub has_time : Announced → Bool
has_time t = is_some t

-- what is asked of a mark
abbrev pub mark_need_rep : Model.MarkNeed → MarkNeed
mark_need_rep Model.NoMark = Nothing
mark_need_rep (Model.EmptyMark m) = Empty m
mark_need_rep (Model.HeldMark m) = Held m
mark_need_rep (Model.UnreadMark m) = Unread m

-- what a begin is decided by: v registers, the rows of totals and of rights, whether the worker is idle and has a time, the times of the marks, and
-- which of them each worker reads
abbrev pub seen_of : ℕ → List ℕ → List ℕ → Bool → Bool → List ℕ → List ℕ → Seen
seen_of v rows table idle has marks reading =
    record {
      V' = v;
      rows = rows;
      table = table;
      idle = idle;
      has = has;
      marked = λ y. refusal_in (mark_need_rep y) marks reading;
    }

-- what `Known` has of it
abbrev pub seen_in : Known → Seen
seen_in y =
    seen_of y.tables.v y.tables.rows.now y.tables.rights.now (about_of y.doing).idle (has_time y.announced) y.marks.now y.reading.now

-- refusal k where there is one, else the place d
abbrev pub placed_by : ℕ → Doing → Result Doing ℕ
placed_by k d = cond (eqb k 0) (Ok d) (Err k)

-- where operation o of worker w begins, or the refusal that it meets
unfoldable pub placed : Seen → ℕ → Operation → Result Doing ℕ
placed y w o = placed_by (refusal (in_force none_given).limit y w o) (doing_rep (terms y.rows o).first)

-- what is to be done with a record, or the number of the refusal
abbrev pub Decided : Type 0
Decided = Result Gate ℕ

-- refusal k where there is one, else worker w starts at the place d
abbrev pub started_by : ℕ → ℕ → Doing → Decided
started_by w k d = cond (eqb k 0) (Ok (Start w d)) (Err k)

-- worker w begins operation o, or is refused
unfoldable pub started : Seen → ℕ → Operation → Decided
started y w o = started_by w (refusal (in_force none_given).limit y w o) (doing_rep (terms y.rows o).first)

-- 3 where it is not below p
unfoldable pub begin_gate : ℕ → Seen → ℕ → Operation → Decided
begin_gate p y w o = cond (ltb w p) (started y w o) (Err 3)
