-- Marks: H13 of docs/HUB.md. What is asked of a mark, when a read of it runs, and the refusals 19, 20 and 21.
use Rattle.std.specs.Prelude.{Bool, false, cond, ◌||◌, List, [], ◌∷◌, ℕ, ltb, eqb, get_or}
use Rattle.std.proofs.Math.Option.{Option, none, some}
use Rattle.model.specs.Store.{absent, Purpose, Single, Marked, Totaling, Worker, Store, mark_at}
use Rattle.model.specs.About.{Stance, Nowhere, StandsOn, about}

-- What is asked of a mark: nothing; that mark m is empty, else 19; that it holds a time, else 20; that it holds a time, else 20, and that no
-- read of it runs, else 21.
pub data MarkNeed : Type 0 where
  NoMark : MarkNeed
  EmptyMark : ℕ → MarkNeed
  HeldMark : ℕ → MarkNeed
  UnreadMark : ℕ → MarkNeed

-- the mark that it is asked of, if any
abbrev pub mark_of : MarkNeed → Option ℕ
mark_of NoMark = none
mark_of (EmptyMark m) = some m
mark_of (HeldMark m) = some m
mark_of (UnreadMark m) = some m

-- a value that is read as of mark m
abbrev pub as_of : ℕ → Purpose → Bool
as_of m Single = false
as_of m (Marked n) = eqb n m
as_of m (Totaling g i y) = false

-- H13.8: a read of mark m runs from its first step to its end: while it stands on a version
abbrev pub reads : ℕ → Stance → Bool
reads m Nowhere = false
reads m (StandsOn g c) = as_of m g.purpose

-- one of the workers reads mark m
unfoldable pub is_read : ℕ → List Worker → Bool
is_read m [] = false
is_read m (x ∷ l) = reads m (about x.doing).stance || is_read m l

-- H13.6 to H13.8: the refusal that a need meets, if any
unfoldable pub mark_refusal : Store → MarkNeed → Option ℕ
mark_refusal s NoMark = none
mark_refusal s (EmptyMark m) = cond (ltb (mark_at s m) absent) (some 19) none
mark_refusal s (HeldMark m) = cond (ltb (mark_at s m) absent) none (some 20)
mark_refusal s (UnreadMark m) = cond (ltb (mark_at s m) absent) (cond (is_read m s.workers) (some 21) none) (some 20)

-- the number of a refusal, 0 where there is none
abbrev pub number_of : Option ℕ → ℕ
number_of none = 0
number_of (some k) = k

-- what a read asks of a mark: one as of a mark, that it holds a time
abbrev pub need_for : Purpose → MarkNeed
need_for Single = NoMark
need_for (Marked m) = HeldMark m
need_for (Totaling g i y) = NoMark

-- the time as of which a worker reads whose own time is t: its own, or that of one of the marks
abbrev pub time_for : List ℕ → ℕ → Purpose → ℕ
time_for marks t Single = t
time_for marks t (Marked m) = get_or marks m absent
time_for marks t (Totaling g i y) = t
