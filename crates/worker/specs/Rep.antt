-- How the model's worker stands in the types of this crate.
use Rattle.std.specs.Prelude.{Option, Some, None, cond, List, [], map, ℕ, ltb, length, replicate}
use Rattle.lists.specs.Over.{over}
use Rattle.model.specs.Totals.{Sum as Model-as-Sum}
use Rattle.model.specs.Store as Model
use Rattle.model.specs.Store.{Range, absent}
use Rattle.model.specs.About.{Hand, Empty, Covered, Merged, Needless, about}
use Rattle.values.specs.declared.Reading.{Reading}
use Rattle.worker.specs.declared.Pool.{Pool}
use Rattle.worker.specs.declared.Doing.{Doing}
use Rattle.worker.specs.declared.Doing.TheVariants.{
  Idle,
  PutPublish,
  PutStamp,
  PutHandIn,
  FlushTake,
  FlushRead,
  FlushFree,
  OnTime,
  ReadEnter,
  ReadStand,
  GetShow,
}
use Rattle.worker.specs.declared.TimeStep.{TimeStep}
use Rattle.worker.specs.declared.TimeStep.TheVariants.{OpenAnnounce, OpenPass, CloseWithdraw, MarkKeep, MarkRelease}
use Rattle.worker.specs.declared.Sum.{Sum}
use Rattle.worker.specs.declared.Purpose.{Purpose}
use Rattle.worker.specs.declared.Purpose.TheVariants.{Single, Marked, Totaling}
use Rattle.worker.specs.declared.Goal.{Goal}
use Rattle.worker.specs.declared.Worker.{Worker}

-- a list filled up with zeros to n entries
unfoldable pub padded : ℕ → List ℕ → List ℕ
padded n l = over l (replicate n 0)

-- the ranges of a local pool: slots, lows and highs side by side, and how many they are
abbrev pub pool_rep : List Range → Pool
pool_rep l =
    record {
      slots = padded 64 (map (λ ρ. ρ.slot) l);
      lows = padded 64 (map (λ ρ. ρ.low) l);
      highs = padded 64 (map (λ ρ. ρ.high) l);
      len = length l;
    }

-- an announced time or none
abbrev pub Announced : Type 0
Announced = Option ℕ

abbrev pub announced_rep : ℕ → Announced
announced_rep t = cond (ltb t absent) (Some t) None

-- the time of it, absent where there is none
abbrev pub time_of : Announced → ℕ
time_of None = absent
time_of (Some a) = a

abbrev pub reading_rep : Model.Reading → Reading
reading_rep x = record { count = x.count; status = x.status }

abbrev pub time_step_rep : Model.TimeStep → TimeStep
time_step_rep Model.OpenAnnounce = OpenAnnounce
time_step_rep Model.OpenPass = OpenPass
time_step_rep Model.CloseWithdraw = CloseWithdraw
time_step_rep (Model.MarkKeep m) = MarkKeep m
time_step_rep (Model.MarkRelease m) = MarkRelease m

abbrev pub sum_rep : Model-as-Sum → Sum
sum_rep y = record { plus = y.plus; minus = y.minus; status = y.status }

abbrev pub purpose_rep : Model.Purpose → Purpose
purpose_rep Model.Single = Single
purpose_rep (Model.Marked m) = Marked m
purpose_rep (Model.Totaling g i y) = Totaling g i y.status y.plus y.minus

abbrev pub goal_rep : Model.Goal → Goal
goal_rep g = record { register = g.register; purpose = purpose_rep g.purpose }

-- of a merged list and of the needless ranges only how many they are
abbrev pub doing_rep : Model.Doing → Doing
doing_rep Model.Idle = Idle
doing_rep (Model.PutPublish r x) = PutPublish r (reading_rep x)
doing_rep (Model.PutStamp r c) = PutStamp r c
doing_rep (Model.PutHandIn r c) = PutHandIn r c
doing_rep Model.FlushTake = FlushTake
doing_rep (Model.FlushRead m ts) = FlushRead (length m) (length ts)
doing_rep (Model.FlushFree m) = FlushFree (length m)
doing_rep (Model.OnTime y) = OnTime (time_step_rep y)
doing_rep (Model.ReadEnter g) = ReadEnter (goal_rep g)
doing_rep (Model.ReadStand g c) = ReadStand (goal_rep g) c
doing_rep (Model.GetShow r) = GetShow r

-- the times that a flush has read; none in any other place
abbrev pub times_in : Hand → List ℕ
times_in Empty = []
times_in (Covered c) = []
times_in (Merged m ts) = ts
times_in (Needless m) = []

abbrev pub times_read : Model.Doing → List ℕ
times_read d = times_in (about d).hand

abbrev pub worker_rep : Model.Worker → Worker
worker_rep x =
    record {
      doing = doing_rep x.doing;
      announced = announced_rep x.announced;
      pool = pool_rep x.pool;
    }
