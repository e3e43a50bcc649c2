-- What is asked of a place and of an announced time is the same of the model and of the code.
use Rattle.std.specs.Prelude.{Option, Some, None}
use mathlib.Core.Path.{◌≡◌, refl}
use mathlib.Core.Bool.{Bool, true, false, cond}
use Prim.Native.Nat.{ℕ}
use lib.Dec.{ltb}
use Rattle.model.specs.Store as Model
use Rattle.model.specs.Store.{absent}
use Rattle.model.specs.About as Place
use Rattle.model.specs.About.{about}
use Rattle.worker.specs.Rep.{announced_rep, goal_rep, doing_rep}
use Rattle.places.specs.declared.Stand.{Stand}
use Rattle.places.specs.About.{about_of}
use Rattle.gate.specs.Gate.{has_time}

abbrev pub stance_rep : Place.Stance → Option Stand
stance_rep Place.Nowhere = None
stance_rep (Place.StandsOn g c) = Some (record { goal = goal_rep g; slot = c })

pub same_facts : (d : Model.Doing) → ((about_of (doing_rep d)).idle ≡ (about d).idle) × ((about_of (doing_rep d)).stance ≡ stance_rep (about d).stance)
same_facts Model.Idle = (refl, refl)
same_facts (Model.PutPublish r x) = (refl, refl)
same_facts (Model.PutStamp r c) = (refl, refl)
same_facts (Model.PutHandIn r c) = (refl, refl)
same_facts Model.FlushTake = (refl, refl)
same_facts (Model.FlushRead m ts) = (refl, refl)
same_facts (Model.FlushFree m) = (refl, refl)
same_facts (Model.OnTime Model.OpenAnnounce) = (refl, refl)
same_facts (Model.OnTime Model.OpenPass) = (refl, refl)
same_facts (Model.OnTime Model.CloseWithdraw) = (refl, refl)
same_facts (Model.OnTime (Model.MarkKeep m)) = (refl, refl)
same_facts (Model.OnTime (Model.MarkRelease m)) = (refl, refl)
same_facts (Model.ReadEnter g) = (refl, refl)
same_facts (Model.ReadStand g c) = (refl, refl)
same_facts (Model.GetShow r) = (refl, refl)

-- a time is announced
pub has-time : (t : ℕ) → has_time (announced_rep t) ≡ ltb t absent
has-time t = go (ltb t absent)
  where
    go : (y : Bool) → has_time (cond y (Some t) None) ≡ y
    go true = refl
    go false = refl
