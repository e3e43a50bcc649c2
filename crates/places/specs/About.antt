-- What is asked of a place besides its step: one definition, a line for each place.
use Rattle.std.specs.Prelude.{Option, Some, None, Bool, true, false, ℕ}
use Rattle.worker.specs.declared.Doing.{Doing}
use Rattle.worker.specs.declared.Doing.TheVariants.{Idle, PutPublish, PutStamp, PutHandIn, FlushTake, FlushRead, FlushFree, OnTime}
use Rattle.worker.specs.declared.Doing.TheVariants.{ReadEnter, ReadStand, GetShow}
use Rattle.worker.specs.declared.TimeStep.{TimeStep}
use Rattle.worker.specs.declared.TimeStep.TheVariants.{OpenAnnounce, OpenPass, CloseWithdraw, MarkKeep, MarkRelease}
use Rattle.worker.specs.declared.Purpose.{Purpose}
use Rattle.worker.specs.declared.Purpose.TheVariants.{Single, Marked, Totaling}
use Rattle.worker.specs.declared.Goal.{Goal}
use Rattle.places.specs.declared.Stand.{Stand}
use Rattle.places.specs.declared.Facts.{Facts}

-- a place that names this register, slot, list of so many ranges and count of times, reads nothing and names no mark
abbrev pub naming : Bool → Option ℕ → Option ℕ → Option ℕ → ℕ → Facts
naming i r c m j =
    record { idle = i; register = r; slot = c; ranges = m; read = j; stance = None; purpose = Single; mark = None }

-- H13.3, H13.4: the mark that a step moves, if any
abbrev pub mark_moved : TimeStep → Option ℕ
mark_moved OpenAnnounce = None
mark_moved OpenPass = None
mark_moved CloseWithdraw = None
mark_moved (MarkKeep m) = Some m
mark_moved (MarkRelease m) = Some m

-- the place of a step that moves a time
abbrev pub moving : TimeStep → Facts
moving y =
    record {
      idle = false;
      register = None;
      slot = None;
      ranges = None;
      read = 0;
      stance = None;
      purpose = Single;
      mark = mark_moved y;
    }

-- H13.5: the mark as of which a value is read, if any
abbrev pub mark_read : Purpose → Option ℕ
mark_read Single = None
mark_read (Marked m) = Some m
mark_read (Totaling g i k plus minus) = None

-- the place of a read, a marked read or a total
abbrev pub reading : Goal → Option ℕ → Option Stand → Facts
reading g c y =
    record {
      idle = false;
      register = Some g.register;
      slot = c;
      ranges = None;
      read = 0;
      stance = y;
      purpose = g.purpose;
      mark = mark_read g.purpose;
    }

abbrev pub about_of : Doing → Facts
about_of Idle = naming true None None None 0
about_of (PutPublish r x) = naming false (Some r) None None 0
about_of (PutStamp r c) = naming false (Some r) (Some c) None 0
about_of (PutHandIn r c) = naming false (Some r) (Some c) None 0
about_of FlushTake = naming false None None None 0
about_of (FlushRead m j) = naming false None None (Some m) j
about_of (FlushFree m) = naming false None None (Some m) 0
about_of (OnTime y) = moving y
about_of (ReadEnter g) = reading g None None
about_of (ReadStand g c) = reading g (Some c) (Some (record { goal = g; slot = c }))
about_of (GetShow r) = naming false (Some r) None None 0
