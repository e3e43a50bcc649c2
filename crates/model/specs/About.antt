-- What is asked of a worker's place besides its step: one definition, a line for each place.
use Rattle.std.specs.Prelude.{Bool, true, false, List, ℕ}
use Rattle.model.specs.Store.{Range, TimeStep, OpenAnnounce, OpenPass, CloseWithdraw, MarkKeep, MarkRelease, Purpose, Single}
use Rattle.model.specs.Store.{Goal, Doing, Idle, PutPublish, PutStamp, PutHandIn, FlushTake, FlushRead, FlushFree, OnTime}
use Rattle.model.specs.Store.{ReadEnter, ReadStand, GetShow}

-- the versions that a place has in hand: none, the one in the slot that a put covers, a merged list
-- with the times read so far, or the needless ranges not yet freed
pub data Hand : Type 0 where
  Empty : Hand
  Covered : ℕ → Hand
  Merged : List Range → List ℕ → Hand
  Needless : List Range → Hand

-- the slot on which a read stands, and what it reads for
pub data Stance : Type 0 where
  Nowhere : Stance
  StandsOn : Goal → ℕ → Stance

-- H6.13: an effect in the order of demand 3 that may come with another worker's step: a put's with the stamp over the version in a slot, an
-- open's as the clock passes its time.
pub data Effect : Type 0 where
  NoEffect : Effect
  ByStamp : ℕ → Effect
  ByClock : Effect

pub record Facts : Type 0 where
  -- nothing is being done
  pub idle : Bool
  pub hand : Hand
  pub stance : Stance
  pub effect : Effect
  -- what it reads for
  pub purpose : Purpose

-- a worker that is doing something, with this in hand, whose operation takes its effect so
abbrev pub busy : Hand → Effect → Facts
busy h e = record { idle = false; hand = h; stance = Nowhere; effect = e; purpose = Single }

abbrev pub time_effect : TimeStep → Effect
time_effect OpenAnnounce = NoEffect
time_effect OpenPass = ByClock
time_effect CloseWithdraw = NoEffect
time_effect (MarkKeep m) = NoEffect
time_effect (MarkRelease m) = NoEffect

abbrev pub about : Doing → Facts
about Idle = record { idle = true; hand = Empty; stance = Nowhere; effect = NoEffect; purpose = Single }
about (PutPublish r x) = busy Empty NoEffect
about (PutStamp r c) = busy (Covered c) (ByStamp c)
about (PutHandIn r c) = busy (Covered c) NoEffect
about FlushTake = busy Empty NoEffect
about (FlushRead m ts) = busy (Merged m ts) NoEffect
about (FlushFree m) = busy (Needless m) NoEffect
about (OnTime y) = busy Empty (time_effect y)
about (ReadEnter g) =
    record { idle = false; hand = Empty; stance = Nowhere; effect = NoEffect; purpose = g.purpose }
about (ReadStand g c) =
    record { idle = false; hand = Empty; stance = StandsOn g c; effect = NoEffect; purpose = g.purpose }
about (GetShow r) = busy Empty NoEffect
