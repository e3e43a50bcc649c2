-- A worker's place taken apart once: the places that laws ask about by name, and what is alike of all others.
use mathlib.Core.Path.{◌≡◌, refl, sym, ap, subst, ◌∙◌}
use mathlib.Core.Bool.{true, false, true≢false}
use mathlib.Core.Logic.{◌⊎◌, inl, inr, ⊎_elim}
use mathlib.Core.List.{List}
use Prim.Native.Nat.{ℕ}
use Rattle.model.specs.Store.{OpenAnnounce, OpenPass, CloseWithdraw, MarkKeep, MarkRelease, Goal, Doing, Idle, PutPublish, PutStamp}
use Rattle.model.specs.Store.{PutHandIn, FlushTake, FlushRead, FlushFree, OnTime, ReadEnter, ReadStand, GetShow}
use Rattle.model.specs.Steps.{move_off}
use Rattle.model.specs.Record.{Operation, Put, Open, Read, Close, Get, Collect, Total, Mark, Release, MarkedRead}
use Rattle.model.specs.Apply.{terms}
use Rattle.model.specs.About.{Empty, Nowhere, Effect, NoEffect, ByStamp, ByClock, about}

pub data View (d : Doing) : Type 0 where
  AtIdle : d ≡ Idle → View d
  AtStamp : (r c : ℕ) → d ≡ PutStamp r c → View d
  AtPass : d ≡ OnTime OpenPass → View d
  AtStand : (g : Goal) (c : ℕ) → d ≡ ReadStand g c → View d
  Elsewhere : (about d).idle ≡ false → (about d).stance ≡ Nowhere → (about d).effect ≡ NoEffect → View d

pub view : (d : Doing) → View d
view Idle = AtIdle refl
view (PutPublish r x) = Elsewhere refl refl refl
view (PutStamp r c) = AtStamp r c refl
view (PutHandIn r c) = Elsewhere refl refl refl
view FlushTake = Elsewhere refl refl refl
view (FlushRead m ts) = Elsewhere refl refl refl
view (FlushFree m) = Elsewhere refl refl refl
view (OnTime OpenAnnounce) = Elsewhere refl refl refl
view (OnTime OpenPass) = AtPass refl
view (OnTime CloseWithdraw) = Elsewhere refl refl refl
view (OnTime (MarkKeep m)) = Elsewhere refl refl refl
view (OnTime (MarkRelease m)) = Elsewhere refl refl refl
view (ReadEnter g) = Elsewhere refl refl refl
view (ReadStand g c) = AtStand g c refl
view (GetShow r) = Elsewhere refl refl refl

------------------------------------------------------------------------
-- What `about` says of a place, told back

pub idle_is : (d : Doing) → (about d).idle ≡ true → d ≡ Idle
idle_is d e = go (view d)
  where
    not_so : (about d).idle ≡ false → d ≡ Idle
    not_so b = absurd (true≢false (sym e ∙ b))

    go : View d → d ≡ Idle
    go (AtIdle q) = q
    go (AtStamp r c q) = not_so (ap (λ x. (about x).idle) q)
    go (AtPass q) = not_so (ap (λ x. (about x).idle) q)
    go (AtStand g c q) = not_so (ap (λ x. (about x).idle) q)
    go (Elsewhere b s f) = not_so b

abbrev ByStampOf : ℕ → Effect → Type 0
ByStampOf c NoEffect = ⊥
ByStampOf c (ByStamp e) = e ≡ c
ByStampOf c ByClock = ⊥

pub stamp-is : (d : Doing) (c : ℕ) → (about d).effect ≡ ByStamp c → (r : ℕ) × (d ≡ PutStamp r c)
stamp-is d c e = go (view d)
  where
    found : (f : Effect) → (about d).effect ≡ f → ByStampOf c f
    found f q = subst (ByStampOf c) (sym e ∙ q) refl

    go : View d → (r : ℕ) × (d ≡ PutStamp r c)
    go (AtIdle q) = absurd (found NoEffect (ap (λ x. (about x).effect) q))
    go (AtStamp r b q) = (r, q ∙ ap (PutStamp r) (found (ByStamp b) (ap (λ x. (about x).effect) q)))
    go (AtPass q) = absurd (found ByClock (ap (λ x. (about x).effect) q))
    go (AtStand g b q) = absurd (found NoEffect (ap (λ x. (about x).effect) q))
    go (Elsewhere b s f) = absurd (found NoEffect f)

-- it is an open's
abbrev pub ByClockOf : Effect → Type 0
ByClockOf NoEffect = ⊥
ByClockOf (ByStamp c) = ⊥
ByClockOf ByClock = Unit {0}

pub clock_is : (d : Doing) → (about d).effect ≡ ByClock → d ≡ OnTime OpenPass
clock_is d e = go (view d)
  where
    found : (f : Effect) → (about d).effect ≡ f → ByClockOf f
    found f q = subst ByClockOf (sym e ∙ q) tt

    go : View d → d ≡ OnTime OpenPass
    go (AtIdle q) = absurd (found NoEffect (ap (λ x. (about x).effect) q))
    go (AtStamp r c q) = absurd (found (ByStamp c) (ap (λ x. (about x).effect) q))
    go (AtPass q) = q
    go (AtStand g c q) = absurd (found NoEffect (ap (λ x. (about x).effect) q))
    go (Elsewhere b s f) = absurd (found NoEffect f)

------------------------------------------------------------------------
-- At the begin of an operation nothing is in hand

pub first_hand : (rows : List ℕ) (o : Operation) → (about (terms rows o).first).hand ≡ Empty
first_hand rows (Put r x) = refl
first_hand rows Open = refl
first_hand rows (Read r) = refl
first_hand rows Close = refl
first_hand rows (Get r) = refl
first_hand rows Collect = refl
first_hand rows (Total g) = refl
first_hand rows (Mark m) = refl
first_hand rows (Release m) = refl
first_hand rows (MarkedRead r m) = refl

------------------------------------------------------------------------
-- A version is freed: a read that stands on it moves, no other place changes

pub off_cases : (d : Doing) → ((g : Goal) × (c : ℕ) × (d ≡ ReadStand g c)) ⊎ (((about d).stance ≡ Nowhere) × ((c o : ℕ) → move_off c o d ≡ d))
unfolding move_off
off_cases d = go (view d)
  where
    go : View d → ((g : Goal) × (c : ℕ) × (d ≡ ReadStand g c)) ⊎ (((about d).stance ≡ Nowhere) × ((c o : ℕ) → move_off c o d ≡ d))
    go (AtIdle q) = inr (ap (λ x. (about x).stance) q, λ c o. rw q)
    go (AtStamp r e q) = inr (ap (λ x. (about x).stance) q, λ c o. rw q)
    go (AtPass q) = inr (ap (λ x. (about x).stance) q, λ c o. rw q)
    go (AtStand g e q) = inl (g, e, q)
    go (Elsewhere b s f) = inr (s, λ c o. rw s)

-- what holds of a place, and of a read wherever it stands, still holds
pub off_keeps : (Q : Doing → Type 0) → ((g : Goal) (e e' : ℕ) → Q (ReadStand g e) → Q (ReadStand g e')) → (c o : ℕ) (d : Doing) → Q d
    → Q (move_off c o d)
unfolding move_off
off_keeps Q f c o d a =
    ⊎_elim (λ u. subst (λ x. Q (move_off c o x)) (sym u.2) (f u.0 u.1 _ (subst Q u.2 a))) (λ u. subst Q (sym (u.1 c o)) a) (off_cases d)
