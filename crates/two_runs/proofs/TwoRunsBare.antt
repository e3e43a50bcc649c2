-- Stores that are the same but for values, as `bare` says, part by part: places, slots and workers, and what stamping, linking, unlinking and
-- a change of one worker make of them. Each law says that the parts stay the same but for values.
use mathlib.Core.Path.{◌≡◌, refl, sym, ap, ◌∙◌}
use mathlib.Core.Bool.{Bool, true, false, cond}
use mathlib.Core.List.{List, [], ◌∷◌, map}
use mathlib.Core.Option.{none, some}
use Prim.Native.Nat.{ℕ, zero, suc}
use lib.Dec.{ltb, eqb}
use lib.ListN.{get_or, set}
use Rattle.model.specs.Totals.{Sum, sum₀}
use Rattle.model.specs.Store.{absent, Reading, Slot, slot₀, Purpose, Single, Marked, Totaling, Goal, Doing, Idle, PutPublish, PutStamp}
use Rattle.model.specs.Store.{PutHandIn, FlushTake, FlushRead, FlushFree, OnTime, ReadEnter, ReadStand, GetShow, Worker, start_worker, Store}
use Rattle.model.specs.Store.{worker_at, slot_at, mark_at, range_of, with_slots, with_workers, with_worker, with_doing, place}
use Rattle.model.specs.About.{about}
use Rattle.model.specs.Marks.{MarkNeed, NoMark, EmptyMark, HeldMark, UnreadMark, reads, is_read, mark_refusal}
use Rattle.model.specs.Versions.{set_low, set_high, set_older, set_newer, alone, change, stamp_slots, link_slots, unlink_slots}
use Rattle.model.specs.Steps.{move_off, worker_off, read_times}
use Rattle.two_runs.specs.TwoRuns.{purpose_with, goal_with, place_with, bare_place, bare_worker, bare_slot, bare, looks_for, looks_at}

------------------------------------------------------------------------
-- Lists

pub map-set : {A B : Type 0} (f : A → B) (l : List A) (i : ℕ) (x : A) → map f (set l i x) ≡ set (map f l) i (f x)
map-set f [] i x = refl
map-set f (y ∷ l) zero x = refl
map-set f (y ∷ l) (suc i) x = ap (λ q. f y ∷ q) (map-set f l i x)

pub map-get_d : {A B : Type 0} (f : A → B) (l : List A) (i : ℕ) (d : A) → get_or (map f l) i (f d) ≡ f (get_or l i d)
map-get_d f [] i d = refl
map-get_d f (y ∷ l) zero d = refl
map-get_d f (y ∷ l) (suc i) d = map-get_d f l i d

-- what f does not see of the entries, it does not see of an entry
pub like_at : {A B : Type 0} (f : A → B) (l l' : List A) (i : ℕ) (d : A) → map f l ≡ map f l' → f (get_or l i d) ≡ f (get_or l' i d)
like_at f l l' i d e = sym (map-get_d f l i d) ∙ ap (λ q. get_or q i (f d)) e ∙ map-get_d f l' i d

pub like_set : {A B : Type 0} (f : A → B) (l l' : List A) (i : ℕ) (x x' : A) → map f l ≡ map f l' → f x ≡ f x'
    → map f (set l i x) ≡ map f (set l' i x')
like_set f l l' i x x' e u = map-set f l i x ∙ ap (λ q. set q i (f x)) e ∙ ap (λ y. set (map f l') i y) u ∙ sym (map-set f l' i x')

------------------------------------------------------------------------
-- Places

-- the reading that a place is to store, and its sums; none are zero
abbrev pub reading_of : Doing → Reading
reading_of Idle = record { count = 0; status = 0 }
reading_of (PutPublish q z) = z
reading_of (PutStamp q c) = record { count = 0; status = 0 }
reading_of (PutHandIn q c) = record { count = 0; status = 0 }
reading_of FlushTake = record { count = 0; status = 0 }
reading_of (FlushRead m ts) = record { count = 0; status = 0 }
reading_of (FlushFree m) = record { count = 0; status = 0 }
reading_of (OnTime y) = record { count = 0; status = 0 }
reading_of (ReadEnter g) = record { count = 0; status = 0 }
reading_of (ReadStand g c) = record { count = 0; status = 0 }
reading_of (GetShow q) = record { count = 0; status = 0 }

abbrev pub sum_for : Purpose → Sum
sum_for Single = sum₀
sum_for (Marked m) = sum₀
sum_for (Totaling g i y) = y

abbrev pub sum_of : Doing → Sum
sum_of d = sum_for (about d).purpose

purpose_own : (y : Purpose) → purpose_with (sum_for y) y ≡ y
purpose_own Single = refl
purpose_own (Marked m) = refl
purpose_own (Totaling g i y) = refl

purpose_twice : (y z : Sum) (u : Purpose) → purpose_with y (purpose_with z u) ≡ purpose_with y u
purpose_twice y z Single = refl
purpose_twice y z (Marked m) = refl
purpose_twice y z (Totaling g i u) = refl

goal_own : (g : Goal) → goal_with (sum_for g.purpose) g ≡ g
goal_own g = ap (λ (y : Purpose). record { register = g.register; purpose = y }) (purpose_own g.purpose)

pub goal_twice : (y z : Sum) (g : Goal) → goal_with y (goal_with z g) ≡ goal_with y g
goal_twice y z g = ap (λ (u : Purpose). record { register = g.register; purpose = u }) (purpose_twice y z g.purpose)

place-own : (d : Doing) → place_with (reading_of d) (sum_of d) d ≡ d
place-own Idle = refl
place-own (PutPublish q z) = refl
place-own (PutStamp q c) = refl
place-own (PutHandIn q c) = refl
place-own FlushTake = refl
place-own (FlushRead m ts) = refl
place-own (FlushFree m) = refl
place-own (OnTime y) = refl
place-own (ReadEnter g) = ap ReadEnter (goal_own g)
place-own (ReadStand g c) = ap (λ (u : Goal). ReadStand u c) (goal_own g)
place-own (GetShow q) = refl

place_twice : (x x' : Reading) (y y' : Sum) (d : Doing) → place_with x y (place_with x' y' d) ≡ place_with x y d
place_twice x x' y y' Idle = refl
place_twice x x' y y' (PutPublish q z) = refl
place_twice x x' y y' (PutStamp q c) = refl
place_twice x x' y y' (PutHandIn q c) = refl
place_twice x x' y y' FlushTake = refl
place_twice x x' y y' (FlushRead m ts) = refl
place_twice x x' y y' (FlushFree m) = refl
place_twice x x' y y' (OnTime z) = refl
place_twice x x' y y' (ReadEnter g) = ap ReadEnter (goal_twice y y' g)
place_twice x x' y y' (ReadStand g c) = ap (λ (u : Goal). ReadStand u c) (goal_twice y y' g)
place_twice x x' y y' (GetShow q) = refl

-- a place that is the same but for values is the place with other values
pub place_is : (d e : Doing) → bare_place d ≡ bare_place e → e ≡ place_with (reading_of e) (sum_of e) d
place_is d e u =
    sym (place-own e)
    ∙ sym (place_twice (reading_of e) (record { count = 0; status = 0 }) (sum_of e) sum₀ e)
    ∙ ap (place_with (reading_of e) (sum_of e)) (sym u)
    ∙ place_twice (reading_of e) (record { count = 0; status = 0 }) (sum_of e) sum₀ d

-- what is asked of a place does not see values
pub stance_reads : (m : ℕ) (d : Doing) → reads m (about (bare_place d)).stance ≡ reads m (about d).stance
stance_reads m Idle = refl
stance_reads m (PutPublish q z) = refl
stance_reads m (PutStamp q c) = refl
stance_reads m (PutHandIn q c) = refl
stance_reads m FlushTake = refl
stance_reads m (FlushRead n ts) = refl
stance_reads m (FlushFree n) = refl
stance_reads m (OnTime y) = refl
stance_reads m (ReadEnter g) = refl
stance_reads m (ReadStand g c) = for g.purpose
  where
    for : (y : Purpose) → reads m (about (ReadStand (record { register = g.register; purpose = purpose_with sum₀ y }) c)).stance
        ≡ reads m (about (ReadStand (record { register = g.register; purpose = y }) c)).stance
    for Single = refl
    for (Marked n) = refl
    for (Totaling j i y) = refl
stance_reads m (GetShow q) = refl

pub idle_like : (d : Doing) → (about (bare_place d)).idle ≡ (about d).idle
idle_like Idle = refl
idle_like (PutPublish q z) = refl
idle_like (PutStamp q c) = refl
idle_like (PutHandIn q c) = refl
idle_like FlushTake = refl
idle_like (FlushRead n ts) = refl
idle_like (FlushFree n) = refl
idle_like (OnTime y) = refl
idle_like (ReadEnter g) = refl
idle_like (ReadStand g c) = refl
idle_like (GetShow q) = refl

pub effect_like : (d : Doing) → (about (bare_place d)).effect ≡ (about d).effect
effect_like Idle = refl
effect_like (PutPublish q z) = refl
effect_like (PutStamp q c) = refl
effect_like (PutHandIn q c) = refl
effect_like FlushTake = refl
effect_like (FlushRead n ts) = refl
effect_like (FlushFree n) = refl
effect_like (OnTime y) = refl
effect_like (ReadEnter g) = refl
effect_like (ReadStand g c) = refl
effect_like (GetShow q) = refl

looks_for_lem : (r : ℕ) (rows : List ℕ) (q : ℕ) (y : Sum) (u : Purpose) → looks_for r rows q (purpose_with y u) ≡ looks_for r rows q u
looks_for_lem r rows q y Single = refl
looks_for_lem r rows q y (Marked m) = refl
looks_for_lem r rows q y (Totaling g i z) = refl

pub looks_like : (r : ℕ) (rows : List ℕ) (x : Reading) (y : Sum) (d : Doing) → looks_at r rows (place_with x y d) ≡ looks_at r rows d
looks_like r rows x y Idle = refl
looks_like r rows x y (PutPublish q z) = refl
looks_like r rows x y (PutStamp q c) = refl
looks_like r rows x y (PutHandIn q c) = refl
looks_like r rows x y FlushTake = refl
looks_like r rows x y (FlushRead n ts) = refl
looks_like r rows x y (FlushFree n) = refl
looks_like r rows x y (OnTime z) = refl
looks_like r rows x y (ReadEnter g) = looks_for_lem r rows g.register y g.purpose
looks_like r rows x y (ReadStand g c) = looks_for_lem r rows g.register y g.purpose
looks_like r rows x y (GetShow q) = refl

-- a read moves off a freed slot alike
off_like : (c o : ℕ) (d : Doing) → bare_place (move_off c o d) ≡ move_off c o (bare_place d)
unfolding move_off
off_like c o Idle = refl
off_like c o (PutPublish q z) = refl
off_like c o (PutStamp q e) = refl
off_like c o (PutHandIn q e) = refl
off_like c o FlushTake = refl
off_like c o (FlushRead n ts) = refl
off_like c o (FlushFree n) = refl
off_like c o (OnTime y) = refl
off_like c o (ReadEnter g) = refl
off_like c o (ReadStand g e) = refl
off_like c o (GetShow q) = refl

------------------------------------------------------------------------
-- Slots

pub change-like : (l l' : List Slot) (c : ℕ) (f : Slot → Slot) → ((v u : Slot) → bare_slot v ≡ bare_slot u → bare_slot (f v) ≡ bare_slot (f u))
    → map bare_slot l ≡ map bare_slot l' → map bare_slot (change l c f) ≡ map bare_slot (change l' c f)
change-like l l' c f k e = like_set bare_slot l l' c (f (get_or l c slot₀)) (f (get_or l' c slot₀)) e (k _ _ (like_at bare_slot l l' c slot₀ e))

module _ (l l' : List Slot) (e : map bare_slot l ≡ map bare_slot l') where
  abbrev lows : ℕ → ℕ → List Slot → List Slot
  lows n t q = change q n (λ v. set_low v t)

  -- the neighbours o and n of a slot that goes, joined
  abbrev newers : ℕ → ℕ → List Slot → List Slot
  newers o n q = change q o (λ v. set_newer v n)

  abbrev joined : ℕ → ℕ → List Slot → List Slot
  joined o n q = change (newers o n q) n (λ v. set_older v o)

  pub stamp-like : (n t : ℕ) → map bare_slot (stamp_slots l n t) ≡ map bare_slot (stamp_slots l' n t)
  unfolding stamp_slots
  stamp-like n t =
      go (eqb (get_or l n slot₀).low absent)
      ∙ ap (λ (v : Slot). map bare_slot (cond (eqb v.low absent) (change (lows n t l') v.older (λ z. set_high z t)) l')) (like_at bare_slot l l' n slot₀ e)
    where
      o : ℕ
      o = (get_or l n slot₀).older

      go : (b : Bool) → map bare_slot (cond b (change (lows n t l) o (λ v. set_high v t)) l)
          ≡ map bare_slot (cond b (change (lows n t l') o (λ v. set_high v t)) l')
      go true =
          change-like (lows n t l) (lows n t l') o (λ v. set_high v t) (λ v u z. ap (λ (q : Slot). set_high q t) z)
          (change-like l l' n (λ v. set_low v t) (λ v u z. ap (λ (q : Slot). set_low q t) z) e)
      go false = e

  pub link_like : (c f : ℕ) (x x' : Reading) → map bare_slot (link_slots l c f x) ≡ map bare_slot (link_slots l' c f x')
  unfolding link_slots
  link_like c f x x' =
      like_set bare_slot (change l c (λ v. set_newer v f)) (change l' c (λ v. set_newer v f)) f _ _
      (change-like l l' c (λ v. set_newer v f) (λ v u z. ap (λ (q : Slot). set_newer q f) z) e) refl

  pub unlink_like : (c : ℕ) → map bare_slot (unlink_slots l c) ≡ map bare_slot (unlink_slots l' c)
  unfolding unlink_slots
  unlink_like c =
      go (get_or l c slot₀).older (get_or l c slot₀).newer
      ∙ ap (λ (v : Slot). map bare_slot (change (joined v.older v.newer l') c alone)) (like_at bare_slot l l' c slot₀ e)
    where
      go : (o n : ℕ) → map bare_slot (change (joined o n l) c alone) ≡ map bare_slot (change (joined o n l') c alone)
      go o n =
          change-like (joined o n l) (joined o n l') c alone (λ v u z. ap alone z)
          (change-like (newers o n l) (newers o n l') n (λ v. set_older v o) (λ v u z. ap (λ (q : Slot). set_older q o) z)
          (change-like l l' o (λ v. set_newer v n) (λ v u z. ap (λ (q : Slot). set_newer q n) z) e))

------------------------------------------------------------------------
-- Workers

worker_off_lem : (c o : ℕ) (ws : List Worker) → map bare_worker (map (worker_off c o) ws) ≡ map (worker_off c o) (map bare_worker ws)
unfolding worker_off
worker_off_lem c o [] = refl
worker_off_lem c o (x ∷ ws) =
    ap (λ (q : List Worker). bare_worker (worker_off c o x) ∷ q) (worker_off_lem c o ws)
    ∙ ap (λ (d : Doing). with_doing x d ∷ map (worker_off c o) (map bare_worker ws)) (off_like c o x.doing)

pub workers_off : (c o : ℕ) (ws ws' : List Worker) → map bare_worker ws ≡ map bare_worker ws'
    → map bare_worker (map (worker_off c o) ws) ≡ map bare_worker (map (worker_off c o) ws')
workers_off c o ws ws' e = worker_off_lem c o ws ∙ ap (map (worker_off c o)) e ∙ sym (worker_off_lem c o ws')

is_read_lem : (m : ℕ) (ws : List Worker) → is_read m (map bare_worker ws) ≡ is_read m ws
unfolding is_read
is_read_lem m [] = refl
is_read_lem m (x ∷ ws) = rw (stance_reads m x.doing, is_read_lem m ws)

------------------------------------------------------------------------
-- A store s, and another that is the same but for values: t, which has the slots l and the workers ws

module _ (s : Store) (l : List Slot) (ws : List Worker) (sl : map bare_slot s.slots ≡ map bare_slot l) (sw : map bare_worker s.workers ≡ map bare_worker ws) where
  abbrev pub other : Store
  other = with_workers (with_slots s l) ws

  pub bare-like : bare s ≡ bare other
  bare-like =
      ap (λ (q : List Slot). with_workers (with_slots s q) (map bare_worker s.workers)) sl
      ∙ ap (λ (q : List Worker). with_workers (with_slots s (map bare_slot l)) q) sw

  pub slot_like : (c : ℕ) → bare_slot (slot_at s c) ≡ bare_slot (slot_at other c)
  slot_like c = like_at bare_slot s.slots l c slot₀ sl

  pub worker_like : (w : ℕ) → bare_worker (worker_at s w) ≡ bare_worker (worker_at other w)
  worker_like w = like_at bare_worker s.workers ws w start_worker sw

  pub announced_like : (w : ℕ) → (worker_at s w).announced ≡ (worker_at other w).announced
  announced_like w = ap (λ (x : Worker). x.announced) (worker_like w)

  pub pool_like : (w : ℕ) → (worker_at s w).pool ≡ (worker_at other w).pool
  pool_like w = ap (λ (x : Worker). x.pool) (worker_like w)

  pub range-like : (c : ℕ) → range_of s c ≡ range_of other c
  unfolding range_of
  range-like c = ap (λ (v : Slot). record { slot = c; low = v.low; high = v.high }) (slot_like c)

  pub times_like : (k : ℕ) → read_times s k ≡ read_times other k
  unfolding read_times
  times_like k = ap (λ (a : ℕ). cond (ltb k s.site.P) (a ∷ []) s.marks) (announced_like k)

  pub refusal-like : (y : MarkNeed) → mark_refusal s y ≡ mark_refusal other y
  unfolding mark_refusal
  refusal-like NoMark = refl
  refusal-like (EmptyMark m) = refl
  refusal-like (HeldMark m) = refl
  refusal-like (UnreadMark m) =
      ap (λ (b : Bool). cond (ltb (mark_at s m) absent) (cond b (some 21) none) (some 20))
      (sym (is_read_lem m s.workers) ∙ ap (is_read m) sw ∙ is_read_lem m ws)

  -- one worker's record changed
  pub workers_like : (w : ℕ) (y y' : Worker) → bare_worker y ≡ bare_worker y' → map bare_worker (set s.workers w y) ≡ map bare_worker (set ws w y')
  workers_like w y y' e = like_set bare_worker s.workers ws w y y' sw e

  -- its place
  pub doing_like : (w : ℕ) (d e : Doing) → bare_place d ≡ bare_place e
      → bare_worker (with_doing (worker_at s w) d) ≡ bare_worker (with_doing (worker_at other w) e)
  doing_like w d e u =
      ap (λ (x : Worker). record { doing = bare_place d; announced = x.announced; pool = x.pool }) (worker_like w)
      ∙ ap (λ (q : Doing). record { doing = q; announced = (worker_at other w).announced; pool = (worker_at other w).pool }) u

module _ (s : Store) (l : List Slot) (ws : List Worker) (sl : map bare_slot s.slots ≡ map bare_slot l) (sw : map bare_worker s.workers ≡ map bare_worker ws) where
  pub worker_set : (w : ℕ) (y y' : Worker) → bare_worker y ≡ bare_worker y' → bare (with_worker s w y) ≡ bare (with_worker (with_workers (with_slots s l) ws) w y')
  worker_set w y y' e = bare-like (with_worker s w y) l (set ws w y') sl (workers_like s l ws sl sw w y y' e)

  pub placed : (w : ℕ) (d e : Doing) → bare_place d ≡ bare_place e → bare (place s w d) ≡ bare (place (with_workers (with_slots s l) ws) w e)
  placed w d e u = worker_set w _ _ (doing_like s l ws sl sw w d e u)
