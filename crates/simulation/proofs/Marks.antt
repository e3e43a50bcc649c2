-- What the code finds of marks in memory in which a sound store lies: the refusals 19, 20 and 21 and the time as of which a worker reads are the
-- model's.
use Rattle.std.specs.Prelude.{Option as Code-as-Option}
use mathlib.Core.Path.{◌≡◌, refl, sym, ap, ◌∙◌, subst}
use mathlib.Core.Bool.{Bool, true, false, cond, ◌||◌}
use mathlib.Core.Logic.{⊎_elim}
use mathlib.Core.List.{List, [], ◌∷◌, map}
use mathlib.Core.Option.{Option, none, some}
use Prim.Native.Nat.{ℕ, suc, ◌+◌, ◌<◌}
use native.Mathlib.Nat.{mod-eq_of_lt}
use native.Mathlib.Omega.{arith}
use lib.Dec.{ltb, eqb}
use lib.ListN.{length, get_or}
use borrow.Author.Tests.{eq-eqb, ne_eqb}
use Rattle.model.specs.Store as Model
use Rattle.model.specs.Store.{Store, absent, mark_count, start_worker, worker_at, mark_at}
use Rattle.model.specs.About.{about}
use Rattle.model.specs.Marks.{MarkNeed, NoMark, EmptyMark, HeldMark, UnreadMark, as_of, reads, is_read, mark_refusal, number_of, need_for, time_for}
use Rattle.model.proofs.Basic.{cond_both, eq_cases}
use Rattle.theorem.proofs.View.{off_cases}
use Rattle.places.specs.declared.Stand.{Stand}
use Rattle.worker.specs.Rep.{purpose_rep, doing_rep, announced_rep, time_of}
use Rattle.marks.specs.Marks.{shown_as, read_as, read_from, read_by, read_in, refusal_in, time_in}
use Rattle.gate.specs.Gate.{mark_need_rep}
use Rattle.step.specs.Step.{need_of}
use Rattle.simulation.specs.Memory.{read_of}
use Rattle.simulation.proofs.Facts.{stance_rep, same_facts}
use Rattle.simulation.proofs.Sound.{MarkIn, PlaceIn, Sound}

-- of the twelve marks each is shown as another
shown_same : (j m : ℕ) → j < mark_count → m < mark_count → eqb (shown_as j) (shown_as m) ≡ eqb j m
shown_same j m a b =
    let i : shown_as j ≡ j + 1 = ap (λ (k : ℕ). k + 1) (mod-eq_of_lt (omega (arith, a))) in
    let k : shown_as m ≡ m + 1 = ap (λ (k : ℕ). k + 1) (mod-eq_of_lt (omega (arith, b))) in
    ⊎_elim
    (λ u. eq-eqb (shown_as j) (shown_as m) (ap shown_as u.0) ∙ sym u.1)
    (λ u. ne_eqb (shown_as j) (shown_as m) (λ z. u.0 (omega (arith, i, k, z))) ∙ sym u.1)
    (eq_cases j m)

-- a worker reads mark m, for the code and for the model
purpose_reads : (y : Model.Purpose) (m : ℕ) → MarkIn y → m < mark_count → eqb (read_as (purpose_rep y)) (shown_as m) ≡ as_of m y
purpose_reads Model.Single m a b = ne_eqb 0 (shown_as m) (λ z. omega (arith, z))
purpose_reads (Model.Marked j) m a b = shown_same j m a b
purpose_reads (Model.Totaling g i y) m a b = ne_eqb 0 (shown_as m) (λ z. omega (arith, z))

place-reads : (s : Store) (t : ℕ) (d : Model.Doing) (m : ℕ) → PlaceIn s t d → m < mark_count
    → eqb (read_by (doing_rep d)) (shown_as m) ≡ reads m (about d).stance
place-reads s t d m a b =
    ⊎_elim
    (λ u. subst (λ (y : Model.Doing). PlaceIn s t y → eqb (read_by (doing_rep y)) (shown_as m) ≡ reads m (about y).stance) (sym u.2)
    (λ p. purpose_reads u.0.purpose m p.2 b) a)
    (λ u. ap (λ (y : Code-as-Option Stand). eqb (read_from y) (shown_as m)) ((same_facts d).1 ∙ ap stance_rep u.0) ∙ ne_eqb 0 (shown_as m) (λ z. omega (arith, z))
    ∙ sym (ap (reads m) u.0))
    (off_cases d)

reads_in : (s : Store) (m : ℕ) → m < mark_count → (ws : List Model.Worker)
    → ((v : ℕ) → v < length ws → (t : ℕ) × PlaceIn s t (get_or ws v start_worker).doing) → read_in (map read_of ws) m ≡ is_read m ws
unfolding read_in is_read
reads_in s m b [] f = refl
reads_in s m b (x ∷ ws) f =
    let p = f 0 (omega arith) in
    λ i. place-reads s p.0 x.doing m p.1 b i || reads_in s m b ws (λ v h. f (suc v) (omega (arith, h))) i

-- the mark that is asked to be read by nobody is one of the twelve
abbrev pub UnreadIn : MarkNeed → Type 0
UnreadIn NoMark = Unit {0}
UnreadIn (EmptyMark m) = Unit {0}
UnreadIn (HeldMark m) = Unit {0}
UnreadIn (UnreadMark m) = m < mark_count

module _ (s : Store) (S : Sound s) where
  read_same : (m : ℕ) → m < mark_count → read_in (map read_of s.workers) m ≡ is_read m s.workers
  read_same m b =
      reads_in s m b s.workers (λ v h. ((worker_at s v).announced, S.places v (omega (arith, h, S.bounds.workers.2))))

  -- the refusal that a need meets
  pub refusal-same : (y : MarkNeed) → UnreadIn y → refusal_in (mark_need_rep y) s.marks (map read_of s.workers) ≡ number_of (mark_refusal s y)
  unfolding refusal_in mark_refusal
  refusal-same NoMark a = refl
  refusal-same (EmptyMark m) a = go (ltb (mark_at s m) absent)
    where
      go : (t : Bool) → cond t 19 0 ≡ number_of (cond t (some 19) none)
      go true = refl
      go false = refl
  refusal-same (HeldMark m) a = go (ltb (mark_at s m) absent)
    where
      go : (t : Bool) → cond t 0 20 ≡ number_of (cond t none (some 20))
      go true = refl
      go false = refl
  refusal-same (UnreadMark m) a =
      ap (λ (r : Bool). cond (ltb (mark_at s m) absent) (cond r 21 0) 20) (read_same m a) ∙ go (ltb (mark_at s m) absent) (is_read m s.workers)
    where
      go : (t r : Bool) → cond t (cond r 21 0) 20 ≡ number_of (cond t (cond r (some 21) none) (some 20))
      go true true = refl
      go true false = refl
      go false r = refl

-- none of them is 0
abbrev pub Numbered : Option ℕ → Type 0
Numbered none = Unit {0}
Numbered (some k) = (0 < k) × (k < 256)

pub numbered : (s : Store) (y : MarkNeed) → Numbered (mark_refusal s y)
unfolding mark_refusal
numbered s NoMark = tt
numbered s (EmptyMark m) = cond_both Numbered (ltb (mark_at s m) absent) _ _ (λ u. (omega arith, omega arith)) (λ u. tt)
numbered s (HeldMark m) = cond_both Numbered (ltb (mark_at s m) absent) _ _ (λ u. tt) (λ u. (omega arith, omega arith))
numbered s (UnreadMark m) =
    cond_both Numbered (ltb (mark_at s m) absent) _ _
    (λ u. cond_both Numbered (is_read m s.workers) _ _ (λ v. (omega arith, omega arith)) (λ v. tt)) (λ u. (omega arith, omega arith))

-- what a read asks of a mark
pub need_same : (y : Model.Purpose) → need_of (purpose_rep y) ≡ mark_need_rep (need_for y)
need_same Model.Single = refl
need_same (Model.Marked m) = refl
need_same (Model.Totaling g i y) = refl

pub need_unread : (y : Model.Purpose) → UnreadIn (need_for y)
need_unread Model.Single = tt
need_unread (Model.Marked m) = tt
need_unread (Model.Totaling g i y) = tt

-- the time as of which a worker reads
pub time_same : (marks : List ℕ) (t : ℕ) (y : Model.Purpose) → time_of (announced_rep t) ≡ t
    → time_in (purpose_rep y) (announced_rep t) marks ≡ time_for marks t y
time_same marks t Model.Single e = e
time_same marks t (Model.Marked m) e = refl
time_same marks t (Model.Totaling g i y) e = e
