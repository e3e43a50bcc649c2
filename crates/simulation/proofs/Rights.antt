-- The table of rights in memory: the rows that count are in range where each passes its test, and the table that stands is one that may be given.
use mathlib.Core.Path.{◌≡◌, refl, ap}
use mathlib.Core.Bool.{Bool, true, false, cond, ◌&&◌}
use mathlib.Core.List.{List, [], ◌∷◌}
use Prim.Native.Nat.{ℕ, zero, suc, ◌≤◌, ◌<◌}
use native.Mathlib.Nat.{not-suc-le-zero, le_of_suc-le-suc}
use native.Mathlib.Omega.{arith}
use lib.Dec.{leb, eqb}
use lib.ListN.{length, get_or, take, length-take}
use lib.Seq.{length-take-le}
use borrow.Author.Tests.{le-leb, leb-true, eq-eqb, eqb-true}
use Rattle.lists.specs.Over.{over}
use Rattle.lists.proofs.Over.{over-nil, get_d_over_in}
use Rattle.model.specs.Rights.{each_of, worker_of, rights_of, first_register, last_register, last_pair, right_fits, table_stands}
use Rattle.ready_sizes.proofs.Sizes.{and_both}
use Rattle.state.specs.declared.Hub.{Hub}
use Rattle.state.specs.State.{table_kept, table_sound, standing, standing_count}
use Rattle.simulation.specs.Ranges.{RightInRange}

------------------------------------------------------------------------
-- One row

pub right_tells : (x : ℕ) → right_fits x ≡ true → RightInRange x
right_tells x e =
    let A : Bool = leb (worker_of x) 15 in
    let B : Bool = leb (rights_of x) 15 in
    let C : Bool = leb (last_register x) 255 in
    let D : Bool = leb (first_register x) (last_register x) in
    let all = and_both (A && B && (C && D)) (eqb (last_pair x) 0) e in
    let both = and_both (A && B) (C && D) all.0 in
    let ab = and_both A B both.0 in
    let cd = and_both C D both.1 in
    record {
      worker = leb-true (worker_of x) 15 ab.0;
      rights = leb-true (rights_of x) 15 ab.1;
      last = leb-true (last_register x) 255 cd.0;
      first = leb-true (first_register x) (last_register x) cd.1;
      pair = eqb-true (last_pair x) 0 all.1;
    }

pub right_yes : (x : ℕ) → RightInRange x → right_fits x ≡ true
right_yes x R =
    rw (
      le-leb (worker_of x) 15 R.worker,
      le-leb (rights_of x) 15 R.rights,
      le-leb (last_register x) 255 R.last,
      le-leb (first_register x) (last_register x) R.first,
      eq-eqb (last_pair x) 0 R.pair,
    )

------------------------------------------------------------------------
-- Each of the first n

module _ (f : ℕ → Bool) where
  pub each_at : (l : List ℕ) (i : ℕ) → each_of f l ≡ true → i < length l → f (get_or l i 0) ≡ true
  unfolding each_of
  each_at [] i e h = absurd (not-suc-le-zero h)
  each_at (x ∷ l) zero e h = (and_both (f x) (each_of f l) e).0
  each_at (x ∷ l) (suc i) e h = each_at l i (and_both (f x) (each_of f l) e).1 (le_of_suc-le-suc h)

  pub each_yes : (l : List ℕ) (n : ℕ) → ((i : ℕ) → i < n → f (get_or l i 0) ≡ true) → each_of f (take n l) ≡ true
  unfolding each_of
  each_yes l zero g = refl
  each_yes [] (suc n) g = refl
  each_yes (x ∷ l) (suc n) g = rw (g 0 (omega arith), each_yes l n (λ i h. g (suc i) (omega (arith, h))))

  -- where the list ends 0 is looked at, which passes
  pub each_tells : f 0 ≡ true → (l : List ℕ) (n : ℕ) → each_of f (take n l) ≡ true → (i : ℕ) → i < n → f (get_or l i 0) ≡ true
  unfolding each_of
  each_tells z l zero e i h = absurd (not-suc-le-zero h)
  each_tells z [] (suc n) e i h = z
  each_tells z (x ∷ l) (suc n) e zero h = (and_both (f x) (each_of f (take n l)) e).0
  each_tells z (x ∷ l) (suc n) e (suc i) h =
      each_tells z l n (and_both (f x) (each_of f (take n l)) e).1 i (le_of_suc-le-suc h)

------------------------------------------------------------------------
-- A table

module _ (t : List ℕ) (e : table_stands t ≡ true) where
  pub few_rights : length t ≤ 64
  unfolding table_stands
  few_rights = leb-true (length t) 64 (and_both (leb (length t) 64) (each_of right_fits t) e).0

  -- each row of it, written over an array
  pub rights-in : (d : List ℕ) (i : ℕ) → i < length t → RightInRange (get_or (over t d) i 0)
  unfolding table_stands
  rights-in d i h =
      rw (get_d_over_in t d i 0 h) (right_tells (get_or t i 0) (each_at right_fits t i (and_both (leb (length t) 64) (each_of right_fits t) e).1 h))

------------------------------------------------------------------------
-- The table that stands in a hub by value

module _ (h : Hub) where
  pub sound_tells : table_sound h ≡ true → (h.site.granted ≤ 64) × (each_of right_fits (table_kept h) ≡ true)
  sound_tells e =
      let a = and_both (leb h.site.granted 64) (each_of right_fits (table_kept h)) e in
      (leb-true h.site.granted 64 a.0, a.1)

  pub standing-stands : table_stands (standing h) ≡ true
  unfolding table_stands each_of
  standing-stands = go (table_sound h) refl
    where
      go : (t : Bool) → table_sound h ≡ t → table_stands (cond t (table_kept h) []) ≡ true
      go true e =
          let a = sound_tells e in
          rw (le-leb (length (table_kept h)) 64 (omega (arith, length-take h.site.granted h.site.rights, a.0))) a.1
      go false e = refl

  pub standing-length : length h.site.rights ≡ 64 → length (standing h) ≡ standing_count h
  standing-length long = go (table_sound h) refl
    where
      go : (t : Bool) → table_sound h ≡ t → length (cond t (table_kept h) []) ≡ cond t h.site.granted 0
      go true e = length-take-le h.site.granted h.site.rights (omega (arith, long, (sound_tells e).0))
      go false e = refl

  -- it stands at the front of its array
  pub standing-over : over (standing h) h.site.rights ≡ h.site.rights
  unfolding over
  standing-over = go (table_sound h)
    where
      front : (n : ℕ) (l : List ℕ) → over (take n l) l ≡ l
      front zero l = over-nil l
      front (suc n) [] = refl
      front (suc n) (x ∷ l) = ap (λ (q : List ℕ). x ∷ q) (front n l)

      go : (t : Bool) → over (cond t (table_kept h) []) h.site.rights ≡ h.site.rights
      go true = front h.site.granted h.site.rights
      go false = over-nil h.site.rights
