-- The inner loop, which moves the reads that stand on a freed slot: one worker more.
use Rattle.std.specs.Prelude.{Option, Some, None, ◌≡◌, ℕ, ◌+◌, ◌<◌, false, List, length, get_or, set}
use mathlib.Core.Path.{refl, sym}
use native.Mathlib.Numerals.{add-one}
use Rattle.worker.specs.declared.Doing.{Doing}
use Rattle.worker.specs.declared.Worker.{Worker}
use Rattle.places.specs.About.{about_of}
use Rattle.state.specs.State.{nobody, at_place}
use Rattle.places.specs.declared.Stand.{Stand}
use Rattle.standing.specs.Standing.{off_to, off_doing, is_on, stands_on}
use Rattle.simulation.specs.Shell.{off_worker}
use Rattle.lists.proofs.Mapped.{mapped, mapped-more}

-- a read that stands elsewhere stays
stays : (c o : ℕ) (d : Doing) (y : Option Stand) → is_on c y ≡ false → off_to c o d y ≡ d
stays c o d None e = refl
stays c o d (Some x) e = rw e

module _ (c o : ℕ) (l₀ l : List Worker) (j : ℕ) (e : l ≡ mapped (off_worker c o) j l₀) (sixteen : length l₀ ≡ 16) where
  -- worker j's record
  abbrev y : Worker
  y = get_or l j nobody

  pub move_one : j < 16 → (d : Doing) → d ≡ off_doing c o y.doing → set l j (at_place y d) ≡ mapped (off_worker c o) (j + 1) l₀
  move_one inside d f = rw (f, e, add-one j) (mapped-more (off_worker c o) nobody l₀ j (rw sixteen inside))

  pub move_none : j < 16 → stands_on y.doing c ≡ false → set l j y ≡ mapped (off_worker c o) (j + 1) l₀
  move_none inside f = move_one inside y.doing (sym (stays c o y.doing (about_of y.doing).stance f))
