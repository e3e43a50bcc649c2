-- The reads that stand on a slot.
use Rattle.std.specs.Prelude.{Option, Some, None, Bool, false, cond, ℕ, eqb}
use Rattle.worker.specs.declared.Doing.{Doing}
use Rattle.worker.specs.declared.Doing.TheVariants.{ReadStand}
use Rattle.places.specs.declared.Stand.{Stand}
use Rattle.places.specs.About.{about_of}

-- a read stands on slot c
abbrev pub is_on : ℕ → Option Stand → Bool
is_on c None = false
is_on c (Some x) = eqb x.slot c

abbrev pub stands_on : Doing → ℕ → Bool
stands_on d c = is_on c (about_of d).stance

-- H5.27: a read that stands on the freed slot c goes to its older neighbour o
abbrev pub off_to : ℕ → ℕ → Doing → Option Stand → Doing
off_to c o d None = d
off_to c o d (Some x) = cond (eqb x.slot c) (ReadStand x.goal o) d

abbrev pub off_doing : ℕ → ℕ → Doing → Doing
off_doing c o d = off_to c o d (about_of d).stance
