-- A total's place in the code's types.
use Rattle.std.specs.Prelude.{List, ℕ, ◌%◌}
use Rattle.model.specs.Totals.{register_of, row_at}
use Rattle.worker.specs.declared.Sum.{Sum}
use Rattle.worker.specs.declared.Goal.{Goal}
use Rattle.worker.specs.declared.Purpose.TheVariants.{Totaling}

-- a total of group g at row i, with the sums of the rows of its group before it: the model's `goal_at`, with the row as a number of sixteen bits
abbrev pub goal_in : List ℕ → ℕ → ℕ → Sum → Goal
goal_in rows g i sum = record { register = register_of (row_at rows i); purpose = Totaling g (i % 65536) sum.status sum.plus sum.minus }
