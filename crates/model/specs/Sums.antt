-- The sums of a total with one row more: H12.6 and H16.6 of docs/HUB.md.
use Rattle.std.specs.Prelude.{cond, ℕ, ◌+◌, max, eqb}
use Rattle.model.specs.Totals.{sign_of, Sum}
use Rattle.model.specs.Store.{Content, count_of, status_of}

-- with what the row's register holds: its count goes into a sum by the row's sign, and the status is the largest
abbrev pub add_row : Sum → ℕ → Content → Sum
add_row s row x =
    record {
      plus = s.plus + cond (eqb (sign_of row) 0) (count_of x) 0;
      minus = s.minus + cond (eqb (sign_of row) 0) 0 (count_of x);
      status = max s.status (status_of x);
    }
