-- `put_all_in_form` meets its contract: the loop keeps `Putting`, by which the rows that are left lead to what is to be left behind.
use Rattle.std.proofs.Common.{◌/◌, length}
use Rattle.row_form.specs.Meaning.{form_of}
use Rattle.digits.proofs.Rows.{Putting}
use Rattle.digits.proofs.put_all_in_form.Given as goal

abbrev pub invariant-loop-i : goal.invariant-loop-i
invariant-loop-i l = Putting (form_of l.to) (length l.initial.rows / 16) l.initial.rows l.rows l.i
