-- `may_on_group` meets its contract. The invariant: the worker has the right on the register of each row of the group before this one.
use Rattle.model.specs.Rights.{may_on}
use Rattle.rights.specs.Needs.{permission_of}
use Rattle.rights_table.proofs.Scan.{Passed}
use Rattle.rights.proofs.InGroup.{each_in}
use Rattle.rights.proofs.may_on_group.Given as goal

abbrev pub invariant-loop-row : goal.invariant-loop-row
invariant-loop-row l = Passed (each_in (may_on l.rights l.w (permission_of l.p)) l.group) l.rows l.row-index
