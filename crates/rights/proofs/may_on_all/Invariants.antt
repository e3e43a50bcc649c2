-- `may_on_all` meets its contract. The invariant: the worker has the right on each register before r.
use Prim.Native.Nat.{◌≤◌}
use Rattle.model.specs.Store.{up_from}
use Rattle.model.specs.Rights.{may_on_each}
use Rattle.rights.specs.Needs.{permission_of}
use Rattle.rights_table.proofs.Scan.{Passed}
use Rattle.rights.proofs.may_on_all.Given as goal

abbrev pub invariant-loop-r : goal.invariant-loop-r
invariant-loop-r l = (l.r ≤ l.v) × Passed (may_on_each l.rights l.w (permission_of l.p)) (up_from 0 l.v) l.r
