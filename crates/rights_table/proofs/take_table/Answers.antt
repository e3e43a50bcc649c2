-- `take_table` meets its contract: a table of more than 64 rows or of ragged bytes is refused, and of another the rows are tested in an array of
-- its own before those that stood are replaced.
use mathlib.Core.Path.{sym, ◌∙◌}
use native.Mathlib.Omega.{arith}
use Rattle.rights_table.proofs.Given.{all_rows, tested, ragged_fails, long_fails}
use Rattle.rights_table.proofs.take_table.Goals as goal

pub returns-then-table-gt512 : goal.returns-then-table-gt512
returns-then-table-gt512 c =
    let s = c.args in
    let e = long_fails s.table.now (omega arith) in
    record { value = sym e; rights_after = rw e }

pub returns-then-table-ne0 : goal.returns-then-table-ne0
returns-then-table-ne0 c =
    let s = c.args in
    let e = ragged_fails s.table.now (λ q. absurd (omega (arith, q))) in
    record { value = sym e; rights_after = rw e }

pub returns-then-not-stands : goal.returns-then-not-stands
returns-then-not-stands c =
    let d = c.stands.ensures ∙ tested c.args.table.now (omega arith) (omega arith) _ _ c.fill_table.ensures in
    let e = sym d ∙ c.if-not-stands.true in
    record { value = sym e; rights_after = rw e }

pub returns : goal.returns
returns c =
    let s = c.args in
    let d = c.stands.ensures ∙ tested c.args.table.now (omega arith) (omega arith) _ _ c.fill_table.ensures in
    let e = sym d ∙ c.if-not-stands.false in
    record { value = sym e; rights_after = c.fill_table-2.ensures ∙ rw (e, all_rows s.table.now (omega arith)) }
