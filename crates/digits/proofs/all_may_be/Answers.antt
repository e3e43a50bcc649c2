-- `all_may_be`: the rows are tested one by one.
use Rattle.std.proofs.Common.{◌∙◌, ◌/◌, length, arith, rules, tests}
use Rattle.std.proofs.lemmas.Iterator.Search.{all_from_yields_List}
use Rattle.row_form.specs.Meaning.{form_of}
use Rattle.digits.proofs.Rows.{rows_yielded, is_row_for, all_rows}
use Rattle.digits.proofs.all_may_be.Goals as goal

pub returns : goal.returns
returns c =
    let rows = c.args.rows.now in
    all_from_yields_List (is_row_for (form_of c.args.to)) _ _ c.all.result c.all.ensures.ran (rows_yielded _ rows (search rules) (search rules)) (λ x b q k. search (rules, tests))
    ∙ all_rows (form_of c.args.to) (length rows / 16) rows (omega arith)
