-- `is_bcd`: the last six bytes are tested one by one.
use Rattle.std.proofs.Common.{◌∙◌, ap, rules, tests}
use Rattle.std.proofs.lemmas.Iterator.{YieldsList-from_slice}
use Rattle.std.proofs.lemmas.Iterator.Search.{all_from_yields_List}
use Rattle.std.specs.List.{list_all}
use Rattle.model.specs.Digits.{is_bcd_byte}
use Rattle.row_form.proofs.Row.{part-from, all-bcd}
use Rattle.row_form.proofs.is_bcd.Goals as goal

pub returns : goal.returns
returns c =
    all_from_yields_List is_bcd_byte _ _ c.all.result c.all.ensures.ran (YieldsList-from_slice _ c.iter.ensures.rest) (λ x b q k. search (rules, tests))
    ∙ ap (list_all is_bcd_byte) (part-from c.args.row.now 10) ∙ all-bcd c.args.row.now 6 10 (search rules)
