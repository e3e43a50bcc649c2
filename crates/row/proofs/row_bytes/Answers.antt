-- `row_bytes`: the numbers, each stored where the last one ended, are the sixteen bytes.
use Rattle.std.proofs.Common.{◌∙◌, rules}
use Rattle.le.proofs.Bytes.{le_bytes}
use Rattle.values.specs.Meaning.{reading_of}
use Rattle.row.proofs.Row.{filled}
use Rattle.row.proofs.row_bytes.Goals as goal

pub returns : goal.returns
returns c =
    filled (reading_of c.args.reading) _ _ _ _ _ (search rules)
    (c.copy_from_slice.ensures.after ∙ c.to_le_bytes.ensures ∙ le_bytes c.args.register 2)
    (c.copy_from_slice-2.ensures.after ∙ c.to_le_bytes-2.ensures ∙ le_bytes c.args.time 4)
    (c.copy_from_slice-3.ensures.after ∙ c.to_le_bytes-3.ensures ∙ le_bytes c.args.reading.count 8)
