-- What the row writer's answer means: for each case, the number of H9, as the model has it.
use Rattle.std.specs.Prelude.{Result, Ok, Err}
use Rattle.values.specs.declared.Refusal.{Refusal}
use Rattle.values.specs.Meaning.{refusal_number}
use Rattle.model.specs.Row as Model
use Rattle.row.specs.declared.Outcome.{Outcome}
use Rattle.row.specs.declared.Outcome.TheVariants.{Written, NoReading}

-- written, no reading, or the number of the refusal
abbrev pub row_answer_of : Result Outcome Refusal → Model.RowAnswer
row_answer_of (Ok Written) = Model.Written
row_answer_of (Ok NoReading) = Model.RowNone
row_answer_of (Err refusal) = Model.RowNo (refusal_number refusal)
