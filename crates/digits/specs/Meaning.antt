-- What the answers of this crate mean: those of H14, as the model has them.
use Rattle.std.specs.Prelude.{Result, Ok, Err}
use Rattle.values.specs.declared.Refusal.{Refusal}
use Rattle.values.specs.Meaning.{refusal_number}
use Rattle.model.specs.Digits as Model

-- converted, or the number of the refusal
abbrev pub rows_answer_of : Result (Unit {0}) Refusal → Model.RowsAnswer
rows_answer_of (Ok done) = Model.Converted
rows_answer_of (Err refusal) = Model.RowsNo (refusal_number refusal)
