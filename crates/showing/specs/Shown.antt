-- What is shown of a version and of a total's sums.
use Rattle.std.specs.Prelude.{Some, None, cond, ◌-◌, leb}
use Rattle.values.specs.declared.Answer.{Answer}
use Rattle.values.specs.declared.Answer.TheVariants.{Value, None as NoReading, Below}
use Rattle.values.specs.Meaning.{Content}
use Rattle.worker.specs.declared.Sum.{Sum}

-- H10.3: what a get or a read answers that found this
abbrev pub answer_to : Content → Answer
answer_to None = NoReading
answer_to (Some x) = Value x

-- H12.8, H16.6: what a total answers with the sums of all its rows: what was added less what was subtracted, and the largest status
abbrev pub signed_of : Sum → Answer
signed_of y =
    cond (leb y.minus y.plus) (Value (record { count = y.plus - y.minus; status = y.status }))
    (Below (record { count = y.minus - y.plus; status = y.status }))
