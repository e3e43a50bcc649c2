-- An answer with its two numbers.
use Rattle.values.specs.declared.Answer.{Answer}
use Rattle.answers.specs.declared.Said.{Said}
use Rattle.answers.specs.Numbers.{kind_of, number_of}

abbrev pub said_of : Answer → Said
said_of a = record { answer = a; kind = kind_of a; number = number_of a }
