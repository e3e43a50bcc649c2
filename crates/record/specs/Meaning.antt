-- What a decoded record means: for each case of an enum, the command of H3.3 with its numbers, or the number of the refusal, as the model has it.
use Rattle.std.specs.Prelude.{Result, Ok, Err}
use Rattle.model.specs.Record as Model
use Rattle.values.specs.Meaning.{reading_of, refusal_number}
use Rattle.record.specs.declared.Operation.{Operation}
use Rattle.record.specs.declared.Operation.TheVariants.{Put, Open, Read, Close, Get, Collect, Total, Mark, Release, MarkedRead}
use Rattle.record.specs.declared.Command.{Command}
use Rattle.record.specs.declared.Command.TheVariants.{SetUp, Begin, Step}
use Rattle.values.specs.declared.Refusal.{Refusal}

abbrev pub operation_of : Operation → Model.Operation
operation_of (Put r x) = Model.Put r (reading_of x)
operation_of Open = Model.Open
operation_of (Read r) = Model.Read r
operation_of Close = Model.Close
operation_of (Get r) = Model.Get r
operation_of Collect = Model.Collect
operation_of (Total g) = Model.Total g
operation_of (Mark m) = Model.Mark m
operation_of (Release m) = Model.Release m
operation_of (MarkedRead r m) = Model.MarkedRead r m

-- the sizes and the clock of a setup, or the worker
abbrev pub command_meaning : Command → Model.Command
command_meaning (SetUp p v n t) = Model.SetUp (record { P = p; V' = v; N = n; clock = t })
command_meaning (Begin w o) = Model.Begin w (operation_of o)
command_meaning (Step w) = Model.Step w

abbrev pub decoded_of : Result Command Refusal → Model.Decoded
decoded_of (Ok c) = Model.Asks (command_meaning c)
decoded_of (Err k) = Model.Refuses (refusal_number k)
