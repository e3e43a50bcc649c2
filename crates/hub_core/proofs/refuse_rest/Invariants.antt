-- `refuse_rest` meets its contract. The invariant is `Refusing` (Stretches.antt): the records so far are refused.
use Rattle.hub_core.proofs.Stretches.{Refusing}
use Rattle.hub_core.proofs.refuse_rest.Given as goal

abbrev pub invariant-loop-k : goal.invariant-loop-k
invariant-loop-k l = Refusing l.from l.k l.count l.initial.kinds l.initial.numbers l.initial.last l.kinds l.numbers l.last
