-- `refuse_rest` meets its contract. The invariant is `Refusing` (Stretches.antt): the records so far are refused.
use mathlib.Core.Path.{ap, ◌∙◌}
use native.Mathlib.Omega.{arith}
use Rattle.values.specs.declared.Answer.TheVariants.{No}
use Rattle.answers.specs.Said.{said_of}
use Rattle.hub_core.proofs.Stretches.{refuse-none, refuse-one, refuse-all}
use Rattle.hub_core.proofs.refuse_rest.Goals as goal

pub loop-k-init : goal.loop-k-init
loop-k-init c = refuse-none c.requires.0

pub put_answer-last-requires : goal.put_answer-last-requires
put_answer-last-requires c =
    let i = c.loop-k.invariant in
    let p = c.requires in
    (omega (arith, i.kinds_long, p.1), omega (arith, i.numbers_long, p.2))

pub loop-k-preserved : goal.loop-k-preserved
loop-k-preserved c =
    refuse-one c.loop-k.invariant (omega arith) (c.say-said.ensures ∙ ap (λ k. said_of (No k)) c.number.ensures)
    (c.put_answer-last.ensures.value, (c.put_answer-last.ensures.kinds_after, c.put_answer-last.ensures.numbers_after))

pub returns : goal.returns
returns c = refuse-all c.loop-k.invariant (omega arith)
