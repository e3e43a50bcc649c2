-- `total` meets its contract: behind its tests it begins with the first row of its group, whose index fits sixteen bits.
use Rattle.std.proofs.Common.{◌≡◌, sym, ◌∙◌, ◌%◌, arith}
use native.Mathlib.Nat.{mod-eq_of_lt}
use borrow.Author.Tests.{ltb-true}
use Rattle.std.proofs.lemmas.Option.{cond_some}
use Rattle.model.specs.Apply.{refusal}
use Rattle.marks.specs.Marks.{refusal_in}
use Rattle.gate.specs.Gate.{placed}
use Rattle.gate.proofs.total.Goals as goal

pub returns : goal.returns
unfolding refusal refusal_in placed
returns c =
    let few = c.args.known.tables.few in
    let found = cond_some _ _ _ (sym c.first_of.ensures ∙ c.in-Some.is) in
    let small : c.in-Some.first % 65536 ≡ c.in-Some.first = mod-eq_of_lt (omega (arith, few, ltb-true _ _ found.0, found.1)) in
    rw (
      c.goal_at-goal.ensures,
      c.no_sum.ensures,
      small,
      found.0,
      found.1,
      ← c.is_allowed.ensures,
      c.if-not-is_allowed.false,
      ← c.is_idle.ensures,
      c.if-not-is_idle.false,
      c.is_none.ensures,
      c.if-is_none.false,
    )
