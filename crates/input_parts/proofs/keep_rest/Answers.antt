-- What `copy_within` leaves is what `shifted` says.
use Rattle.std.proofs.Common.{◌∙◌, ◌-◌, ◌≤◌, arith, length, drop, length-drop}
use native.Mathlib.Nat.{zero-add}
use Rattle.std.proofs.lemmas.List.{length-take-le}
use Rattle.lists.specs.Over.{over, shifted}
use Rattle.input_parts.proofs.keep_rest.Goals as goal

pub returns-clause-moved : goal.returns-clause-moved
unfolding shifted over
returns-clause-moved c =
    let s = c.args.buf.now in
    let k = c.args.n - c.args.from in
    let l : k ≤ length (drop c.args.from s) = rw (length-drop c.args.from s) (omega arith) in
    c.copy_within.ensures.after ∙ rw (zero-add, length-take-le k (drop c.args.from s) l)
