-- `fill_rows` meets its contract. The invariant: the first i rows of the list have replaced the first i entries.
use mathlib.Core.Path.{◌≡◌, sym, ap, ◌∙◌}
use mathlib.Core.List.{List}
use Prim.Native.Nat.{ℕ, ◌*◌, min}
use native.Mathlib.Omega.{arith}
use lib.ListN.{length, take}
use borrow.Author.Rules.{rules}
use Rattle.lists.specs.Over.{over}
use Rattle.le.proofs.Numbers.{number-there}
use Rattle.lists.proofs.Over.{over-nil}
use Rattle.model.specs.Record.{rows_of}
use Rattle.total_list.proofs.Listed.{length-rows, filled_more}
use Rattle.std.proofs.lemmas.List.{take_min}
use Rattle.total_list.proofs.fill_rows.Goals as goal

pub loop-i-init : goal.loop-i-init
loop-i-init c = (omega arith, sym (over-nil _), search rules)

pub loop-i-preserved : goal.loop-i-preserved
loop-i-preserved c =
    let b = c.args.list.now in
    let e = c.four.ensures ∙ number-there b (4 * c.loop-i.i) 4 (omega arith) in
    (omega arith, filled_more _ _ _ _ _ (omega arith) (omega arith) e c.loop-i.invariant.1, search rules)

pub returns : goal.returns
returns c =
    let a = c.args in
    let d = a.rows.now in
    let rows = rows_of a.list.now in
    let e : c.loop-i.i ≡ min 1024 (length rows) = rw (length-rows a.list.now) (omega arith) in
    c.loop-i.invariant.1
    ∙ ap (λ (q : List ℕ). over q d) (ap (λ (k : ℕ). take k rows) e ∙ take_min 1024 rows)
