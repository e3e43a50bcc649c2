-- `is_allowed` meets its contract: each arm asks what the need asks. A right on one register is one on each of a list of one.
use mathlib.Core.Path.{◌≡◌, sym, ◌∙◌}
use mathlib.Core.List.{List}
use Prim.Native.Nat.{ℕ, ◌<◌}
use native.Mathlib.Omega.{arith}
use lib.ListN.{length}
use Rattle.std.proofs.Common.{rules}
use Rattle.model.specs.Rights.{has, allowed}
use Rattle.rights.specs.declared.Needed.{Needed}
use Rattle.rights.specs.Needs.{permission_of, needed_in}
use Rattle.rights.proofs.Has.{with_rows, on_one}
use Rattle.rights.proofs.is_allowed.Goals as goal

-- there are rows, so that what is needed is asked of them
asked : (t rows : List ℕ) (v w : ℕ) (x q : Needed) → 0 < length t → x ≡ q
    → allowed t v w (needed_in x rows) ≡ has t v w (needed_in q rows)
asked t rows v w x q h e = rw e (with_rows t v w _ h)

pub returns-in-On : goal.returns-in-On
returns-in-On c =
    let t = c.args.tables in
    let some : 0 < length t.rights.now = grind (arith, rules) in
    rw c.from.ensures at c.may.ensures
    ∙ sym (asked t.rights.now _ _ _ _ _ some c.in-On.is ∙ on_one t.rights.now c.args.w (permission_of c.in-On.permission) c.in-On.register)
