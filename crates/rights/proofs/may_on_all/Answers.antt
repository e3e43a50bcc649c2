-- `may_on_all` meets its contract. The invariant: the worker has the right on each register before r.
use mathlib.Core.Path.{◌≡◌, sym, ◌∙◌}
use mathlib.Core.Bool.{Bool}
use mathlib.Core.List.{List, ◌∷◌}
use Prim.Native.Nat.{ℕ, ◌+◌, ◌≤◌, ◌<◌}
use native.Mathlib.Nat.{zero-add}
use native.Mathlib.Omega.{arith}
use lib.ListN.{length, drop}
use Rattle.model.specs.Store.{up_from}
use Rattle.model.specs.Rights.{may_on, may_on_each}
use Rattle.rights.specs.Needs.{permission_of}
use Rattle.rights_table.proofs.Given.{length_up, get_d_up}
use Rattle.rights_table.proofs.Scan.{Passed, turn, passed-all, each_none, each-fails, each-behind}
use Rattle.rights.proofs.may_on_all.Goals as goal

-- the register that was asked about decides, or those behind it
looked : (F : List ℕ → Bool) (v r : ℕ) → r < v → Passed F (up_from 0 v) r → F (up_from 0 v) ≡ F (r ∷ drop (r + 1) (up_from 0 v))
looked F v r h p = turn F (up_from 0 v) r _ (omega (arith, length_up 0 v)) (sym (get_d_up 0 v r h ∙ zero-add r)) p

pub returns-then-not-may : goal.returns-then-not-may
returns-then-not-may c =
    let s = c.args in
    let f = may_on s.rights.now s.w (permission_of s.p) in
    sym (looked (may_on_each s.rights.now s.w (permission_of s.p)) c.args.v c.loop-r.r (omega arith) c.loop-r.invariant.1 ∙ each-fails f _ _ (sym c.may.ensures ∙ c.if-not-may.true))

pub loop-r-preserved : goal.loop-r-preserved
loop-r-preserved c =
    let s = c.args in
    let f = may_on s.rights.now s.w (permission_of s.p) in
    (omega arith, looked (may_on_each s.rights.now s.w (permission_of s.p)) c.args.v c.loop-r.r (omega arith) c.loop-r.invariant.1 ∙ each-behind f _ _ (sym c.may.ensures ∙ c.if-not-may.false))

pub returns : goal.returns
returns c =
    let s = c.args in
    let t = s.rights.now in
    let e : length (up_from 0 s.v) ≤ c.loop-r.r = omega (arith, length_up 0 s.v) in
    sym (passed-all (may_on_each t s.w (permission_of s.p)) (up_from 0 s.v) c.loop-r.r e c.loop-r.invariant.1 ∙ each_none _)
