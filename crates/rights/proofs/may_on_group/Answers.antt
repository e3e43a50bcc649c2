-- `may_on_group` meets its contract. The invariant: the worker has the right on the register of each row of the group before i.
use mathlib.Core.Path.{refl, sym, ap, ◌∙◌}
use native.Mathlib.Omega.{arith}
use Rattle.model.specs.Rights.{may_on}
use Rattle.rights.specs.Needs.{permission_of}
use Rattle.rights_table.proofs.Scan.{turn, passed-all}
use Rattle.rights.proofs.InGroup.{each_in, none_in, own-fails, own_behind, other-behind}
use Rattle.rights.proofs.may_on_group.Goals as goal
use Rattle.rights.proofs.may_on_group.Goals.{then-group_of-group+else-not-may, else-group_of-group}

pub returns-then-not-may : goal.returns-then-not-may
returns-then-not-may c =
    let s = c.args in
    let f = may_on s.rights.now s.w (permission_of s.p) in
    let own = sym c.group_of.ensures ∙ c.if-group_of-group.true in
    sym (turn (each_in f s.group) s.rows.now c.loop-row.row-index _ (omega arith) refl c.loop-row.invariant ∙ own-fails f _ _ _ own (ap f (sym (c.from-register.ensures ∙ c.register_of.ensures)) ∙ sym c.may.ensures ∙ c.if-not-may.true))

pub loop-row-preserved : goal.loop-row-preserved
loop-row-preserved c =
    let s = c.args in
    let f = may_on s.rights.now s.w (permission_of s.p) in
    let g = sym c.group_of.ensures in
    turn (each_in f s.group) s.rows.now c.loop-row.row-index _ (omega arith) refl c.loop-row.invariant
    ∙ elim c.if-group_of-group.branch [
      | then-group_of-group+else-not-may w ↦
          own_behind f _ _ _ (g ∙ w.if-group_of-group.true)
          (ap f (sym (w.from-register.ensures ∙ w.register_of.ensures)) ∙ sym w.may.ensures ∙ w.if-not-may.false)
      | else-group_of-group w ↦ other-behind f _ _ _ (λ e. w.if-group_of-group.false (c.group_of.ensures ∙ e))
    ]

pub returns : goal.returns
returns c =
    let s = c.args in
    let f = may_on s.rights.now s.w (permission_of s.p) in
    sym (passed-all (each_in f s.group) s.rows.now c.loop-row.row-index (omega arith) c.loop-row.invariant ∙ none_in f s.group)
