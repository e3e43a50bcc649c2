-- The definition takes the next slot as the turn does, and past the end of the row every slot is linked.
use Rattle.std.proofs.Common.{◌≡◌, refl, ap, ◌∙◌, length, arith, add-one, min}
use Rattle.std.proofs.lemmas.List.{length-map}
use Rattle.slots.specs.Slots.{linked_to}
use Rattle.versions.specs.Versions.{slot_in, row_of}
use Rattle.all_versions.proofs.Laws.{linked_min}
use Rattle.all_versions.proofs.all_linked.Goals as goal

pub loop-i-init : goal.loop-i-init
unfolding linked_to
loop-i-init c = refl

pub loop-i-preserved : goal.loop-i-preserved
unfolding linked_to
loop-i-preserved c = rw (add-one, ← c.loop-i.invariant, ← c.load-s.ensures) c.linked_and-ok.ensures

pub returns : goal.returns
returns c =
    let a = c.args in
    let l = row_of a.row.now in
    let e : c.loop-i.i ≡ min a.n (length l) = omega (arith, c.min-most.ensures, length-map a.row.now slot_in) in
    c.loop-i.invariant ∙ ap (linked_to l a.n) e ∙ linked_min l a.n
