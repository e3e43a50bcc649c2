-- Its two stores are those of `linked_in`, in the same order.
use mathlib.Core.Path.{◌∙◌}
use lib.ListN.{set}
use Rattle.versions.specs.Versions.{linked_in}
use Rattle.linking.proofs.link.Goals as goal

pub returns : goal.returns
unfolding linked_in
returns c =
    let a = c.args in
    c.store.ensures ∙ (λ j. set (c.set_newer.ensures j) a.f (c.published-x.ensures j))
