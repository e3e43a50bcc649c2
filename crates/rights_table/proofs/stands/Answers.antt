-- `stands` meets its contract: there are at most 64 rows, and the call of `all` tests each of the first n.
use Rattle.std.proofs.Common.{rules, take}
use Rattle.std.proofs.lemmas.Iterator.{YieldsList-from_slice}
use Rattle.std.proofs.lemmas.Iterator.Search.{all_from_yields_List}
use borrow.Author.Tests.{tests, le-leb}
use Rattle.model.specs.Rights.{right_fits}
use Rattle.rights_table.proofs.Given.{each-all}
use Rattle.rights_table.proofs.stands.Goals as goal

pub returns : goal.returns
returns c =
    let rows = take c.args.n c.args.rights.now in
    let e = all_from_yields_List right_fits _ _ c.all.result c.all.ensures.ran (YieldsList-from_slice rows cc) (λ x b q k. search (rules, tests)) in
    rw (le-leb c.args.n 64 c.if-n-gt64.false, each-all) e
