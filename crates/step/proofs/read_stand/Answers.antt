-- `read_stand` meets its contract: the test against the time, which `time_for` gives, decides.
use borrow.Author.Tests.{le-leb, lt-leb}
use Rattle.step.proofs.Leaves.{read_found, read_moved}
use Rattle.step.proofs.read_stand.Goals as goal

pub returns-then-v-time_for : goal.returns-then-v-time_for
returns-then-v-time_for c =
    read_found _ _ _ _ _ _ _ c.from.ensures c.load-v.ensures c.time_for.ensures
    (le-leb _ _ c.if-v-time_for.true) c.found.ensures

pub returns : goal.returns
returns c =
    read_moved _ _ _ c.from.ensures c.load-v.ensures c.time_for.ensures (lt-leb _ _ c.if-v-time_for.false)
    c.outcome_of.ensures
