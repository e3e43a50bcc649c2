-- `spill_tail` meets its contract: the kind and the status are taken apart.
use Rattle.lines.specs.Words.{tail_from}
use Rattle.lines.proofs.spill_tail.Goals as goal

pub returns : goal.returns
unfolding tail_from
returns c = c.spill_parts.ensures
