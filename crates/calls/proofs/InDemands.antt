-- Every call is one of those of which the demands speak: its contract has theirs as a part.
use Rattle.tables.specs.declared.Table.TheVariants.{Rights}
use Rattle.calls.specs.declared.Call.TheVariants.{Record, Records, Give}
use Rattle.calls.specs.Calls.{InDemands}

pub in_demands : InDemands
in_demands Record m given bytes kinds numbers r m' kinds' numbers' p = p.done.0.does
in_demands Records m given bytes kinds numbers r m' kinds' numbers' p = p.done.applies
in_demands (Give Rights) m given bytes kinds numbers r m' kinds' numbers' p = p.done.0.gives
