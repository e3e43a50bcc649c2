-- `run_stretch` meets its contract: by what `run_lent` ensures, for the hub taken apart and put together again.
use mathlib.Core.Path.{refl}
use Rattle.hub_core.proofs.Stretches.{at_site}
use Rattle.hub_core.proofs.run_stretch.Goals as goal

pub returns : goal.returns
returns c =
    record { went = at_site c.args.start.site.n c.run_lent-e.ensures refl refl; site_value = refl }
