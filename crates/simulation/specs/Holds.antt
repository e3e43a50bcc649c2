-- The hub of the model that memory holds, and records that do to memory what they do to that hub.
use Rattle.std.specs.Prelude.{◌≡◌, false, List, [], ◌∷◌, map}
use Rattle.model.specs.Store.{Hub, blank, up}
use Rattle.model.specs.Rules.{in_force, Ruled, under}
use Rattle.model.specs.Apply.{apply_ruled, hub_after}
use Rattle.model.specs.Demand.{events, Exchange, exchange}
use Rattle.simulation.specs.Memory.{Memory, lent_in, write_hub}
use Rattle.simulation.specs.Left.{Left, ready}

-- The memory m holds the hub h: records left its store there; or the memory does not count as set up, and its row and the table that stands in it are
-- those that are lent.
abbrev pub Holds : Hub → Memory → Type 0
Holds (blank x) m = (ready m ≡ false) × (x ≡ lent_in m)
Holds (up s) m = Left s m

-- Memory on which the rules decide everything. On memory that counts as set up and that no records left they leave open what a record does
-- beyond what `OnAny` says (H8.6); that the functions are proved says that a call ends inside its bounds there too.
abbrev pub Decided : Memory → Type 0
Decided m = (h : Hub) × Holds h m

-- the records of what was sent and answered, under the rules in force, each with what was given for it
abbrev pub sent : List Exchange → List Ruled
sent es = map (λ e. under (in_force e.given) e.bytes) es

-- the memory after a list of records that starts with hub h: each writes the hub that it leaves over the memory
unfoldable pub memory_after : Hub → List Ruled → Memory → Memory
memory_after h [] m = m
memory_after h (b ∷ bs) m =
    let k = (apply_ruled h b).hub in
    memory_after k bs (write_hub h k m)

-- The memory m held the hub h, then es was sent and answered, and the memory m' was left: all as the model has it.
pub record AsModel (h : Hub) (m : Memory) (es : List Exchange) (m' : Memory) : Type 0 where
  -- the answers are the model's,
  pub answers : es ≡ map exchange (events h (sent es))
  -- the memory holds the model's hub,
  pub holds : Holds (hub_after h (sent es)) m'
  -- and what no hub on the way names is as it was
  pub memory : m' ≡ memory_after h (sent es) m
