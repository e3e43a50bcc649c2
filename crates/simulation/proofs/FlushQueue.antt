-- The queue of a sound store in memory: how many ranges it has, and that the queue's memory holds the pools.
use mathlib.Core.Path.{◌≡◌, refl, sym, ap, ◌∙◌}
use mathlib.Core.List.{List, [], ◌∷◌}
use Prim.Native.Nat.{◌+◌, ◌≤◌}
use native.Mathlib.Omega.{arith}
use lib.ListN.{length, length-append}
use Rattle.model.specs.Store.{Store, Range}
use Rattle.model.specs.Reached.{sum_by, versions_held}
use Rattle.values.specs.declared.Window.{Window}
use Rattle.queue.specs.State.{Queue}
use Rattle.queue.specs.Rep.{joined_ranges, queue_rep, with_window, window_after}
use Rattle.queue.proofs.Rep as Queues
use Rattle.queue.proofs.Rep.{window_kept}
use Rattle.simulation.specs.Memory.{Memory, write}
use Rattle.simulation.specs.Left.{Sized}
use Rattle.simulation.specs.Shell.{queue_in}
use Rattle.simulation.proofs.Sound.{Sound}
use Rattle.simulation.proofs.Laid.{hub_is, queue_is, lens_is}

-- the ranges of all pools are as many as the pools have together
pub length-joined : (ps : List (List Range)) → length (joined_ranges ps) ≡ sum_by length ps
unfolding sum_by
length-joined [] = refl
length-joined (p ∷ ps) = omega (arith, length-append p (joined_ranges ps), length-joined ps)

-- the queue in memory holds the store's pools
pub queue_held : (s : Store) (m : Memory) → m ≡ write s m → queue_in m ≡ queue_rep s.queue (queue_in m)
queue_held s m laid =
    λ i. record { queue = queue_is s m laid i; lens = lens_is s m laid i; window = (hub_is s m laid i).window }

-- with pools behind them its window begins where it did
pub queue_kept : (s : Store) (m : Memory) (ps : List (List Range)) (q : Queue) → length s.queue ≤ length ps → q ≡ queue_rep ps (queue_in m)
    → q ≡ queue_rep ps (with_window (queue_in m) (window_after s.queue ps m.hub.window))
queue_kept s m ps q h e =
    e ∙ ap (λ (v : Window). queue_rep ps (with_window (queue_in m) v)) (sym (window_kept s.queue ps m.hub.window h))

pub queue_sized : (m : Memory) → Sized m → Queues.Sized (queue_in m)
queue_sized m Z = record { queue = Z.queue; lens = Z.lens }

-- it fits its memory
module _ (s : Store) (S : Sound s) where
  pub pools_few : length s.queue + s.site.V' ≤ s.site.N
  pools_few = let a = S.bounds.pools in let b = S.bounds.slots.0 in omega arith

  pub ranges_few : sum_by versions_held s.workers + length (joined_ranges s.queue) + (length s.free + s.site.V') ≡ s.site.N
  ranges_few = omega (arith, length-joined s.queue, S.bounds.total)
