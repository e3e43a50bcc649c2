-- Whether a worker's record is in range (H8.3): its place, its local pool and the list that it has in hand.
use Rattle.std.specs.Prelude.{Option, Some, None, Bool, true, false, cond, ◌&&◌, List, ℕ, ◌*◌, ltb, leb}
use Rattle.places.specs.About.{about_of}
use Rattle.worker.specs.declared.Pool.{Pool}
use Rattle.worker.specs.declared.Worker.{Worker}
use Rattle.scans.specs.Scans.{below_to, slots_below}
use Rattle.ready_place.specs.Place.{place_fits}

-- a local pool has at most so many ranges, and their slots are below n
unfoldable pub pool_fits : Pool → ℕ → ℕ → Bool
pool_fits q most n = cond (ltb most q.len) false (below_to q.slots n q.len)

-- the list in hand of worker w, of m ranges: at most so many, in its part of the memory, and their slots are below n
abbrev pub list_fits : ℕ → ℕ → List ℕ → ℕ → ℕ → Bool
list_fits m w merged most n = cond (ltb most m) false (slots_below merged (256 * w) n m)

abbrev pub ranges_fit : Option ℕ → ℕ → List ℕ → ℕ → ℕ → Bool
ranges_fit None w merged most n = true
ranges_fit (Some m) w merged most n = list_fits m w merged most n

unfoldable pub hand_fits : Option ℕ → ℕ → List ℕ → ℕ → ℕ → Bool
hand_fits x w merged most n = cond (leb 16 w) false (ranges_fit x w merged most n)

-- a worker's record, with at most so many ranges in its local pool and in its list in hand
unfoldable pub worker_fits : Worker → ℕ → List ℕ → ℕ → ℕ → ℕ → ℕ → ℕ → ℕ → Bool
worker_fits x w merged local list p v n k =
    let y = about_of x.doing in
    place_fits y p v n k && pool_fits x.pool local n && hand_fits y.ranges w merged list n
