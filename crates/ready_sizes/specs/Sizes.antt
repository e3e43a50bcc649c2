-- Whether the sizes and counts of a hub, and the window of its queue, are in range (H8.3).
use Rattle.std.specs.Prelude.{Bool, ◌&&◌, ℕ, ◌-◌, leb}
use Rattle.values.specs.declared.Window.{Window}
use Rattle.state.specs.declared.Hub.{Hub}

-- how many slots hold no register's newest version
abbrev pub besides : Hub → ℕ
besides h = h.site.n - h.site.v

-- the queue's window, with at most so many ranges
unfoldable pub window_fits : Window → ℕ → Bool
window_fits w most = leb w.pools w.queued && leb w.queued most && (leb w.first w.from && leb w.from 2048)

-- the sizes and counts, with a row of so many slots
unfoldable pub sizes_fit : Hub → ℕ → Bool
sizes_fit h long =
    (leb 1 h.site.p && leb h.site.p 16 && (leb 1 h.site.v && leb h.site.v 256))
    && (leb h.site.v h.site.n && leb h.site.n 2048 && leb h.site.n long)
    && (leb h.free (besides h) && window_fits h.window (besides h))
    && (leb h.site.listed 1024 && (leb 1 h.site.batch && leb h.site.batch 64))
