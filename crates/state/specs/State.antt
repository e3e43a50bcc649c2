-- The hub by value: what setup makes of it, a worker's record taken and replaced.
use Rattle.std.specs.Prelude.{None, Bool, cond, ◌&&◌, List, [], ℕ, ◌-◌, ◌/◌, leb, length, get_or, set, take, replicate}
use Rattle.lists.specs.Over.{over}
use Rattle.model.specs.Batch.{batch_of}
use Rattle.model.specs.Record.{rows_of}
use Rattle.model.specs.Store.{absent, start_worker}
use Rattle.model.specs.Rights.{each_of, right_fits}
use Rattle.values.specs.declared.Window.{Window}
use Rattle.worker.specs.Rep.{worker_rep}
use Rattle.worker.specs.declared.Worker.{Worker}
use Rattle.worker.specs.declared.Doing.{Doing}
use Rattle.worker.specs.declared.Doing.TheVariants.{Idle}
use Rattle.state.specs.declared.Site.{Site}
use Rattle.state.specs.declared.Hub.{Hub}

-- the window of an empty queue
abbrev pub empty_window : Window
empty_window = record { first = 0; pools = 0; from = 0; queued = 0 }

-- H2.6 to H2.8, H8.10: all workers at their start, the queue empty. H2.10: the n - v slots that hold no register's version are free.
abbrev pub fresh_hub : Site → ℕ → Hub
fresh_hub x t =
    record {
      site = x;
      clock = t;
      free = x.n - x.v;
      window = empty_window;
      times = replicate 448 0;
      marks = replicate 12 absent;
      reading = replicate 16 0;
      workers = replicate 16 (worker_rep start_worker);
    }

-- what is fixed where there is no setup, with so many rows of rights
abbrev pub tabled_site : ℕ → List ℕ → Site
tabled_site granted rights =
    record {
      p = 0;
      v = 0;
      n = 0;
      batch = 0;
      listed = 0;
      rows = replicate 1024 0;
      granted = granted;
      rights = rights;
    }

abbrev pub tabled_hub : ℕ → List ℕ → Hub
tabled_hub granted rights = fresh_hub (tabled_site granted rights) 0

-- with this array for a table of rights, of which no row counts
abbrev pub bare_hub : List ℕ → Hub
bare_hub rights = tabled_hub 0 rights

-- H15.10: and without anything left in it
abbrev pub empty_hub : Hub
empty_hub = bare_hub (replicate 64 0)

-- the rows of the table of rights that count
abbrev pub table_kept : Hub → List ℕ
table_kept h = take h.site.granted h.site.rights

-- H15.9: the table that stands: those rows, where they are a table
abbrev pub table_sound : Hub → Bool
table_sound h = leb h.site.granted 64 && each_of right_fits (table_kept h)

abbrev pub standing : Hub → List ℕ
standing h = cond (table_sound h) (table_kept h) []

abbrev pub standing_count : Hub → ℕ
standing_count h = cond (table_sound h) h.site.granted 0

-- H2.5: what a setup of p workers, v registers and n slots fixes: its sizes, the batch size for p, the rows of the list of totals (H12.3) and the
-- table of rights that stands in the old hub (H15.4)
abbrev pub site_made : Hub → List ℕ → ℕ → ℕ → ℕ → Site
site_made h list p v n =
    record {
      p = p;
      v = v;
      n = n;
      batch = batch_of p;
      listed = length list / 4;
      rows = over (take 1024 (rows_of list)) (replicate 1024 0);
      granted = standing_count h;
      rights = h.site.rights;
    }

-- what stands where a list of workers has no entry
abbrev pub nobody : Worker
nobody = record { doing = Idle; announced = None; pool = record { slots = []; lows = []; highs = []; len = 0 } }

-- worker w's record
abbrev pub worker_in : Hub → ℕ → Worker
worker_in h w = get_or h.workers w nobody

-- a worker at another place
abbrev pub at_place : Worker → Doing → Worker
at_place x d = record { doing = d; announced = x.announced; pool = x.pool }

------------------------------------------------------------------------
-- A hub with one part replaced

abbrev pub with_workers_in : Hub → List Worker → Hub
with_workers_in h l =
    record {
      site = h.site;
      clock = h.clock;
      free = h.free;
      window = h.window;
      times = h.times;
      marks = h.marks;
      reading = h.reading;
      workers = l;
    }

-- worker w's record; where there is no worker w, nothing changes
abbrev pub with_worker_in : Hub → ℕ → Worker → Hub
with_worker_in h w x = with_workers_in h (set h.workers w x)

abbrev pub with_clock_in : Hub → ℕ → Hub
with_clock_in h k =
    record {
      site = h.site;
      clock = k;
      free = h.free;
      window = h.window;
      times = h.times;
      marks = h.marks;
      reading = h.reading;
      workers = h.workers;
    }

abbrev pub with_free_in : Hub → ℕ → Hub
with_free_in h k =
    record {
      site = h.site;
      clock = h.clock;
      free = k;
      window = h.window;
      times = h.times;
      marks = h.marks;
      reading = h.reading;
      workers = h.workers;
    }

abbrev pub with_window_in : Hub → Window → Hub
with_window_in h w =
    record {
      site = h.site;
      clock = h.clock;
      free = h.free;
      window = w;
      times = h.times;
      marks = h.marks;
      reading = h.reading;
      workers = h.workers;
    }

abbrev pub with_times_in : Hub → List ℕ → Hub
with_times_in h ts =
    record {
      site = h.site;
      clock = h.clock;
      free = h.free;
      window = h.window;
      times = ts;
      marks = h.marks;
      reading = h.reading;
      workers = h.workers;
    }

abbrev pub with_marks_in : Hub → List ℕ → Hub
with_marks_in h l =
    record {
      site = h.site;
      clock = h.clock;
      free = h.free;
      window = h.window;
      times = h.times;
      marks = l;
      reading = h.reading;
      workers = h.workers;
    }

abbrev pub with_reading_in : Hub → List ℕ → Hub
with_reading_in h l =
    record {
      site = h.site;
      clock = h.clock;
      free = h.free;
      window = h.window;
      times = h.times;
      marks = h.marks;
      reading = l;
      workers = h.workers;
    }
