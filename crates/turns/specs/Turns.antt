-- What a record does to lent memory, and what it leaves to the loop: by the decision on it (decision/specs/Decision.antt), and for a step by what is
-- known of it (step/specs/Step.antt). What the loop then does is in simulation/specs/Shell.antt.
use Rattle.std.specs.Prelude.{None, cond, List, ℕ, ◌+◌, ◌-◌, ◌*◌, ◌%◌, leb, length, get_or, set, take}
use Rattle.lists.specs.Over.{over, over_at}
use Rattle.model.specs.Record.{decode}
use Rattle.values.specs.declared.Answer.{Answer}
use Rattle.values.specs.declared.Answer.TheVariants.{Ok, Going, Freed, Done, No}
use Rattle.answers.specs.Said.{said_of}
use Rattle.arrays.specs.Arrays.{short}
use Rattle.ranges.specs.Words.{flat}
use Rattle.queue.specs.State.{Queue, pools_in, taken, rest}
use Rattle.worker.specs.Rep.{Announced}
use Rattle.worker.specs.declared.Doing.{Doing}
use Rattle.worker.specs.declared.Doing.TheVariants.{Idle, FlushRead, FlushFree}
use Rattle.places.specs.About.{about_of}
use Rattle.marks.specs.Marks.{read_next}
use Rattle.gate.specs.Gate.{Decided}
use Rattle.gate.specs.declared.Gate.TheVariants.{Make, Start, Go}
use Rattle.std.specs.Prelude.{Ok as Grants, Err as Refuse}
use Rattle.gate.specs.Gate.{has_time}
use Rattle.decision.specs.Decision.{gate_of}
use Rattle.announcing.specs.declared.Outcome.{Outcome}
use Rattle.step.specs.declared.Next.{Next}
use Rattle.step.specs.declared.Next.TheVariants.{Taken, HandIn, Take, Read, ReadMarks, Split, Free, Mark}
use Rattle.step.specs.Step.{Stepped, step_of}
use Rattle.flush.specs.declared.Handed.{Handed}
use Rattle.flush.specs.Flush.{handed_on, part_of, with_part}
use Rattle.freeing.specs.declared.Freed as Freeing
use Rattle.freeing.specs.Freeing.{freed_step, freed_row, freed_free}
use Rattle.turns.specs.declared.Arm.{Arm}
use Rattle.turns.specs.declared.Arm.TheVariants.{Says, Sets, Times, Reads, Makes, HandsIn, Splits, Moves}
use Rattle.turns.specs.declared.Sizes.{Sizes}
use Rattle.turns.specs.declared.Turn.{Turn}
use Rattle.turns.specs.declared.Fixed.{Fixed}
use Rattle.turns.specs.declared.Running.{Running}
use Rattle.turns.specs.Parts.{Parts, parts, with_newest, with_free, with_queue, with_count, with_window, with_times, with_marks}

------------------------------------------------------------------------
-- What is left to the loop

abbrev pub no_sizes : Sizes
no_sizes = record { p = 0; v = 0; n = 0; clock = 0 }

-- a turn by its arm, place, announced time and answer, and by the numbers that its arm uses
abbrev turn_with : Arm → Doing → Announced → Answer → ℕ → ℕ → ℕ → ℕ → ℕ → ℕ → ℕ → Sizes → Turn
turn_with arm d t y slot older low high len merged read sizes =
    record {
      arm = arm;
      doing = d;
      announced = t;
      said = said_of y;
      slot = slot;
      older = older;
      low = low;
      high = high;
      len = len;
      merged = merged;
      read = read;
      sizes = sizes;
    }

abbrev pub left_to : Arm → Doing → Answer → Turn
left_to arm d y = turn_with arm d None y 0 0 0 0 0 0 0 no_sizes

-- a step that is done at once
abbrev pub taken_turn : Outcome → Turn
taken_turn o = turn_with Times o.doing o.announced o.answer 0 0 0 0 0 0 0 no_sizes

-- put (3), of the covered version in slot c
abbrev pub hand_turn : ℕ → Handed → Turn
hand_turn c h = turn_with HandsIn h.doing None h.answer c 0 h.low h.high h.len 0 0 no_sizes

-- flush (2), of a merged list of m ranges with j times read, of which there are fewer than 28 where memory counts as set up
abbrev pub read_turn : ℕ → ℕ → Turn
read_turn m j = turn_with Reads (FlushRead m (j % 255 + 1)) None Going 0 0 0 0 0 m j no_sizes

-- flush (3), of the same
abbrev pub split_turn : ℕ → ℕ → Turn
split_turn m j = turn_with Splits Idle None Going 0 0 0 0 0 m j no_sizes

-- flush (4), with m ranges left
abbrev pub free_turn : ℕ → Freeing.Freed → Turn
free_turn m f = turn_with Moves (FlushFree (m - 1)) None (Freed f.slot) f.slot f.older 0 0 0 0 0 no_sizes

-- a setup that is accepted
abbrev pub made_turn : ℕ → ℕ → ℕ → ℕ → Turn
made_turn p v n k = turn_with Makes Idle None Ok 0 0 0 0 0 0 0 (record { p = p; v = v; n = n; clock = k })

------------------------------------------------------------------------
-- What becomes of lent memory

-- what is left to the loop, and the memory that was lent as it is then
pub record Turned : Type 0 where
  pub turn : Turn
  pub parts : Parts

-- flush (1): the pools that are taken from the queue q, as worker w's merged list
abbrev pub took_merged : Queue → List ℕ → ℕ → List ℕ
took_merged q merged w = with_part merged w (over (flat (taken q)) (part_of merged w))

-- flush (2), behind the last of p workers: the times of all marks go behind theirs. Where memory counts as set up there are at most sixteen.
abbrev pub marks_read : List ℕ → ℕ → ℕ → List ℕ → List ℕ
marks_read times w p marks = cond (leb p 16) (over_at (28 * w + p) marks times) times

-- a step of worker w that is done at once, at the place d
abbrev pub ran_on : Running → ℕ → Doing → Outcome → Running
ran_on r w d o =
    record {
      clock = o.clock;
      free = o.free;
      window = r.window;
      times = r.times;
      marks = r.marks;
      reading = set r.reading w (read_next d o.doing (get_or r.reading w 0));
    }

-- A step of worker w at the place d, whose pool has n ranges, once its first part is done and x is known of it.
unfoldable pub next_turn : Fixed → ℕ → Doing → ℕ → Parts → Next → Turned
next_turn f w d n a (Taken o) = record { turn = taken_turn o; parts = parts a.slots a.lent (ran_on a.running w d o) }
next_turn f w d n a (HandIn c) = record { turn = hand_turn c (handed_on a.slots n c f.batch); parts = a }
next_turn f w d n a Take =
    let q = pools_in a.lent.queue a.lent.lens a.running.window in
    record {
      turn = left_to Sets (FlushRead (short (length (taken q))) 0) Going;
      parts = parts a.slots (with_queue a.lent (rest q) (took_merged q a.lent.merged w)) (with_window a.running (rest q).window);
    }
next_turn f w d n a (Read m j) = record { turn = read_turn m j; parts = a }
next_turn f w d n a (ReadMarks m) =
    record {
      turn = left_to Sets (FlushRead m ((f.p % 256 + 12) % 256)) Going;
      parts = parts a.slots a.lent (with_times a.running (marks_read a.running.times w f.p a.running.marks));
    }
next_turn f w d n a (Split m j) = record { turn = split_turn m j; parts = a }
next_turn f w d n a (Free m) =
    let x = freed_step a.slots a.lent.merged w m a.running.free in
    record {
      turn = free_turn m x;
      parts =
          parts (freed_row a.slots a.lent.merged w m) (with_free a.lent (freed_free a.lent.free a.lent.merged w m a.running.free))
          (with_count a.running x.free);
    }
next_turn f w d n a (Mark i t) =
    record { turn = left_to Sets Idle Done; parts = parts a.slots a.lent (with_marks a.running (set a.running.marks (i % 12) t)) }

-- the first part of a step, at the place d of a worker with the announced time t; of the rows of totals the first count
abbrev pub stepped_in : Fixed → Doing → Announced → List ℕ → Parts → Stepped
stepped_in f d t rows a =
    step_of d t a.running.clock a.running.free f.p a.slots a.lent.newest a.lent.free (take f.listed rows) a.running.marks
    (take f.p a.running.reading)

-- the memory as it left it
abbrev pub parts_after : Parts → Stepped → Parts
parts_after a s = parts s.row (with_newest a.lent s.newest) a.running

abbrev finish_turn : Fixed → ℕ → Doing → ℕ → Parts → Stepped → Turned
finish_turn f w d n a s = next_turn f w d n (parts_after a s) s.next

unfoldable pub go_turn : Fixed → ℕ → Doing → Announced → ℕ → List ℕ → Parts → Turned
go_turn f w d t n rows a = finish_turn f w d n a (stepped_in f d t rows a)

-- by the decision on the record
unfoldable pub turn_by : Fixed → ℕ → Doing → Announced → ℕ → List ℕ → Parts → Decided → Turned
turn_by f w d t n rows a (Refuse k) = record { turn = left_to Says Idle (No k); parts = a }
turn_by f w d t n rows a (Grants (Make p v m k)) = record { turn = made_turn p v m k; parts = a }
turn_by f w d t n rows a (Grants (Start x e)) = record { turn = left_to Sets e Ok; parts = a }
turn_by f w d t n rows a (Grants (Go x)) = go_turn f w d t n rows a

-- the decision on a record of the bytes b, with the list that comes with a setup
abbrev pub decided_in : Fixed → Doing → Announced → List ℕ → List ℕ → List ℕ → List ℕ → Parts → Decided
decided_in f d t list rows rights b a =
    gate_of (decode b) f.up f.p f.v (length a.slots) (about_of d).idle (has_time t) list (take f.listed rows) a.running.marks
    (take f.p a.running.reading) (take f.granted rights)

-- A turn of worker w, which is at the place d with the announced time t and n ranges in its pool.
unfoldable pub turn_of : Fixed → ℕ → Doing → Announced → ℕ → List ℕ → List ℕ → List ℕ → List ℕ → Parts → Turned
turn_of f w d t n list rows rights b a = turn_by f w d t n rows a (decided_in f d t list rows rights b a)
