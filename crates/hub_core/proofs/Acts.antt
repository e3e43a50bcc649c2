-- What the loop does once a turn is taken, and that with it a record does what the definition says (simulation/specs/Shell.antt). Most of it is a
-- matter of unfolding.
use Rattle.std.specs.Prelude.{◌≡◌, ℕ, ◌+◌, ◌*◌, ◌%◌, ◌<◌, ◌≤◌, Bool, true, false, List, [], map, get_or, set}
use mathlib.Core.Path.{refl, sym, ap, ◌∙◌}
use native.Mathlib.Omega.{arith}
use borrow.Author.Tests.{le-leb}
use Rattle.lists.specs.Over.{over_at}
use Rattle.model.specs.Rules.{Given}
use Rattle.values.specs.declared.Answer.TheVariants.{Going}
use Rattle.answers.specs.Numbers.{kind_of, number_of}
use Rattle.worker.specs.declared.Doing.TheVariants.{FlushRead, FlushFree}
use Rattle.worker.specs.declared.Worker.{Worker}
use Rattle.worker.specs.Rep.{time_of, pool_rep}
use Rattle.pools.specs.Placed.{placed}
use Rattle.queue.specs.State.{Queue, pools_in}
use Rattle.state.specs.declared.Site.{Site}
use Rattle.state.specs.State.{nobody, at_place}
use Rattle.gate.specs.Gate.{Decided}
use Rattle.gate.specs.declared.Gate.TheVariants.{Make, Start, Go}
use Rattle.std.specs.Prelude.{Ok as Grants, Err as Refuse}
use Rattle.step.specs.declared.Next.{Next}
use Rattle.step.specs.declared.Next.TheVariants.{Taken, HandIn, Take, Read, ReadMarks, Split, Free, Mark}
use Rattle.step.proofs.Said.{Said, said}
use Rattle.flush.specs.Flush.{put_hand_in_step, handed_on}
use Rattle.splitting.specs.Splitting.{split_left, split_queue, split_merged}
use Rattle.turns.specs.declared.Arm.{Arm}
use Rattle.turns.specs.declared.Arm.TheVariants.{Says, Sets, Times, Reads, Makes, HandsIn, Splits, Moves}
use Rattle.turns.specs.declared.Fixed.{Fixed}
use Rattle.turns.specs.declared.Turn.{Turn}
use Rattle.turns.specs.Parts.{Parts, parts, with_queue, with_window, with_times}
use Rattle.turns.specs.Turns.{Turned, next_turn, stepped_in, parts_after, go_turn, turn_by}
use Rattle.simulation.specs.Memory.{Memory, Result}
use Rattle.simulation.specs.Shell.{taken_in, handed_in, took_in, read_in, all_read_in, marked_in, split_in, freed_in, off_worker, next_in, go_in, set_up_in, obey_in}
use Rattle.simulation.specs.Loop.{makes}
use Rattle.hub_core.specs.Stretch.{site_of, memory_of}

-- lent memory with other times, and after flush (3) with another queue and other merged lists
abbrev pub timed : Parts → List ℕ → Parts
timed a times = parts a.slots a.lent (with_times a.running times)

abbrev pub with_split : Parts → Queue → List ℕ → Parts
with_split a q merged = parts a.slots (with_queue a.lent q merged) (with_window a.running q.window)

-- What worker w's record becomes
abbrev pub handed_worker : Worker → Turn → Worker
handed_worker x t =
    record {
      doing = t.doing;
      announced = x.announced;
      pool =
          record {
            slots = placed x.pool.slots x.pool.len t.slot;
            lows = placed x.pool.lows x.pool.len t.low;
            highs = placed x.pool.highs x.pool.len t.high;
            len = t.len;
          };
    }

abbrev pub split_worker : Worker → ℕ → Worker
split_worker x n = record { doing = FlushFree n; announced = x.announced; pool = pool_rep [] }

-- What the loop leaves of the memory, of the workers ws and the parts a, by the arm of worker w's turn t
abbrev pub acted : Arm → Site → List Worker → ℕ → Turn → Parts → Given → Memory
acted Says y ws w t a given = memory_of y ws a
acted Sets y ws w t a given = memory_of y (set ws w (at_place (get_or ws w nobody) t.doing)) a
acted Times y ws w t a given =
    memory_of y (set ws w (record { doing = t.doing; announced = t.announced; pool = (get_or ws w nobody).pool })) a
acted Reads y ws w t a given =
    memory_of y (set ws w (at_place (get_or ws w nobody) t.doing))
    (timed a (set a.running.times (28 * w + t.read % 16) (time_of (get_or ws (t.read % 16) nobody).announced)))
acted Makes y ws w t a given = set_up_in (memory_of y ws a) given t.sizes.p t.sizes.v t.sizes.n t.sizes.clock
acted HandsIn y ws w t a given = memory_of y (set ws w (handed_worker (get_or ws w nobody) t)) a
acted Splits y ws w t a given =
    let q = (get_or ws w nobody).pool in
    memory_of y (set ws w (split_worker (get_or ws w nobody) (split_left a.lent.merged w t.merged a.running.times t.read q)))
    (with_split a
    (split_queue (pools_in a.lent.queue a.lent.lens a.running.window) a.lent.merged w t.merged a.running.times t.read y.batch q)
    (split_merged a.lent.merged w t.merged a.running.times t.read q))
acted Moves y ws w t a given = memory_of y (map (off_worker t.slot t.older) (set ws w (at_place (get_or ws w nobody) t.doing))) a

abbrev pub is_makes : Arm → Bool
is_makes Says = false
is_makes Sets = false
is_makes Times = false
is_makes Reads = false
is_makes Makes = true
is_makes HandsIn = false
is_makes Splits = false
is_makes Moves = false

module _ (f : Fixed) (n : ℕ) (rows rights : List ℕ) (ws : List Worker) (w : ℕ) (given : Given) where
  abbrev y : Site
  y = site_of f n rows rights

  abbrev x : Worker
  x = get_or ws w nobody

  -- what is left and answered after a turn
  abbrev pub result_of : Turned → Result
  result_of r = record { memory = acted r.turn.arm y ws w r.turn r.parts given; answer = r.turn.said.answer }

  abbrev next_of : Parts → Next → Turned
  next_of a s = next_turn f w x.doing x.pool.len a s

  -- flush (2), where there are at most sixteen workers
  read_small : (m j : ℕ) → j < f.p → f.p ≤ 16 → ◌≡◌ (FlushRead m (j + 1)) (FlushRead m (j % 255 + 1))
  read_small m j h few = let e : j ≡ j % 255 = omega arith in ap (λ (i : ℕ). FlushRead m (i + 1)) e

  next-acts : (few : f.p ≤ 16) (a : Parts) (s : Next) → Said f.p s → next_in (memory_of y ws a) w x s ≡ result_of (next_of a s)
  unfolding next_in next_turn taken_in handed_in put_hand_in_step handed_on took_in read_in all_read_in marked_in split_in freed_in
  next-acts few a (Taken o) h = refl
  next-acts few a (HandIn c) h = refl
  next-acts few a Take h = refl
  next-acts few a (Read m j) h =
      ap (λ d. record {
        memory =
            memory_of y (set ws w (at_place x d))
            (timed a (set a.running.times (28 * w + j % 16) (time_of (get_or ws (j % 16) nobody).announced)));
        answer = Going;
      }) (read_small m j h few)
  next-acts few a (ReadMarks m) h =
      let e : (f.p + 12) % 256 ≡ (f.p % 256 + 12) % 256 = omega arith in
      rw (le-leb f.p 16 few)
      (ap (λ i. record {
        memory = memory_of y (set ws w (at_place x (FlushRead m i))) (timed a (over_at (28 * w + f.p) a.running.marks a.running.times));
        answer = Going;
      }) e)
  next-acts few a (Split m j) h = refl
  next-acts few a (Free m) h = refl
  next-acts few a (Mark i t) h = refl

  -- what is known of the worker that a decision names
  abbrev pub Names : Decided → Type 0
  Names (Refuse k) = Unit {0}
  Names (Grants (Make p v m k)) = Unit {0}
  Names (Grants (Start v d)) = v ≡ w
  Names (Grants (Go v)) = (v ≡ w) × (f.p ≤ 16)

  abbrev turn_on : Parts → Decided → Turned
  turn_on a g = turn_by f w x.doing x.announced x.pool.len rows a g

  -- the record is carried out as the definition says
  pub obeys : (a : Parts) (g : Decided) → Names g → obey_in (memory_of y ws a) given g ≡ result_of (turn_on a g)
  unfolding obey_in turn_by go_in go_turn
  obeys a (Refuse k) e = refl
  obeys a (Grants (Make p v m k)) e = refl
  obeys a (Grants (Start v d)) e = ap (λ (i : ℕ). obey_in (memory_of y ws a) given (Grants (Start i d))) e
  obeys a (Grants (Go v)) (e, few) =
      let s = stepped_in f x.doing x.announced rows a in
      ap (λ (i : ℕ). obey_in (memory_of y ws a) given (Grants (Go i))) e
      ∙ next-acts few (parts_after a s) s.next
      (said x.doing x.announced a.running.clock a.running.free f.p a.slots a.lent.newest a.lent.free _ a.running.marks _)

  -- the two numbers of the answer
  next-said : (a : Parts) (s : Next) → let z = (next_of a s).turn.said in (z.kind ≡ kind_of z.answer) × (z.number ≡ number_of z.answer)
  unfolding next_turn
  next-said a (Taken o) = (refl, refl)
  next-said a (HandIn c) = (refl, refl)
  next-said a Take = (refl, refl)
  next-said a (Read m j) = (refl, refl)
  next-said a (ReadMarks m) = (refl, refl)
  next-said a (Split m j) = (refl, refl)
  next-said a (Free m) = (refl, refl)
  next-said a (Mark i t) = (refl, refl)

  pub turn_said : (a : Parts) (g : Decided) → let z = (turn_on a g).turn.said in (z.kind ≡ kind_of z.answer) × (z.number ≡ number_of z.answer)
  unfolding turn_by go_turn
  turn_said a (Refuse k) = (refl, refl)
  turn_said a (Grants (Make p v m k)) = (refl, refl)
  turn_said a (Grants (Start v d)) = (refl, refl)
  turn_said a (Grants (Go v)) = let s = stepped_in f x.doing x.announced rows a in next-said (parts_after a s) s.next

  -- a setup is accepted
  next-makes : (a : Parts) (s : Next) → is_makes (next_of a s).turn.arm ≡ false
  unfolding next_turn
  next-makes a (Taken o) = refl
  next-makes a (HandIn c) = refl
  next-makes a Take = refl
  next-makes a (Read m j) = refl
  next-makes a (ReadMarks m) = refl
  next-makes a (Split m j) = refl
  next-makes a (Free m) = refl
  next-makes a (Mark i t) = refl

  pub turn_makes : (a : Parts) (g : Decided) → makes g ≡ is_makes (turn_on a g).turn.arm
  unfolding turn_by go_turn
  turn_makes a (Refuse k) = refl
  turn_makes a (Grants (Make p v m k)) = refl
  turn_makes a (Grants (Start v d)) = refl
  turn_makes a (Grants (Go v)) = let s = stepped_in f x.doing x.announced rows a in sym (next-makes (parts_after a s) s.next)
