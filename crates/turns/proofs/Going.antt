-- A step, put together from its first part and what is done by what is known of it: by rewriting with what the calls ensure.
use mathlib.Core.Path.{◌≡◌, sym, ap, subst, ◌∙◌}
use mathlib.Core.List.{List}
use Prim.Native.Nat.{ℕ, ◌<◌, ◌+◌, ◌%◌}
use lib.ListN.{length, set, take, length-map}
use Rattle.model.specs.Record.{Decoded, decode}
use Rattle.values.specs.declared.Answer.TheVariants.{Going, Done}
use Rattle.slots.specs.declared.Slot.{Slot}
use Rattle.arrays.specs.Arrays.{short}
use Rattle.queue.specs.State.{Queue, pools_in, taken, rest}
use Rattle.worker.specs.Rep.{Announced}
use Rattle.worker.specs.declared.Doing.{Doing}
use Rattle.worker.specs.declared.Doing.TheVariants.{Idle, FlushRead}
use Rattle.places.specs.About.{about_of}
use Rattle.state.specs.declared.Lent.{Lent}
use Rattle.versions.specs.Versions.{slot_in, row_of}
use Rattle.gate.specs.Gate.{Decided}
use Rattle.gate.specs.Gate.{has_time}
use Rattle.decision.specs.Decision.{gate_of}
use Rattle.announcing.specs.declared.Outcome.{Outcome}
use Rattle.step.specs.declared.Next.{Next}
use Rattle.step.specs.declared.Next.TheVariants.{Taken, HandIn, Take, Read, ReadMarks, Split, Free, Mark}
use Rattle.step.specs.Step.{Stepped, step_of}
use Rattle.step.proofs.Said.{Said, said}
use Rattle.flush.specs.Flush.{handed_on}
use Rattle.freeing.specs.Freeing.{freed_step, freed_row, freed_free}
use Rattle.turns.specs.declared.Arm.TheVariants.{Sets}
use Rattle.turns.specs.declared.Fixed.{Fixed}
use Rattle.turns.specs.declared.Turn.{Turn}
use Rattle.turns.specs.declared.Running.{Running}
use Rattle.turns.specs.Parts.{Parts, parts, with_free, with_count, with_window, with_times, with_marks}
use Rattle.turns.specs.Turns.{left_to, taken_turn, hand_turn, read_turn, split_turn, free_turn, Turned, ran_on, took_merged, marks_read, next_turn}
use Rattle.turns.specs.Turns.{stepped_in, parts_after, go_turn, turn_by, turn_of}

-- a range is freed only where one is left
pub some_left : (d : Doing) (t : Announced) (k n p : ℕ) (l : List Slot) (newest free rows marks reading : List ℕ)
    {row : List Slot} {newest' : List ℕ} {s : Next} {m : ℕ}
    → record { next = s; row = row; newest = newest' } ≡ step_of d t k n p l newest free rows marks reading → s ≡ Free m → 0 < m
some_left d t k n p l newest free rows marks reading stepped e =
    subst (Said p) e (subst (λ (z : Stepped). Said p z.next) (sym stepped) (said d t k n p l newest free rows marks reading))

-- the first part of a step left the row and the newest versions, and s is known of it
module _ (f : Fixed) (w : ℕ) (d : Doing) (t : Announced) (n : ℕ) (rows : List ℕ) (a : Parts) (s : Next) (row : List Slot) (newest : List ℕ)
    (stepped : record { next = s; row = row; newest = newest } ≡ stepped_in f d t rows a) where
  abbrev b : Parts
  b = parts_after a (record { next = s; row = row; newest = newest })

  by : (s' : Next) → s ≡ s' → next_turn f w d n b s' ≡ go_turn f w d t n rows a
  unfolding go_turn
  by s' e = ap (next_turn f w d n b) (sym e) ∙ ap (λ (z : Stepped). next_turn f w d n (parts_after a z) z.next) stepped

  -- what is left is r and these parts
  abbrev left : Turn → Parts → Turned
  left r p = record { turn = r; parts = p }

  pub on_taken : (o : Outcome) {r : Turn} {running : Running} → s ≡ Taken o → (r ≡ taken_turn o) × (running ≡ ran_on a.running w d o)
      → left r (parts row b.lent running) ≡ go_turn f w d t n rows a
  unfolding next_turn
  on_taken o e (er, en) = (λ i. left (er i) (parts row b.lent (en i))) ∙ by (Taken o) e

  pub on_hand_in : (c : ℕ) {r : Turn} → s ≡ HandIn c → r ≡ hand_turn c (handed_on row n c f.batch) → left r b ≡ go_turn f w d t n rows a
  unfolding next_turn
  on_hand_in c e er = ap (λ (r : Turn). left r b) er ∙ by (HandIn c) e

  -- the queue that is met
  abbrev q : Queue
  q = pools_in a.lent.queue a.lent.lens a.running.window

  pub on_take : {r : Turn} {lent : Lent} {running : Running} → s ≡ Take → r ≡ left_to Sets (FlushRead (short (length (taken q))) 0) Going
      → pools_in lent.queue lent.lens running.window ≡ rest q → running ≡ with_window a.running running.window
      → lent.merged ≡ took_merged q a.lent.merged w → (lent.newest ≡ newest) × (lent.free ≡ a.lent.free)
      → left r (parts row lent running) ≡ go_turn f w d t n rows a
  unfolding next_turn
  on_take {r = r} {lent = lent} e er eq en em (ek, ef) =
      ap (λ (z : Running). left r (parts row lent z)) en
      ∙ (λ i. left (er i)
      (parts row (record { newest = ek i; free = ef i; queue = (eq i).queue; lens = (eq i).lens; merged = em i }) (with_window a.running (eq i).window)))
      ∙ by Take e

  pub on_read : (m j : ℕ) {r : Turn} → s ≡ Read m j → r ≡ read_turn m j → left r b ≡ go_turn f w d t n rows a
  unfolding next_turn
  on_read m j e er = ap (λ (r : Turn). left r b) er ∙ by (Read m j) e

  pub on_read_marks : (m : ℕ) {r : Turn} {running : Running} → s ≡ ReadMarks m
      → (r ≡ left_to Sets (FlushRead m ((f.p % 256 + 12) % 256)) Going)
      × (running ≡ with_times a.running (marks_read a.running.times w f.p a.running.marks))
      → left r (parts row b.lent running) ≡ go_turn f w d t n rows a
  unfolding next_turn
  on_read_marks m e (er, en) = (λ i. left (er i) (parts row b.lent (en i))) ∙ by (ReadMarks m) e

  pub on_split : (m j : ℕ) {r : Turn} → s ≡ Split m j → r ≡ split_turn m j → left r b ≡ go_turn f w d t n rows a
  unfolding next_turn
  on_split m j e er = ap (λ (r : Turn). left r b) er ∙ by (Split m j) e

  pub on_free : (m : ℕ) {r : Turn} {slots : List Slot} {lent : Lent} {running : Running} → s ≡ Free m
      → r ≡ free_turn m (freed_step row a.lent.merged w m a.running.free) → slots ≡ freed_row row a.lent.merged w m
      → lent ≡ with_free b.lent (freed_free a.lent.free a.lent.merged w m a.running.free)
      → running ≡ with_count a.running (freed_step row a.lent.merged w m a.running.free).free
      → left r (parts slots lent running) ≡ go_turn f w d t n rows a
  unfolding next_turn
  on_free m e er es el en = (λ i. left (er i) (parts (es i) (el i) (en i))) ∙ by (Free m) e

  pub on_mark_lem : (i x : ℕ) {r : Turn} {running : Running} → s ≡ Mark i x
      → (r ≡ left_to Sets Idle Done) × (running ≡ with_marks a.running (set a.running.marks (i % 12) x))
      → left r (parts row b.lent running) ≡ go_turn f w d t n rows a
  unfolding next_turn
  on_mark_lem i x e (er, en) = (λ j. left (er j) (parts row b.lent (en j))) ∙ by (Mark i x) e

-- lent memory stays as it is
pub stays : (a : Parts) {r r' : Turn} → r ≡ r' → ◌≡◌ {A = Turned} (record { turn = r; parts = a }) (record { turn = r'; parts = a })
stays a e i = record { turn = e i; parts = a }

------------------------------------------------------------------------
-- A turn, by the decision g on the record, which is g'; the row is one of words

pub decided : (f : Fixed) (w : ℕ) (d : Doing) (t : Announced) (n : ℕ) (list rows rights b : List ℕ) (row : List (List ℕ)) (lent : Lent)
    (running : Running) {r : Decoded} {g g' : Decided} → r ≡ decode b
    → g
    ≡ gate_of r f.up f.p f.v (length row) (about_of d).idle (has_time t) list (take f.listed rows) running.marks (take f.p running.reading)
    (take f.granted rights)
    → g ≡ g'
    → turn_by f w d t n rows (parts (row_of row) lent running) g'
    ≡ turn_of f w d t n list rows rights b (parts (row_of row) lent running)
unfolding turn_of
decided f w d t n list rows rights b row lent running er eg e =
    ap (turn_by f w d t n rows (parts (row_of row) lent running))
    (sym e
    ∙ eg
    ∙ (λ i. gate_of (er i) f.up f.p f.v (sym (length-map row slot_in) i) (about_of d).idle (has_time t) list (take f.listed rows) running.marks
    (take f.p running.reading) (take f.granted rights)))
