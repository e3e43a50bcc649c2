-- A record is decided by its first sixteen bytes: what a call for one record does to a list of bytes is what the loop does to its first record.
use Rattle.std.specs.Prelude.{◌≡◌, ℕ, zero, suc, ◌+◌, ◌%◌, ◌≤◌, Bool, true, false, cond, ◌&&◌, ltb, List, length, get_or, take}
use mathlib.Core.Path.{refl, sym, ap, ◌∙◌}
use native.Mathlib.Omega.{arith}
use lib.Dec.{lit<, lit≤}
use lib.Seq.{take_all, length-take-le, get_or-take}
use borrow.Author.Tests.{ltb-true, ltb-false}
use Rattle.model.specs.Rules.{Given}
use Rattle.model.specs.Record.{number, zeros, Command, SetUp, Begin, Step, Put, Open, Read, Close, Get, Collect, Total, Mark, Release}
use Rattle.model.specs.Record.{MarkedRead}
use Rattle.model.specs.Record.{Decoded, Asks, Refuses, command_of, unused_zero, decode}
use Rattle.values.specs.declared.Answer.{Answer}
use Rattle.places.specs.About.{about_of}
use Rattle.state.specs.State.{worker_in, table_kept}
use Rattle.gate.specs.Gate.{Decided}
use Rattle.gate.specs.Gate.{has_time}
use Rattle.decision.specs.Decision.{gate_of}
use Rattle.simulation.specs.Memory.{Memory, Result}
use Rattle.simulation.specs.Left.{ready}
use Rattle.simulation.specs.Shell.{rows_kept, marks_read, obey_in, done_as, done_of}
use Rattle.simulation.specs.Loop.{after, next, Ran}

-- the number in n bytes below the sixteenth, and whether they are zero
number-first : (b : List ℕ) (i n : ℕ) → i + n ≤ 16 → number (take 16 b) i n ≡ number b i n
number-first b i zero h = refl
number-first b i (suc n) h = rw (get_or-take 16 b i 0 (omega arith), number-first b (suc i) n (omega arith))

zeros-first : (b : List ℕ) (i n : ℕ) → i + n ≤ 16 → zeros (take 16 b) i n ≡ zeros b i n
unfolding zeros
zeros-first b i zero h = refl
zeros-first b i (suc n) h = rw (get_or-take 16 b i 0 (omega arith), zeros-first b (suc i) n (omega arith))

-- ---- the command, and what it leaves unused
module _ (b : List ℕ) where
  worker_first : number (take 16 b) 1 1 ≡ number b 1 1
  worker_first = number-first b 1 1 (lit≤ tt)

  register_first : number (take 16 b) 2 2 ≡ number b 2 2
  register_first = number-first b 2 2 (lit≤ tt)

  command_first : (k : ℕ) → command_of (take 16 b) k ≡ command_of b k
  unfolding command_of
  command_first zero =
      λ j. SetUp (record { P = worker_first j; V' = register_first j; N = number-first b 4 2 (lit≤ tt) j; clock = number-first b 8 4 (lit≤ tt) j })
  command_first (suc zero) =
      λ j. Begin (worker_first j) (Put (register_first j)
      (record { count = number-first b 8 8 (lit≤ tt) j; status = number-first b 4 1 (lit≤ tt) j }))
  command_first (suc (suc zero)) = λ j. Begin (worker_first j) Open
  command_first (suc (suc (suc zero))) = λ j. Begin (worker_first j) (Read (register_first j))
  command_first (suc (suc (suc (suc zero)))) = λ j. Begin (worker_first j) Close
  command_first (suc (suc (suc (suc (suc zero))))) = λ j. Begin (worker_first j) (Get (register_first j))
  command_first (suc (suc (suc (suc (suc (suc zero)))))) = λ j. Begin (worker_first j) Collect
  command_first (suc (suc (suc (suc (suc (suc (suc zero))))))) = λ j. Step (worker_first j)
  command_first (suc (suc (suc (suc (suc (suc (suc (suc zero)))))))) = λ j. Begin (worker_first j) (Total (register_first j))
  command_first (suc (suc (suc (suc (suc (suc (suc (suc (suc zero))))))))) = λ j. Begin (worker_first j) (Mark (register_first j))
  command_first (suc (suc (suc (suc (suc (suc (suc (suc (suc (suc zero)))))))))) = λ j. Begin (worker_first j) (Release (register_first j))
  command_first (suc (suc (suc (suc (suc (suc (suc (suc (suc (suc (suc n))))))))))) =
      λ j. Begin (worker_first j) (MarkedRead (register_first j) (number-first b 4 1 (lit≤ tt) j))

  unused_first : (c : Command) → unused_zero (take 16 b) c ≡ unused_zero b c
  unfolding unused_zero
  unused_first (SetUp z) = λ j. zeros-first b 6 2 (lit≤ tt) j && zeros-first b 12 4 (lit≤ tt) j
  unused_first (Begin w (Put r x)) = zeros-first b 5 3 (lit≤ tt)
  unused_first (Begin w Open) = zeros-first b 2 14 (lit≤ tt)
  unused_first (Begin w (Read r)) = zeros-first b 4 12 (lit≤ tt)
  unused_first (Begin w Close) = zeros-first b 2 14 (lit≤ tt)
  unused_first (Begin w (Get r)) = zeros-first b 4 12 (lit≤ tt)
  unused_first (Begin w Collect) = zeros-first b 2 14 (lit≤ tt)
  unused_first (Begin w (Total g)) = zeros-first b 4 12 (lit≤ tt)
  unused_first (Begin w (Mark m)) = zeros-first b 4 12 (lit≤ tt)
  unused_first (Begin w (Release m)) = zeros-first b 4 12 (lit≤ tt)
  unused_first (Begin w (MarkedRead r m)) = zeros-first b 5 11 (lit≤ tt)
  unused_first (Step w) = zeros-first b 2 14 (lit≤ tt)

-- ---- the whole
abbrev decoded_by : Bool → ℕ → Bool → Command → Decoded
decoded_by short k unused c = cond short (Refuses 6) (cond (ltb 11 k) (Refuses 1) (cond unused (Asks c) (Refuses 2)))

by_length : (b : List ℕ) (short : Bool) → ltb (length b) 16 ≡ short → decode (take 16 b) ≡ decode b
unfolding decode
by_length b true e = ap decode (take_all 16 b (omega (arith, ltb-true (length b) 16 e)))
by_length b false e =
    let n : ltb (length (take 16 b)) 16 ≡ false = ap (λ (m : ℕ). ltb m 16) (length-take-le 16 b (ltb-false (length b) 16 e)) in
    let k : get_or (take 16 b) 0 0 ≡ get_or b 0 0 = get_or-take 16 b 0 0 (lit< tt) in
    let c : command_of (take 16 b) (get_or (take 16 b) 0 0) ≡ command_of b (get_or b 0 0) =
    command_first b (get_or (take 16 b) 0 0) ∙ ap (command_of b) k in
    (λ j. decoded_by (n j) (k j) (unused_zero (take 16 b) (c j)) (c j))
    ∙ (λ j. decoded_by (sym e j) (get_or b 0 0) (unused_first b (command_of b (get_or b 0 0)) j) (command_of b (get_or b 0 0)))

pub decode-first : (b : List ℕ) → decode (take 16 b) ≡ decode b
decode-first b = by_length b (ltb (length b) 16) refl

-- ---- what a record does, and what the first record of a buffer does
abbrev gate_by : Bool → Memory → Given → Decoded → ℕ → Decided
gate_by up m given d u =
    let x = worker_in m.hub (u % 16) in
    gate_of d up m.hub.site.p m.hub.site.v (length m.slots) (about_of x.doing).idle (has_time x.announced) given.totals
    (rows_kept m.hub)
    m.hub.marks (marks_read m.hub) (table_kept m.hub)

done_first : (up : Bool) (m : Memory) (given : Given) (b : List ℕ) → done_as up m given (take 16 b) ≡ done_as up m given b
unfolding done_as
done_first up m given b = λ i. obey_in m given (gate_by up m given (decode-first b i) (get_or-take 16 b 1 0 (lit< tt) i))

-- one turn of the loop does to a record what is done to its first sixteen bytes
pub one_memory : {m m' : Memory} {given : Given} {b kinds numbers kinds' numbers' : List ℕ} {y : Answer}
    → Ran m given b kinds numbers 1 m' kinds' numbers' y
    → m' ≡ (done_of m given b).memory
unfolding after next done_of
one_memory {m} {m'} {given} {b} r = r.memory ∙ ap (λ (d : Result). d.memory) (done_first (ready m) m given b)

pub one_answer : {m m' : Memory} {given : Given} {b kinds numbers kinds' numbers' : List ℕ} {y : Answer}
    → Ran m given b kinds numbers 1 m' kinds' numbers' y
    → y ≡ (done_of m given b).answer
unfolding after next done_of
one_answer {m} {m'} {given} {b} r = r.last ∙ ap (λ (d : Result). d.answer) (done_first (ready m) m given b)
