-- What the call for a part leaves: the bytes that are handed on are those of the records for whose lines there is room, so every line is written.
use mathlib.Core.Path.{◌≡◌, refl, sym, ap, subst, ◌∙◌}
use mathlib.Core.Logic.{⊎_elim}
use mathlib.Core.List.{List}
use Prim.Native.Nat.{ℕ, zero, suc, ◌*◌, ◌/◌, ◌≤◌, min}
use native.Mathlib.Omega.{arith}
use lib.ListN.{length, take, length-take, length-set}
use lib.Seq.{take_all}
use Rattle.model.specs.Rules.{Given}
use Rattle.model.proofs.Basic.{lt_cases}
use Rattle.simulation.specs.Memory.{Memory}
use Rattle.simulation.specs.Loop.{State, next, after, before}
use Rattle.simulation.specs.Buffer.{Applies}
use Rattle.lines.specs.Written.{longest, counted, Written, written_lines, LinesWritten}
use Rattle.lines.proofs.Whole.{whole_text}
use Rattle.logs.specs.Part.{in_room, Logs}

-- a part up to an index past the end is the whole list
take_min : (l : List ℕ) (n b : ℕ) → b ≡ min (length l) n → take b l ≡ take n l
take_min l n b e =
    ⊎_elim
    (λ u. let f : b ≡ n = omega (arith, u.0) in rw f)
    (λ u. let f : b ≡ length l = omega (arith, u.0) in rw f (take_all (length l) l (omega arith) ∙ sym (take_all n l u.0)))
    (lt_cases n (length l))

-- the bytes that are handed on
pub handed-on :
    (given : Given) (bytes text : List ℕ) (b : ℕ) {m m' : Memory} {kinds numbers kinds' numbers' : List ℕ} {n : ℕ}
    → b ≡ min (length bytes) (16 * (length text / longest))
    → Applies m given (take b bytes) kinds numbers n m' kinds' numbers'
    → Applies m given (in_room bytes text) kinds numbers n m' kinds' numbers'
handed-on given bytes text b {m} {m'} {kinds} {numbers} {kinds'} {numbers'} {n} e a =
    subst (λ (l : List ℕ). Applies m given l kinds numbers n m' kinds' numbers') (take_min bytes (16 * (length text / longest)) b e) a

-- the two rows keep their lengths
rows-kept : (s : State) (given : Given) (bytes : List ℕ) (n : ℕ)
    → (length (after s given bytes n).kinds ≡ length s.kinds) × (length (after s given bytes n).numbers ≡ length s.numbers)
unfolding after next
rows-kept s given bytes zero = (refl, refl)
rows-kept s given bytes (suc n) =
    let r = rows-kept s given bytes n in
    (length-set (after s given bytes n).kinds n _ ∙ r.0, length-set (after s given bytes n).numbers n _ ∙ r.1)

module _ (given : Given) (bytes text : List ℕ) {m m' : Memory} {kinds numbers kinds' numbers' : List ℕ} {n : ℕ}
    (a : Applies m given (in_room bytes text) kinds numbers n m' kinds' numbers') where
  kinds_length : length kinds' ≡ length kinds
  kinds_length = ap length a.ran.ran.answer_kinds ∙ (rows-kept (before m kinds numbers) given (in_room bytes text) n).0

  numbers_length : length numbers' ≡ length numbers
  numbers_length = ap length a.ran.ran.answer_numbers ∙ (rows-kept (before m kinds numbers) given (in_room bytes text) n).1

  -- every answer is asked for
  all_counted : counted n kinds' numbers' ≡ n
  all_counted = omega (arith, a.count, kinds_length, numbers_length)

  -- and there is room for its line
  text-room : longest * n ≤ length text
  text-room = omega (arith, a.count, length-take (16 * (length text / longest)) bytes)

  pub part_logged : {first used : ℕ} {text' : List ℕ} → LinesWritten text first kinds' numbers' n used text'
      → Logs m given bytes first text kinds numbers n used m' text' kinds' numbers'
  part_logged {first} {used} {text'} w =
      let is : written_lines text first kinds' numbers' (counted n kinds' numbers') ≡ _ =
      ap (written_lines text first kinds' numbers') all_counted ∙ whole_text text first kinds' numbers' n text-room in
      record {
        applied = a;
        written = w.memory ∙ ap (λ (x : Written). x.memory) is;
        bytes_used = w.bytes ∙ ap (λ (x : Written). x.used) is;
      }
