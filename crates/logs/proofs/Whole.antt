-- The log of a whole file is the model's. What the call for a part leaves and answers is what the model's records do, by the contract of the
-- call for a buffer (`Applies`); the parts follow by induction on the file.
use mathlib.Core.Path.{◌≡◌, refl, sym, ap, subst, ◌∙◌}
use mathlib.Core.Logic.{inl}
use mathlib.Core.List.{List, [], ◌∷◌, ◌++◌, map, flatten, append-nil}
use Prim.Native.Nat.{ℕ, zero, suc, ◌+◌, ◌*◌, ◌/◌, ◌≤◌, ◌<◌}
use native.Mathlib.Omega.{arith}
use lib.ListN.{length, get_or, take, length-map}
use lib.Seq.{take_all}
use Rattle.lists.specs.Over.{over}
use Rattle.lists.proofs.Over.{take-over, get_d_over_in}
use Rattle.model.specs.Store.{Hub, blank, up_from}
use Rattle.model.specs.Rules.{Given, Ruled, in_force, under, all_under}
use Rattle.model.specs.Record.{cut, records_of}
use Rattle.model.specs.Apply.{hub_after, answers_to}
use Rattle.model.specs.Demand.{events, Exchange, exchange}
use Rattle.model.specs.Log.{lines, log_of}
use Rattle.theorem.proofs.Main.{answers-of_events}
use Rattle.values.specs.declared.Answer.{Answer}
use Rattle.values.specs.Meaning.{answer_of}
use Rattle.answers.specs.Numbers.{kind_of, number_of}
use Rattle.simulation.specs.Memory.{Memory, lent_in}
use Rattle.simulation.specs.Holds.{Holds, sent, memory_after, AsModel}
use Rattle.simulation.specs.Records.{record_at, records_in}
use Rattle.simulation.specs.Buffer.{answer_at, exchange_at, Applies}
use Rattle.simulation.specs.Demands.{ForRecords}
use Rattle.simulation.proofs.Below.{map-map, map_last, map-long, at_below}
use Rattle.simulation.proofs.Parts.{whole, in_parts, call_records}
use Rattle.lines.specs.Written.{lines_from, first_of}
use Rattle.lines.proofs.Whole.{lines-append, model_text}
use Rattle.logs.specs.Part.{in_room}
use Rattle.logs.specs.OnePart.{Call, LoggedAs, OnePart}
use Rattle.logs.specs.File.{Part, HandedIn, CutBetweenRecords, WholeFile}
use Rattle.logs.proofs.Model.{under-append, answers-append, answers-length}

------------------------------------------------------------------------
-- One part

-- the first of a row, counted up
first_up : {A : Type 0} (f : ℕ → A) (k : ℕ) → first_of f k ≡ map f (up_from 0 k)
unfolding first_of up_from
first_up f zero = refl
first_up f (suc k) = ap (λ (l : List _). l ++ (f k ∷ [])) (first_up f k) ∙ sym (map_last f k)

module _ (h : Hub) (m : Memory) (given : Given) (bytes : List ℕ) (first : ℕ) (printed : List ℕ) (n : ℕ) (m' : Memory) (H : Holds h m)
    (C : Call m given bytes first printed n m') where
  -- every record has room
  all_bytes : in_room bytes C.text ≡ bytes
  all_bytes = take_all (16 * (length C.text / 70)) bytes (omega (arith, C.room.for_text))

  all_records : n ≡ records_in bytes
  all_records = omega (arith, C.logs.applied.count, ap length all_bytes, C.room.for_kinds, C.room.for_numbers)

  applies : Applies m given bytes C.kinds C.numbers n m' C.kinds' C.numbers'
  applies = subst (λ (l : List ℕ). Applies m given l C.kinds C.numbers n m' C.kinds' C.numbers') all_bytes C.logs.applied

  -- what was sent and answered, as the model has it
  abbrev answer_on : ℕ → Answer
  answer_on = answer_at C.kinds' C.numbers'

  abbrev es : List Exchange
  es = map (exchange_at given bytes C.kinds' C.numbers') (up_from 0 n)

  as_model : AsModel h m es m'
  as_model = applies.as_model h H

  sent_is : sent es ≡ all_under (in_force given) (records_of bytes)
  sent_is = call_records (ForRecords given bytes C.kinds C.numbers n C.kinds' C.numbers' m') all_records

  answered : map (λ (e : Exchange). e.answer) es ≡ answers_to h (all_under (in_force given) (records_of bytes))
  answered =
      ap (map (λ (e : Exchange). e.answer)) as_model.answers
      ∙ sym (map-map (λ (e : Exchange). e.answer) exchange (events h (sent es)))
      ∙ answers-of_events h (sent es)
      ∙ ap (answers_to h) sent_is

  -- the two rows hold the answers
  row_holds : (f : Answer → ℕ) (l r : List ℕ) → n ≤ length l → r ≡ over (map f applies.answers) l
      → (i : ℕ) → i < n → get_or r i 0 ≡ f (answer_on i)
  row_holds f l r long e i b =
      let is : map f applies.answers ≡ map (λ (k : ℕ). f (answer_on k)) (up_from 0 n) =
      ap (map f) (sym (applies.read_back (h, H))) ∙ sym (map-map f answer_on (up_from 0 n)) in
      let p = map (λ (k : ℕ). f (answer_on k)) (up_from 0 n) in
      ap (λ (d : List ℕ). get_or d i 0) (e ∙ ap (λ (q : List ℕ). over q l) is)
      ∙ get_d_over_in p l i 0 (omega (arith, b, map-long (λ (k : ℕ). f (answer_on k)) n))
      ∙ at_below (λ (k : ℕ). f (answer_on k)) 0 n i b

  text-is : lines_from first C.kinds' C.numbers' n ≡ lines first (map (λ (e : Exchange). e.answer) es)
  text-is =
      model_text first C.kinds' C.numbers' answer_on n
      (row_holds kind_of C.kinds C.kinds' (omega (arith, all_records, C.room.for_kinds)) applies.answer_kinds)
      (row_holds number_of C.numbers C.numbers' (omega (arith, all_records, C.room.for_numbers)) applies.answer_numbers)
      ∙ ap (lines first)
      (ap (map answer_of) (first_up answer_on n)
      ∙ sym (map-map answer_of answer_on (up_from 0 n))
      ∙ map-map (λ (e : Exchange). e.answer) (exchange_at given bytes C.kinds' C.numbers') (up_from 0 n))

  printed_is : printed ≡ lines_from first C.kinds' C.numbers' n
  printed_is =
      let l : List ℕ = lines_from first C.kinds' C.numbers' n in
      C.prints ∙ ap (take C.used) C.logs.written ∙ take-over l C.text C.used (sym C.logs.bytes_used)

  part_logged : LoggedAs h m given bytes first printed n m'
  part_logged =
      record {
        count = all_records;
        text = printed_is ∙ text-is ∙ ap (lines first) answered;
        memory = as_model.memory ∙ ap (λ (l : List Ruled). memory_after h l m) sent_is;
        holds = subst (λ (l : List Ruled). Holds (hub_after h l) m') sent_is as_model.holds;
      }

pub one_part : OnePart
one_part = part_logged

------------------------------------------------------------------------
-- The file

abbrev parted : List Part → List (List ℕ)
parted ps = map (λ (p : Part). p.bytes) ps

abbrev bytes_of : List Part → List ℕ
bytes_of ps = flatten (parted ps)

abbrev printed_of : List Part → List ℕ
printed_of ps = flatten (map (λ (p : Part). p.printed) ps)

cut-rest : (p : List ℕ) (ps : List (List ℕ)) → CutBetweenRecords (p ∷ ps) → CutBetweenRecords ps
unfolding CutBetweenRecords
cut-rest p [] c = tt
cut-rest p (q ∷ ps) c = c.1

-- the records of a file are those of its first part and those of the others
records_parts : (p : List ℕ) (ps : List (List ℕ)) → CutBetweenRecords (p ∷ ps)
    → records_of (p ++ flatten ps) ≡ records_of p ++ records_of (flatten ps)
unfolding CutBetweenRecords flatten records_of cut
records_parts p [] c = ap records_of (append-nil p) ∙ sym (append-nil (records_of p))
records_parts p (q ∷ ps) c = in_parts p (flatten (q ∷ ps)) (inl c.0)

parts : (given : Given) (ps : List Part) (h : Hub) (m : Memory) (first : ℕ) → Holds h m → CutBetweenRecords (parted ps) → HandedIn given m first ps
    → printed_of ps ≡ lines first (answers_to h (all_under (in_force given) (records_of (bytes_of ps))))
unfolding HandedIn flatten records_of cut answers_to lines
parts given [] h m first L c H = refl
parts given (p ∷ ps) h m first L c H =
    let a : List Ruled = all_under (in_force given) (records_of p.bytes) in
    let b : List Ruled = all_under (in_force given) (records_of (bytes_of ps)) in
    let o = one_part h m given p.bytes first p.printed p.count p.after L H.0 in
    let rest = parts given ps (hub_after h a) p.after (first + p.count) o.holds (cut-rest p.bytes (parted ps) c) H.1 in
    let count : length (answers_to h a) ≡ p.count =
    answers-length h a ∙ length-map (records_of p.bytes) (under (in_force given)) ∙ sym (ap length (whole p.bytes))
    ∙ map-long (record_at p.bytes) (records_in p.bytes) ∙ sym o.count in
    let all : all_under (in_force given) (records_of (bytes_of (p ∷ ps))) ≡ a ++ b =
    ap (all_under (in_force given)) (records_parts p.bytes (parted ps) c) ∙ under-append (in_force given) (records_of p.bytes) (records_of (bytes_of ps)) in
    (λ i. o.text i ++ rest i)
    ∙ ap (λ (n : ℕ). lines first (answers_to h a) ++ lines (first + n) (answers_to (hub_after h a) b)) (sym count)
    ∙ sym (lines-append first (answers_to h a) (answers_to (hub_after h a) b))
    ∙ ap (lines first) (sym (answers-append h a b))
    ∙ ap (λ (l : List Ruled). lines first (answers_to h l)) (sym all)

pub whole_file : WholeFile
unfolding log_of
whole_file m given ps e c H = parts given ps (blank (lent_in m)) m 0 (e, refl) c H
