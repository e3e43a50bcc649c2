-- How `hublog` meets what the theorem over a file asks: its first memory does not count as set up, and what its reads bring is cut between
-- records, by induction on the reads.
use mathlib.Core.Path.{◌≡◌, refl, sym, ap, subst, ◌∙◌}
use mathlib.Core.List.{List, [], ◌∷◌, ◌++◌, map, flatten, append_assoc}
use mathlib.Core.Bool.{Bool, true, false, cond}
use Prim.Native.Nat.{ℕ, ◌%◌}
use native.Mathlib.Omega.{arith}
use lib.ListN.{length, take, drop, take-append-drop}
use lib.Seq.{length-take-le}
use Rattle.model.specs.Rules.{in_force}
use Rattle.model.specs.Log.{log_of}
use Rattle.slots.specs.Slots.{slot_of}
use Rattle.ready_sizes.specs.Sizes.{sizes_fit}
use Rattle.ready.specs.Ready.{scans_fit, ready_of}
use Rattle.model.specs.Store.{Hub, blank}
use Rattle.model.specs.Rights.{table_of, table_fits}
use Rattle.model.specs.Answer.{Ok, No}
use Rattle.model.specs.Apply.{unless, give_table, emptied}
use Rattle.values.specs.Meaning.{answer_of}
use Rattle.state.specs.State.{empty_hub}
use Rattle.simulation.specs.Memory.{Memory, memory, lent_in}
use Rattle.simulation.specs.Left.{ready}
use Rattle.simulation.specs.Holds.{Holds}
use Rattle.simulation.proofs.Demands.{demands}
use Rattle.input_parts.specs.Whole.{whole_records}
use Rattle.logs.specs.File.{CutBetweenRecords, StartsBlank, StartsWith, parts_of, AnyReads}
use Rattle.logs.proofs.Whole.{whole_file}

pub starts_blank : StartsBlank
unfolding ready ready_of scans_fit sizes_fit
starts_blank slots newest free queue lens merged = refl

-- with a table given, what the model makes of it
pub starts_with : StartsWith
unfolding give_table
starts_with slots newest free queue lens merged bytes y m Z G =
    let m₀ : Memory = memory empty_hub slots newest free queue lens merged in
    let D = demands.table (emptied (map slot_of slots)) m₀ m bytes y (demands.empty m₀) Z G in
    by (table_fits bytes) D.0 D.1
  where
    given : Hub
    given = blank (record { row = map slot_of slots; table = table_of bytes })

    by : (t : Bool)
        → answer_of y ≡ (unless t (emptied (map slot_of slots)) 24 (record { hub = given; answer = Ok })).answer
        → Holds (unless t (emptied (map slot_of slots)) 24 (record { hub = given; answer = Ok })).hub m
        → (ready m ≡ false) × (lent_in m ≡ record { row = map slot_of slots; table = cond t (table_of bytes) [] }) × (answer_of y ≡ cond t Ok (No 24))
    by true a H = (H.0, sym H.1, a)
    by false a H = (H.0, sym H.1, a)

-- the whole records of some bytes
whole_part : (b : List ℕ) → length (take (whole_records (length b)) b) % 16 ≡ 0
whole_part b = omega (arith, length-take-le (whole_records (length b)) b (omega arith))

cut-cons : (a : List ℕ) (l : List (List ℕ)) → length a % 16 ≡ 0 → CutBetweenRecords l → CutBetweenRecords (a ∷ l)
unfolding CutBetweenRecords
cut-cons a [] h c = tt
cut-cons a (q ∷ l) h c = (h, c)

between : (rs : List (List ℕ)) (kept : List ℕ) → CutBetweenRecords (parts_of kept rs)
unfolding CutBetweenRecords parts_of
between [] [] = tt
between [] (x ∷ kept) = tt
between (r ∷ rs) kept =
    let b : List ℕ = kept ++ r in
    let n : ℕ = whole_records (length b) in
    cut-cons (take n b) (parts_of (drop n b) rs) (whole_part b) (between rs (drop n b))

together : (rs : List (List ℕ)) (kept : List ℕ) → flatten (parts_of kept rs) ≡ kept ++ flatten rs
unfolding flatten parts_of
together [] [] = refl
together [] (x ∷ kept) = refl
together (r ∷ rs) kept =
    let b : List ℕ = kept ++ r in
    let n : ℕ = whole_records (length b) in
    ap (λ (l : List ℕ). take n b ++ l) (together rs (drop n b))
    ∙ sym (append_assoc (take n b) (drop n b) (flatten rs))
    ∙ ap (λ (l : List ℕ). l ++ flatten rs) (take-append-drop n b)
    ∙ append_assoc kept r (flatten rs)

pub any_reads : AnyReads
any_reads m given ps rs e parted H =
    whole_file m given ps e (subst CutBetweenRecords (sym parted) (between rs [])) H
    ∙ ap (log_of (in_force given) (lent_in m)) (ap flatten parted ∙ together rs [])
