-- A row of slots of any length may be lent, and only its first 2048 matter: a hub has no more. What a record does to memory with that part
-- of the row alone it does to the memory, the rest of the row as it was.
use mathlib.Core.Path.{◌≡◌, refl, sym, ap, ◌∙◌, subst}
use mathlib.Core.Bool.{Bool, true, false, cond, ◌&&◌, and-false}
use mathlib.Core.Logic.{⊎_elim}
use mathlib.Core.List.{List, [], ◌∷◌, map}
use mathlib.Core.Option.{Option, none, some}
use Prim.Native.Nat.{ℕ, zero, suc, ◌≤◌, ◌<◌}
use native.Mathlib.Omega.{arith}
use lib.Dec.{leb}
use lib.ListN.{length, take, drop, length-take, length-map}
use lib.Seq.{get_or-take, take-take}
use borrow.Author.Tests.{le-leb, lt-leb}
use Rattle.model.specs.Store as Model
use Rattle.model.specs.Store.{Store, blank, up}
use Rattle.model.specs.Rules.{Given, in_force, under}
use Rattle.model.specs.Answer.{said, Applied}
use Rattle.model.specs.Rights.{table_fits}
use Rattle.model.specs.Record.{Sizes, SetUp, Begin, Step, Decoded, Asks, Refuses, decode, list_fits}
use Rattle.model.specs.Apply.{refuse, in_ranges, fresh, set_up, obey, apply_decoded, apply}
use Rattle.model.proofs.Basic.{le_cases, and_both}
use Rattle.theorem.proofs.Setup.{in_ranges_lem}
use Rattle.values.specs.declared.Answer.{Answer}
use Rattle.values.specs.declared.Answer.TheVariants.{Ok, No}
use Rattle.values.specs.Meaning.{answer_of}
use Rattle.slots.specs.declared.Slot.{Slot}
use Rattle.slots.specs.Slots.{slot_rep, slot_of, vacant_slot, linked_and, linked_to}
use Rattle.state.specs.declared.Hub.{Hub}
use Rattle.state.specs.State.{standing}
use Rattle.ready_sizes.specs.Sizes.{sizes_fit}
use Rattle.ready.specs.Ready.{scans_fit, ready_of}
use Rattle.simulation.specs.Memory.{Memory, lent_in, cut, write, with_hub, next_hub, write_hub, Result, answered}
use Rattle.simulation.specs.Left.{LeftByRecords, Left, Sized, ready}
use Rattle.simulation.specs.Shell.{done_of}
use Rattle.simulation.specs.Holds.{Holds, AsModel}
use Rattle.simulation.specs.Tables.{with_table, table_given, Gives}
use Rattle.simulation.specs.Public.{takes_step_in, idled_in, EndsBy, OnAny, exchange_of, Does}
use Rattle.simulation.proofs.Bytes.{Bytes}
use Rattle.simulation.proofs.Laws.{over-take, over-drop, both_parts, map-take}
use Rattle.simulation.proofs.Sound.{sound, left_next}
use Rattle.simulation.proofs.Laid.{memory-path}
use Rattle.simulation.proofs.Gates.{both}
use Rattle.simulation.proofs.Fresh.{first_length_lem}
use Rattle.simulation.proofs.Again.{as_model_lem, one_answer, one_memory}
use Rattle.simulation.proofs.Main.{does}

------------------------------------------------------------------------
-- Tests of the row's length

and_same : (t u v : Bool) → (t ≡ true → u ≡ v) → t && u ≡ t && v
and_same true u v f = f refl
and_same false u v f = refl

-- a row is long enough for n slots, 2048 at the most, if its first 2048 slots are
long_cut : {A : Type 0} (n : ℕ) (l : List A) → n ≤ 2048 → leb n (length (take 2048 l)) ≡ leb n (length l)
long_cut n l h =
    ⊎_elim
    (λ u. le-leb n (length (take 2048 l)) (omega (arith, h, u.0, length-take 2048 l)) ∙ sym u.1)
    (λ u. lt-leb n (length (take 2048 l)) (omega (arith, u.0, length-take 2048 l)) ∙ sym u.1)
    (le_cases n (length l))

------------------------------------------------------------------------
-- Memory counts as set up if it does with the first 2048 slots

linked_cut : (l : List Slot) (n k : ℕ) → k ≤ 2048 → linked_to (take 2048 l) n k ≡ linked_to l n k
unfolding linked_to
linked_cut l n zero h = refl
linked_cut l n (suc k) h =
    λ i. linked_and (linked_cut l n k (omega arith) i) (get_or-take 2048 l k vacant_slot (omega arith) i) n

-- a hub by value with more slots does not fit
too_many : (h : Hub) (long : ℕ) → 2048 < h.site.n → sizes_fit h long ≡ false
unfolding sizes_fit
too_many h long u = simp (lt-leb h.site.n 2048 u, and-false)

pub ready-cut : (m : Memory) → ready (cut m) ≡ ready m
unfolding ready ready_of scans_fit sizes_fit
ready-cut m =
    ⊎_elim
    (λ u. rw (long_cut m.hub.site.n m.slots u.0, linked_cut m.slots m.hub.site.n m.hub.site.n u.0))
    (λ u. rw (too_many m.hub (length (take 2048 m.slots)) u.0, too_many m.hub (length m.slots) u.0))
    (le_cases m.hub.site.n 2048)

------------------------------------------------------------------------
-- A store of at most 2048 slots in memory

abbrev Few : Store → Type 0
Few s = length s.slots ≤ 2048

-- a hub that is not set up has no store
abbrev FewIn : Model.Hub → Type 0
FewIn (blank row) = Unit {0}
FewIn (up s) = Few s

module _ (s : Store) (few : Few s) (m : Memory) where
  few_in : length (map slot_rep s.slots) ≤ 2048
  few_in = rw (length-map s.slots slot_rep) few

  write-cut : cut (write s m) ≡ write s (cut m)
  write-cut = memory-path refl (over-take 2048 (map slot_rep s.slots) m.slots few_in) refl refl refl refl refl

  write-rest : drop 2048 (write s m).slots ≡ drop 2048 m.slots
  write-rest = over-drop 2048 (map slot_rep s.slots) m.slots few_in

-- a store that records left has few
left_few : {s : Store} → LeftByRecords s → Few s
left_few L =
    let B = (sound L).bounds.slots in
    omega (arith, B.1, B.2)

left_cut : {s : Store} (m : Memory) → Left s m → Left s (cut m)
left_cut {s} m L = record { store = L.store; begins = L.begins; laid = ap cut L.laid ∙ write-cut s (left_few L.store) m }

------------------------------------------------------------------------
-- A hub that is not set up, whose row is lent

-- what the model makes of a record in two ways: the same is written over memory m and answered, and the slots are few
record Alike (m : Memory) (h h' : Model.Hub) (a a' : Applied) : Type 0 where
  memory : write_hub h a.hub m ≡ write_hub h' a'.hub m
  answer : a.answer ≡ a'.answer
  few : FewIn a'.hub

module _ (m : Memory) (given : Given) (l : List Slot) where
  abbrev row : List Model.Slot
  row = map slot_of l

  abbrev row' : List Model.Slot
  row' = map slot_of (take 2048 l)

  -- with the table that stands
  abbrev lent : Model.Lent
  lent = record { row = row; table = standing m.hub }

  abbrev lent' : Model.Lent
  lent' = record { row = row'; table = standing m.hub }

  refused_cut : (k : ℕ) → Alike m (blank lent') (blank lent) (refuse (blank lent') k) (refuse (blank lent) k)
  refused_cut k = record { memory = refl; answer = refl; few = tt }

  -- the slots that a setup takes
  made_cut : (z : Sizes) → z.N ≤ 2048 → take z.N row' ≡ take z.N row
  made_cut z h = ap (take z.N) (map-take slot_of 2048 l) ∙ take-take z.N 2048 row h

  set-up_cut : (z : Sizes) → Alike m (blank lent') (blank lent) (set_up (in_force given) (blank lent') z) (set_up (in_force given) (blank lent) z)
  unfolding set_up fresh
  set-up_cut z =
      both (Alike m (blank lent') (blank lent)) (in_ranges z && leb z.N (length row') && list_fits z.V' given.totals)
      (in_ranges z && leb z.N (length row) && list_fits z.V' given.totals) _ _ _ _
      (ap (λ (t : Bool). t && list_fits z.V' given.totals)
      (and_same (in_ranges z) _ _ (λ e. rw (map-take slot_of 2048 l) (long_cut z.N row (in_ranges_lem z e).N≤2048))))
      (λ e. let h : z.N ≤ 2048 = (in_ranges_lem z (and_both (in_ranges z) (leb z.N (length row)) (and_both (in_ranges z && leb z.N (length row)) _ e).0).0).N≤2048 in
      record {
        memory = rw (made_cut z h);
        answer = refl;
        few = omega (arith, first_length_lem z.V' (take z.N row), length-take z.N row);
      })
      (λ e. refused_cut 5)

  decoded_cut : (r : Decoded) → Alike m (blank lent') (blank lent) (apply_decoded (in_force given) (blank lent') r) (apply_decoded (in_force given) (blank lent) r)
  unfolding apply_decoded obey
  decoded_cut (Asks (SetUp z)) = set-up_cut z
  decoded_cut (Asks (Begin w o)) = refused_cut 8
  decoded_cut (Asks (Step w)) = refused_cut 8
  decoded_cut (Refuses k) = refused_cut k

  apply-cut : (b : List ℕ) → Alike m (blank lent') (blank lent) (apply (in_force given) (blank lent') b) (apply (in_force given) (blank lent) b)
  unfolding apply
  apply-cut b = decoded_cut (decode b)

------------------------------------------------------------------------
-- The contract

-- the rest of the row is as it was
module _ (m m' : Memory) (rest : drop 2048 m'.slots ≡ drop 2048 m.slots) where
  -- the memory that is left is x
  whole : (x : Memory) → drop 2048 x.slots ≡ drop 2048 m.slots → cut m' ≡ cut x → m' ≡ x
  whole x r e =
      memory-path (ap (λ (z : Memory). z.hub) e) (both_parts 2048 m'.slots x.slots (ap (λ (z : Memory). z.slots) e) (rest ∙ sym r))
      (ap (λ (z : Memory). z.newest) e) (ap (λ (z : Memory). z.free) e) (ap (λ (z : Memory). z.queue) e) (ap (λ (z : Memory). z.lens) e)
      (ap (λ (z : Memory). z.merged) e)

  written : (h₀ h : Model.Hub) → FewIn h → cut m' ≡ write_hub h₀ h (cut m) → m' ≡ write_hub h₀ h m
  written h₀ (blank row) f e = whole m refl e
  written h₀ (up s) f e =
      let x : Memory = with_hub m (next_hub h₀ s m.hub) in
      whole (write s x) (write-rest s f x) (e ∙ sym (write-cut s f x))

  takes-cut : (t : Bool) (d : Decoded) → takes_step_in t (cut m) d ≡ takes_step_in t m d
  unfolding takes_step_in
  takes-cut t (Asks (SetUp z)) = refl
  takes-cut t (Asks (Begin w o)) = refl
  takes-cut t (Asks (Step w)) = refl
  takes-cut t (Refuses k) = refl

  idled-cut : (d : Decoded) → idled_in (cut m) d ≡ cut (idled_in m d)
  unfolding idled_in
  idled-cut (Asks (SetUp z)) = refl
  idled-cut (Asks (Begin w o)) = refl
  idled-cut (Asks (Step w)) = refl
  idled-cut (Refuses k) = refl

  idled-rest : (d : Decoded) → drop 2048 (idled_in m d).slots ≡ drop 2048 m.slots
  unfolding idled_in
  idled-rest (Asks (SetUp z)) = refl
  idled-rest (Asks (Begin w o)) = refl
  idled-rest (Asks (Step w)) = refl
  idled-rest (Refuses k) = refl

  ends_cut : (t : Bool) (d : Decoded) (y : Option ℕ) → EndsBy t (cut m) d y (cut m') → EndsBy t m d y m'
  ends_cut t d none E = tt
  ends_cut t d (some k) E =
      let same = takes-cut t d in
      record { number = rw (← same) E.number; leaves = by (takes_step_in t m d) (E.leaves ∙ rw same) }
    where
      by : (b : Bool) → cut m' ≡ cond b (idled_in (cut m) d) (cut m) → m' ≡ cond b (idled_in m d) m
      by true e = whole (idled_in m d) (idled-rest d) (e ∙ idled-cut d)
      by false e = whole m refl e

  any_cut : (t : Bool) (b : List ℕ) (y : Answer) → OnAny t (cut m) b y (cut m') → OnAny t m b y m'
  any_cut t b y D =
      record {
        ends = ends_cut t (decode b) (said (answer_of y)).refusal D.ends;
        reading = λ k d. ((D.reading k d).0, whole m refl (D.reading k d).1);
        nine = D.nine;
      }

  -- what the model makes of the record, with the first 2048 slots and with the whole row
  module _ (given : Given) (b : List ℕ) (y : Answer) (D : Does (cut m) given b y (cut m')) (Z : Sized m) where
    blank-as-model-cut : ready m ≡ false → AsModel (blank (lent_in m)) m (exchange_of given b y ∷ []) m'
    blank-as-model-cut e =
        let h : Model.Hub = blank (lent (cut m) given m.slots) in
        let A = D.as_model (blank (lent' (cut m) given m.slots)) (ready-cut m ∙ e, refl) in
        let L = apply-cut (cut m) given m.slots b in
        as_model_lem m m' Z given h b y (e, refl) (written h (apply (in_force given) h b).hub L.few (one_memory A ∙ L.memory)) (one_answer A ∙ L.answer)

    as-model-cut : (h : Model.Hub) → Holds h m → AsModel h m (exchange_of given b y ∷ []) m'
    as-model-cut (up s) L =
        let A = D.as_model (up s) (left_cut m L) in
        let N = left_next L.store (under (in_force given) b) in
        let f : FewIn (apply (in_force given) (up s) b).hub = subst FewIn (sym N.1) (left_few N.2) in
        as_model_lem m m' Z given (up s) b y L (written (up s) (apply (in_force given) (up s) b).hub f (one_memory A)) (one_answer A)
    as-model-cut (blank l) H =
        subst (λ (q : Model.Lent). AsModel (blank q) m (exchange_of given b y ∷ []) m') (sym H.1) (blank-as-model-cut H.0)

-- the contract with the first 2048 slots is the contract with the whole row, where the rest of the row is as it was
pub does_cut : (m m' : Memory) (given : Given) (b : List ℕ) (y : Answer) → Sized m → Does (cut m) given b y (cut m') → drop 2048 m'.slots ≡ drop 2048 m.slots
    → Does m given b y m'
does_cut m m' given b y Z D rest =
    record {
      as_model = as-model-cut m m' rest given b y D Z;
      on_any = subst (λ (t : Bool). OnAny t m b y m') (ready-cut m) (any_cut m m' rest (ready (cut m)) b y D.on_any);
    }

sized_cut : (m : Memory) → Sized m → Sized (cut m)
sized_cut m Z =
    record {
      workers = Z.workers;
      times = Z.times;
      marks = Z.marks;
      reading = Z.reading;
      rows = Z.rows;
      rights = Z.rights;
      newest = Z.newest;
      free = Z.free;
      queue = Z.queue;
      lens = Z.lens;
      merged = Z.merged;
    }

pub sized_whole : (m : Memory) → Sized (cut m) → Sized m
sized_whole m Z =
    record {
      workers = Z.workers;
      times = Z.times;
      marks = Z.marks;
      reading = Z.reading;
      rows = Z.rows;
      rights = Z.rights;
      newest = Z.newest;
      free = Z.free;
      queue = Z.queue;
      lens = Z.lens;
      merged = Z.merged;
    }

-- a table that is given with the first 2048 slots is given with the whole row: by the two tests
abbrev by_tests : Memory → List ℕ → Bool → Bool → Result
by_tests x bytes t u = cond t (answered x (No 9)) (cond u (answered (with_hub x (with_table x.hub bytes)) Ok) (answered x (No 24)))

pub gives_cut : (m m' : Memory) (bytes : List ℕ) (y : Answer) → Gives (cut m) bytes y (cut m') → drop 2048 m'.slots ≡ drop 2048 m.slots
    → Gives m bytes y m'
unfolding table_given
gives_cut m m' bytes y G rest =
    let e : cut m' ≡ (by_tests (cut m) bytes (ready m) (table_fits bytes)).memory =
    G.memory ∙ ap (λ (t : Bool). (by_tests (cut m) bytes t (table_fits bytes)).memory) (ready-cut m) in
    let a : y ≡ (by_tests (cut m) bytes (ready m) (table_fits bytes)).answer =
    G.answer ∙ ap (λ (t : Bool). (by_tests (cut m) bytes t (table_fits bytes)).answer) (ready-cut m) in
    let w = by (ready m) (table_fits bytes) e a in
    record { memory = w.0; answer = w.1 }
  where
    by : (t u : Bool) → cut m' ≡ (by_tests (cut m) bytes t u).memory → y ≡ (by_tests (cut m) bytes t u).answer
        → (m' ≡ (by_tests m bytes t u).memory) × (y ≡ (by_tests m bytes t u).answer)
    by true u e a = (whole m m' rest m refl e, a)
    by false true e a = (whole m m' rest (with_hub m (with_table m.hub bytes)) refl e, a)
    by false false e a = (whole m m' rest m refl e, a)

-- so what the code answers and leaves with the first 2048 slots is right for the whole row
pub does_whole : (m m' : Memory) (given : Given) (b : List ℕ) (y : Answer) → Sized m → Bytes b
    → y ≡ (done_of (cut m) given b).answer → cut m' ≡ (done_of (cut m) given b).memory → drop 2048 m'.slots ≡ drop 2048 m.slots → Does m given b y m'
does_whole m m' given b y Z bytes a l rest =
    does_cut m m' given b y Z (rw (a, l) (does (cut m) given b (sized_cut m Z) bytes)) rest

------------------------------------------------------------------------
-- The contract with the whole row is the contract with the first 2048 slots

module _ (m m' : Memory) (given : Given) (b : List ℕ) (y : Answer) (Z : Sized m) (D : Does m given b y m') where
  left_uncut : {s : Store} → Left s (cut m) → Left s m
  left_uncut {s} L =
      let few = left_few L.store in
      record { store = L.store; begins = L.begins; laid = whole m m refl (write s m) (write-rest s few m) (L.laid ∙ sym (write-cut s few m)) }

  cut-written : (h₀ h : Model.Hub) → FewIn h → m' ≡ write_hub h₀ h m → cut m' ≡ write_hub h₀ h (cut m)
  cut-written h₀ (blank row) f e = ap cut e
  cut-written h₀ (up s) f e = ap cut e ∙ write-cut s f (with_hub m (next_hub h₀ s m.hub))

  blank_uncut : ready (cut m) ≡ false → AsModel (blank (lent_in (cut m))) (cut m) (exchange_of given b y ∷ []) (cut m')
  blank_uncut e =
      let A = D.as_model (blank (lent (cut m) given m.slots)) (sym (ready-cut m) ∙ e, refl) in
      let L = apply-cut (cut m) given m.slots b in
      let a : Applied = apply (in_force given) (blank (lent (cut m) given m.slots)) b in
      as_model_lem (cut m) (cut m') (sized_cut m Z) given (blank (lent' (cut m) given m.slots)) b y (e, refl)
      (cut-written (blank (lent (cut m) given m.slots)) a.hub L.few (one_memory A) ∙ sym L.memory) (one_answer A ∙ sym L.answer)

  as_model_uncut : (h : Model.Hub) → Holds h (cut m) → AsModel h (cut m) (exchange_of given b y ∷ []) (cut m')
  as_model_uncut (blank l) H =
      subst (λ (q : Model.Lent). AsModel (blank q) (cut m) (exchange_of given b y ∷ []) (cut m')) (sym H.1) (blank_uncut H.0)
  as_model_uncut (up s) L =
      let A = D.as_model (up s) (left_uncut L) in
      let N = left_next L.store (under (in_force given) b) in
      let f : FewIn (apply (in_force given) (up s) b).hub = subst FewIn (sym N.1) (left_few N.2) in
      as_model_lem (cut m) (cut m') (sized_cut m Z) given (up s) b y L (cut-written (up s) (apply (in_force given) (up s) b).hub f (one_memory A)) (one_answer A)

  ends_uncut : (t : Bool) (d : Decoded) (k : Option ℕ) → EndsBy t m d k m' → EndsBy t (cut m) d k (cut m')
  ends_uncut t d none E = tt
  ends_uncut t d (some k) E =
      let same = takes-cut m m refl t d in
      record { number = rw same E.number; leaves = by (takes_step_in t (cut m) d) (E.leaves ∙ rw (← same)) }
    where
      by : (u : Bool) → m' ≡ cond u (idled_in m d) m → cut m' ≡ cond u (idled_in (cut m) d) (cut m)
      by true e = ap cut e ∙ sym (idled-cut m m refl d)
      by false e = ap cut e

  pub does_uncut : Does (cut m) given b y (cut m')
  does_uncut =
      let E = D.on_any in
      record {
        as_model = as_model_uncut;
        on_any =
            subst (λ (t : Bool). OnAny t (cut m) b y (cut m')) (sym (ready-cut m))
            (record {
              ends = ends_uncut (ready m) (decode b) (said (answer_of y)).refusal E.ends;
              reading = λ k d. ((E.reading k d).0, ap cut (E.reading k d).1);
              nine = E.nine;
            });
      }
