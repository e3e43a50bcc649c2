-- The demands of the code, for a list of calls, from the contracts alone. Each call does what the model does with its records, on memory that holds
-- a hub of the model, and leaves memory that holds the next hub. So all calls together do what the model does, and demand 3 holds of the model.
use mathlib.Core.Path.{◌≡◌, refl, sym, ap, ◌∙◌, subst}
use mathlib.Core.Bool.{Bool, true, false, true≢false, ◌||◌}
use mathlib.Core.Logic.{inl, inr}
use mathlib.Core.List.{List, [], ◌∷◌, ◌++◌, map, append_assoc}
use Prim.Native.Nat.{ℕ, zero, suc, ◌<◌}
use native.Mathlib.Omega.{arith}
use lib.ListN.{length, get_or, length-append, length-map, get_or-map}
use lib.Seq.{get_or-append_seam}
use Rattle.lists.specs.Over.{over}
use Rattle.lists.proofs.Over.{get_d_over_in}
use Rattle.model.specs.Store.{Store, Hub, blank, up, up_from}
use Rattle.model.specs.Answer.{Answer, Ok, said}
use Rattle.model.specs.Record.{Sizes, SetUp, Asks, decode}
use Rattle.model.specs.Rules.{Given, document01, in_force, under, all_under}
use Rattle.model.specs.Apply.{apply, hub_after, answers_to}
use Rattle.model.specs.Demand.{Event, events, Exchange, exchange, history, start_of, rows_in}
use Rattle.model.specs.MonthEnd.{SameFigures}
use Rattle.model.proofs.Batch.{allowed}
use Rattle.theorem.proofs.MonthEnd.{month_end_lem}
use Rattle.theorem.proofs.Main.{answers-of_events}
use Rattle.values.specs.Meaning.{answer_of}
use Rattle.values.specs.declared.Answer as Code
use Rattle.values.specs.declared.Answer.TheVariants as Is
use Rattle.answers.specs.Numbers.{kind_of, number_of, answer_from}
use Rattle.answers.proofs.Faithful.{faithful}
use Rattle.queue.specs.State.{Begins}
use Rattle.model.specs.Rights.{each_of, table_stands}
use Rattle.simulation.specs.Memory.{Memory, lent_in, write}
use Rattle.simulation.proofs.Rights.{standing-stands}
use Rattle.simulation.proofs.Tables.{table, late, empty, refused_kept}
use Rattle.simulation.specs.Left.{LeftUnder, Left, ready}
use Rattle.simulation.specs.Holds.{Holds, Decided, sent, AsModel}
use Rattle.simulation.specs.Public.{OnAny, exchange_of}
use Rattle.simulation.specs.Records.{record_at}
use Rattle.simulation.specs.Buffer.{exchange_at, sets_up, EachOnAny}
use Rattle.simulation.specs.Demands.{CallIn, ForRecord, ForRecords, ForTable, left_by, Called, Among, Calls, left_by_all, exchanged, exchanges}
use Rattle.simulation.specs.Demands.{Accepts, CodeDemand3, OnEarlier, Demands}
use Rattle.simulation.proofs.Below.{map-long, at_below}
use Rattle.simulation.proofs.Parts.{parts-records}
use Rattle.simulation.proofs.Again.{BlankOrLeft}
use Rattle.simulation.proofs.Assembly.{left_ready}
use Rattle.simulation.proofs.Cut.{does_uncut}
use Rattle.simulation.proofs.Compose.{nothing_sent, both_sent, same_sent, behind_setup, behind_records}

------------------------------------------------------------------------
-- Memory on which a setup is accepted

-- an answer that is read from its numbers is `ok` just where it is
ok_back : (y : Code.Answer) → (said (answer_of (answer_from (kind_of y) (number_of y)))).ok ≡ (said (answer_of y)).ok
ok_back Is.Ok = refl
ok_back Is.Going = refl
ok_back (Is.Freed c) = refl
ok_back (Is.At t) = refl
ok_back (Is.Value x) = ap (λ (y : Code.Answer). (said (answer_of y)).ok) (faithful (Is.Value x) tt)
ok_back Is.None = refl
ok_back (Is.Below x) = ap (λ (y : Code.Answer). (said (answer_of y)).ok) (faithful (Is.Below x) tt)
ok_back Is.Done = refl
ok_back (Is.No k) = refl

-- a record on memory that counts as set up does not set it up
no_setup : (t : Bool) (m m' : Memory) (b : List ℕ) (y : Code.Answer) → OnAny t m b y m' → (z : Sizes) → decode b ≡ Asks (SetUp z)
    → (said (answer_of y)).ok ≡ true → t ≡ true → ⊥
no_setup t m m' b y D z d ok e = true≢false (sym ok ∙ ap (λ a. (said a).ok) (D.nine e z d))

-- nor does record k of a list
no_setup_at : (t : Bool) (m m' : Memory) (bs : List (List ℕ)) (ys : List Code.Answer) → EachOnAny t m bs ys m'
    → (k : ℕ) → k < length bs → (z : Sizes) → decode (get_or bs k []) ≡ Asks (SetUp z)
    → (k < length ys) × ((said (answer_of (get_or ys k Is.Ok))).ok ≡ true → t ≡ true → ⊥)
unfolding EachOnAny
no_setup_at t m m' [] ys E k h z d = absurd (omega (arith, h))
no_setup_at t m m' (b ∷ bs) [] E k h z d = absurd E
no_setup_at t m m' (b ∷ bs) (y ∷ ys) (x, D, E) zero h z d = (omega arith, no_setup t m x b y D z d)
no_setup_at t m m' (b ∷ bs) (y ∷ ys) (x, D, E) (suc k) h z d =
    let s : Bool = sets_up (decode b) (said (answer_of y)).ok in
    let R = no_setup_at (t || s) x m' bs ys E k (omega (arith, h)) z d in
    (omega (arith, R.0), λ ok e. R.1 ok (ap (λ (u : Bool). u || s) e))

unless-up : (t : Bool) → (t ≡ true → ⊥) → t ≡ false
unless-up true f = absurd (f refl)
unless-up false f = refl

-- it is the memory of a hub that is not set up, with the row that is lent
not_ready : (m : Memory) → (ready m ≡ true → ⊥) → ready m ≡ false
not_ready m f = unless-up (ready m) f

-- an exchange stands where it stands in the list
module _ (l es fs : List Exchange) (x : Exchange) (e : l ≡ es ++ (x ∷ fs)) where
  stands : get_or l (length es) x ≡ x
  stands = ap (λ (q : List Exchange). get_or q (length es) x) e ∙ get_or-append_seam es x fs x

  within : length es < length l
  within = omega (arith, ap length e, length-append es (x ∷ fs))

from_setup_lem : (m : Memory) (c : CallIn) → Called m c → (es fs : List Exchange) (given : Given) (b : List ℕ) → Accepts (exchanged c) es given b fs → ready m ≡ false
from_setup_lem m (ForRecord l₀ b₀ y m') D es fs given b S =
    let x : Exchange = record { given = given; bytes = b; answer = Ok } in
    let l : List Exchange = exchange_of l₀ b₀ y ∷ [] in
    let first : 0 ≡ length es = omega (arith, within l es fs x S.place) in
    let is : exchange_of l₀ b₀ y ≡ x = ap (λ (k : ℕ). get_or l k x) first ∙ stands l es fs x S.place in
    not_ready m
    (no_setup (ready m) m m' b₀ y D.on_any S.sizes (ap (λ (q : Exchange). decode q.bytes) is ∙ S.setup)
    (ap (λ (q : Exchange). (said q.answer).ok) is))
from_setup_lem m (ForRecords l₀ bytes kinds numbers n kinds' numbers' m') A es fs given b S =
    let x : Exchange = record { given = given; bytes = b; answer = Ok } in
    let f : ℕ → Exchange = exchange_at l₀ bytes kinds' numbers' in
    let k : ℕ = length es in
    let ys : List Code.Answer = A.answers in
    let h : k < n = omega (arith, within (map f (up_from 0 n)) es fs x S.place, map-long f n) in
    let is : f k ≡ x = sym (at_below f x n k h) ∙ stands (map f (up_from 0 n)) es fs x S.place in
    let long : k < length (map (record_at bytes) (up_from 0 n)) = omega (arith, h, map-long (record_at bytes) n) in
    let is-record : get_or (map (record_at bytes) (up_from 0 n)) k [] ≡ b = at_below (record_at bytes) [] n k h ∙ ap (λ (q : Exchange). q.bytes) is in
    let N = no_setup_at (ready m) m m' (map (record_at bytes) (up_from 0 n)) ys A.on_any k long S.sizes (ap decode is-record ∙ S.setup) in
    let kind : get_or kinds' k 0 ≡ kind_of (get_or ys k Is.Ok) = at_row kind_of refl ys kinds kinds' k N.0 A.answer_kinds in
    let number : get_or numbers' k 0 ≡ number_of (get_or ys k Is.Ok) = at_row number_of refl ys numbers numbers' k N.0 A.answer_numbers in
    not_ready m (N.1
    (sym (ok_back (get_or ys k Is.Ok))
    ∙ sym (λ i. (said (answer_of (answer_from (kind i) (number i)))).ok)
    ∙ ap (λ (q : Exchange). (said q.answer).ok) is))
  where
    at_row : (g : Code.Answer → ℕ) → g Is.Ok ≡ 0 → (ys : List Code.Answer) (l l' : List ℕ) (k : ℕ) → k < length ys → l' ≡ over (map g ys) l
        → get_or l' k 0 ≡ g (get_or ys k Is.Ok)
    at_row g z ys l l' k h e =
        ap (λ (q : List ℕ). get_or q k 0) e
        ∙ get_d_over_in (map g ys) l k 0 (omega (arith, h, length-map ys g))
        ∙ ap (λ (o : ℕ). get_or (map g ys) k o) (sym z)
        ∙ get_or-map g ys k Is.Ok
from_setup_lem m (ForTable bytes y m') G es fs given b S =
    absurd (omega (arith, within [] es fs (record { given = given; bytes = b; answer = Ok }) S.place))

------------------------------------------------------------------------
-- All calls together

held : (h : Hub) (m : Memory) → Holds h m → BlankOrLeft (lent_in m) h
held (blank row) m H = inl (ap blank H.1)
held (up s) m L = inr (s, refl, L.store)

call_as_model : (h : Hub) (m : Memory) (c : CallIn) → Holds h m → Called m c → Among c → AsModel h m (exchanged c) (left_by c)
call_as_model h m (ForRecord given b y m') H D n = D.as_model h H
call_as_model h m (ForRecords given bytes kinds numbers k kinds' numbers' m') H A n = A.as_model h H
call_as_model h m (ForTable bytes y m') H G n = subst (AsModel h m []) (sym (refused_kept m m' bytes y G n)) (nothing_sent h m H)

calls_as_model : (h : Hub) (m : Memory) (cs : List CallIn) → Holds h m → Calls m cs → AsModel h m (exchanges cs) (left_by_all m cs)
unfolding Calls exchanges left_by_all
calls_as_model h m [] H C = nothing_sent h m H
calls_as_model h m (c ∷ cs) H C =
    let A = call_as_model h m c H C.0 C.1 in
    both_sent h m (left_by c) (left_by_all (left_by c) cs) (exchanged c) (exchanges cs) A
    (calls_as_model (hub_after h (sent (exchanged c))) (left_by c) cs A.holds C.2)

map-exchange : (es : List Event) → map (λ (e : Exchange). e.answer) (map exchange es) ≡ map (λ (e : Event). e.answer) es
map-exchange [] = refl
map-exchange (e ∷ es) = ap (λ (l : List Answer). e.answer ∷ l) (map-exchange es)

-- the calls behind the first ones
calls_behind : (m : Memory) (cs ds : List CallIn) → Calls m (cs ++ ds) → Calls (left_by_all m cs) ds
unfolding Calls left_by_all
calls_behind m [] ds C = C
calls_behind m (c ∷ cs) ds C = calls_behind (left_by c) cs ds C.2

-- demand 3 of a setup in the first call
first_setup : (m : Memory) (c : CallIn) (ds : List CallIn) → Calls m (c ∷ ds) → (es fs : List Exchange) (given : Given) (b : List ℕ) → Accepts (exchanged c) es given b fs
    → CodeDemand3 (apply (in_force given) (blank (lent_in m)) b).hub (start_of given) [] (fs ++ exchanges ds)
unfolding Calls exchanges
first_setup m c ds C es fs given b S =
    let D : Decided m = (blank (lent_in m), (from_setup_lem m c C.0 es fs given b S, refl)) in
    let x : Exchange = record { given = given; bytes = b; answer = Ok } in
    let whole : exchanges (c ∷ ds) ≡ es ++ (x ∷ (fs ++ exchanges ds)) =
    ap (λ (l : List Exchange). l ++ exchanges ds) S.place ∙ append_assoc es (x ∷ fs) (exchanges ds) in
    behind_setup (lent_in m) D.0 es (fs ++ exchanges ds) given b S.sizes (standing-stands m.hub) (held D.0 m D.1)
    (subst (λ (l : List Exchange). l ≡ map exchange (events D.0 (sent l))) whole (calls_as_model D.0 m (c ∷ ds) D.1 C).answers) S.setup

-- memory from before the first change request
on_earlier : (given : Given) (s : Store) (m : Memory) (E : LeftUnder (document01 given) s) (cs : List CallIn) → Begins m.hub.window → m ≡ write s m → Calls m cs
    → OnEarlier given s m E cs
unfolding table_stands each_of
on_earlier given s m E cs begins laid C =
    let L : Left s m =
    record {
      store =
          record {
            row = record { row = E.row; table = [] };
            setup = under (document01 given) E.setup;
            batch = allowed (document01 given) refl;
            table = refl;
            accepted = E.accepted;
            records = all_under (document01 given) E.records;
            left = E.left;
          };
      begins = begins;
      laid = laid;
    } in
    let A : AsModel (up s) m (exchanges cs) (left_by_all m cs) = calls_as_model (up s) m cs L C in
    record { left = L; demand2 = A; demand3 = behind_records s L.store (exchanges cs) A.answers }

pub demands : Demands
demands =
    record {
      demand2 = calls_as_model;
      log = λ h m cs given file H C F.
          ap (map (λ (e : Exchange). e.answer)) (calls_as_model h m cs H C).answers
          ∙ map-exchange (events h (sent (exchanges cs)))
          ∙ answers-of_events h (sent (exchanges cs))
          ∙ ap (answers_to h) (parts-records given cs file F);
      any_calls = λ m cs ds D C E.
          same_sent D.0 m (left_by_all m cs) (left_by_all m ds) (exchanges cs) (exchanges ds) (calls_as_model D.0 m cs D.1 C)
          (calls_as_model D.0 m ds D.1 E);
      first_slots = does_uncut;
      left_is_ready = λ s m L Z. left_ready m L Z;
      from_setup = from_setup_lem;
      demand3 = λ m cs ds c C. first_setup (left_by_all m cs) c ds (calls_behind m cs (c ∷ ds) C);
      demand3_left = λ s m cs L C. behind_records s L.store (exchanges cs) (calls_as_model (up s) m cs L C).answers;
      month_end = λ h start old es D.
          subst (λ (l : List Exchange). SameFigures (history 0 l [])) D.answers (month_end_lem (rows_in h) start (events h (old ++ sent es)) D.demand);
      table = table;
      late = late;
      empty = empty;
      earlier = on_earlier;
    }
