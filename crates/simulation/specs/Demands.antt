-- The demands, H6.1 to H6.3, of what the code answers and leaves, for every list of calls. This is the statement to read first.
-- Demand 1 and, call by call, demand 2 are parts of the contracts of the public functions, `Does`, `Applies` and `Gives`; the rest is proved in
-- proofs/Demands.antt from these contracts alone.
use Rattle.std.specs.Prelude.{◌≡◌, true, false, ◌⊎◌, List, [], ◌∷◌, ◌++◌, map, ℕ, ◌%◌, ◌≤◌, length}
use Rattle.model.specs.Store.{Content, Store, Hub, blank, up, up_from}
use Rattle.model.specs.Rules.{Given, of_totals, document01, in_force, Ruled, all_under}
use Rattle.model.specs.Answer.{Ok, No, said}
use Rattle.model.specs.Record.{Sizes, SetUp, Asks, decode, records_of}
use Rattle.model.specs.Apply.{give_table, emptied, apply, apply_ruled, answers_to}
use Rattle.model.specs.Demand.{events, Exchange, exchange, history, start_of, Demand3, rows_in}
use Rattle.model.specs.MonthEnd.{SameFigures}
use Rattle.values.specs.declared.Answer.{Answer}
use Rattle.values.specs.Meaning.{answer_of}
use Rattle.slots.specs.Slots.{slot_of}
use Rattle.queue.specs.State.{Begins}
use Rattle.simulation.specs.Memory.{Memory, lent_in, write, cut}
use Rattle.simulation.specs.Left.{LeftUnder, Left, Sized, ready}
use Rattle.simulation.specs.Holds.{Holds, Decided, sent, AsModel}
use Rattle.simulation.specs.Public.{exchange_of, Does}
use Rattle.simulation.specs.Records.{records_in}
use Rattle.simulation.specs.Tables.{Gives, emptied_in}
use Rattle.simulation.specs.Buffer.{exchange_at, Applies}

------------------------------------------------------------------------
-- Calls one after the other

-- a call, by what it asks: what it was lent and gave back beside the memory, and the memory after it
pub data CallIn : Type 0 where
  -- one record: what was given for a setup, the record, its answer
  ForRecord : Given → List ℕ → Answer → Memory → CallIn
  -- records: what was given for a setup, the bytes, the two rows before it, how many records it applied, the rows after it
  ForRecords : Given → List ℕ → List ℕ → List ℕ → ℕ → List ℕ → List ℕ → Memory → CallIn
  -- a table of rights: its bytes, its answer
  ForTable : List ℕ → Answer → Memory → CallIn

abbrev pub left_by : CallIn → Memory
left_by (ForRecord given b y m) = m
left_by (ForRecords given bytes kinds numbers n kinds' numbers' m) = m
left_by (ForTable bytes y m) = m

-- the call, on memory m, did what its contract says
abbrev pub Called : Memory → CallIn → Type 0
Called m (ForRecord given b y m') = Does m given b y m'
Called m (ForRecords given bytes kinds numbers n kinds' numbers' m') = Applies m given bytes kinds numbers n m' kinds' numbers'
Called m (ForTable bytes y m') = Gives m bytes y m'

-- A table among other calls is one that is refused, as every table after a setup is (`late` below). One that is accepted changes memory that is not set
-- up (`table` below): a list of calls begins behind it.
abbrev pub Among : CallIn → Type 0
Among (ForRecord given b y m) = Unit {0}
Among (ForRecords given bytes kinds numbers n kinds' numbers' m) = Unit {0}
Among (ForTable bytes y m) = (said (answer_of y)).ok ≡ false

-- Calls in any mix, the first on memory m: each is lent the memory as the one before left it, and nobody else writes to it (H6.5).
unfoldable pub Calls : Memory → List CallIn → Type 0
Calls m [] = Unit {0}
Calls m (c ∷ cs) = Called m c × Among c × Calls (left_by c) cs

-- the memory after them
unfoldable pub left_by_all : Memory → List CallIn → Memory
left_by_all m [] = m
left_by_all m (c ∷ cs) = left_by_all (left_by c) cs

-- what was sent and answered, in a call and in a list of them; a table is no record
abbrev pub exchanged : CallIn → List Exchange
exchanged (ForRecord given b y m) = exchange_of given b y ∷ []
exchanged (ForRecords given bytes kinds numbers n kinds' numbers' m) = map (exchange_at given bytes kinds' numbers') (up_from 0 n)
exchanged (ForTable bytes y m) = []

unfoldable pub exchanges : List CallIn → List Exchange
exchanges [] = []
exchanges (c ∷ cs) = exchanged c ++ exchanges cs

-- what a call was given for a setup, its bytes, and that it applied all records of them; a table has none
abbrev pub given_in : CallIn → Given
given_in (ForRecord given b y m) = given
given_in (ForRecords given bytes kinds numbers n kinds' numbers' m) = given
given_in (ForTable bytes y m) = of_totals []

abbrev pub bytes_in : CallIn → List ℕ
bytes_in (ForRecord given b y m) = b
bytes_in (ForRecords given bytes kinds numbers n kinds' numbers' m) = bytes
bytes_in (ForTable bytes y m) = bytes

abbrev pub AppliedAll : CallIn → Type 0
AppliedAll (ForRecord given b y m) = (1 ≤ length b) × (length b ≤ 16)
AppliedAll (ForRecords given bytes kinds numbers n kinds' numbers' m) = n ≡ records_in bytes
AppliedAll (ForTable bytes y m) = ⊥

-- The calls, all given the same for a setup, apply a file part by part: each part but the last is whole records.
unfoldable pub InParts : Given → List CallIn → List ℕ → Type 0
InParts given [] file = file ≡ []
InParts given (c ∷ cs) file =
    AppliedAll c
    × (given_in c ≡ given)
    × (rest : List ℕ) × (file ≡ bytes_in c ++ rest) × ((length (bytes_in c) % 16 ≡ 0) ⊎ (rest ≡ []))
    × InParts given cs rest

------------------------------------------------------------------------
-- The demands

-- In what was sent and answered a setup of the bytes b, with what was given for it, was accepted, after es and before fs.
pub record Accepts (l es : List Exchange) (given : Given) (b : List ℕ) (fs : List Exchange) : Type 0 where
  pub sizes : Sizes
  pub setup : decode b ≡ Asks (SetUp sizes)
  pub place : l ≡ es ++ (record { given = given; bytes = b; answer = Ok } ∷ fs)

-- Demand 3 of records after an accepted setup, which left the hub h, with `start` in its registers: first `old`, each under its own rules, then those of calls, es. What the
-- code answered is what the model answers, and of the model's events demand 3 holds: there is one order of the operations in which every
-- finished get, read and total showed what plain registers show, nothing needed is freed, and nothing is freed twice.
pub record CodeDemand3 (h : Hub) (start : ℕ → Content) (old : List Ruled) (es : List Exchange) : Type 0 where
  pub answers : map exchange (events h (old ++ sent es)) ≡ map exchange (events h old) ++ es
  pub demand : Demand3 (rows_in h) start (events h (old ++ sent es))

-- H7.10: what holds of the calls cs on the memory m of a store s that records left under document 01's rules, E, before the first change
-- request, whatever was given with its setup.
pub record OnEarlier (given : Given) (s : Store) (m : Memory) (E : LeftUnder (document01 given) s) (cs : List CallIn) : Type 0 where
  -- it is memory that records left, so the contracts say of it what they say of any
  pub left : Left s m
  -- the calls do what the model does under the rules in force (demand 2),
  pub demand2 : AsModel (up s) m (exchanges cs) (left_by_all m cs)
  -- and with the records before them, under the earlier rules, they have demand 3
  pub demand3 : CodeDemand3 (apply (document01 given) (emptied E.row) E.setup).hub (start_of given) (all_under (document01 given) E.records)
      (exchanges cs)

pub record Demands : Type 0 where
  -- Demand 2 of calls in any mix.
  pub demand2 : (h : Hub) (m : Memory) (cs : List CallIn) → Holds h m → Calls m cs → AsModel h m (exchanges cs) (left_by_all m cs)
  -- So the same records are answered the same and leave the same memory, one by one, in one buffer or in several (H8.8).
  pub any_calls : (m : Memory) (cs ds : List CallIn) → Decided m → Calls m cs → Calls m ds → sent (exchanges cs) ≡ sent (exchanges ds)
      → (exchanges cs ≡ exchanges ds) × (left_by_all m cs ≡ left_by_all m ds)
  -- The answers to a file are those of the model's log of it.
  pub log : (h : Hub) (m : Memory) (cs : List CallIn) (given : Given) (file : List ℕ) → Holds h m → Calls m cs → InParts given cs file
      → map (λ e. e.answer) (exchanges cs) ≡ answers_to h (all_under (in_force given) (records_of file))
  -- Of a row of more than 2048 slots a call for one record keeps to the first 2048 (H8.7).
  pub first_slots : (m m' : Memory) (given : Given) (b : List ℕ) (y : Answer) → Sized m → Does m given b y m' → Does (cut m) given b y (cut m')
  -- Memory that records left counts as set up (H8.5).
  pub left_is_ready : (s : Store) (m : Memory) → Left s m → Sized m → ready m ≡ true
  -- Memory, whoever left it, on which a call accepts a setup did not count as set up.
  pub from_setup : (m : Memory) (c : CallIn) → Called m c → (es fs : List Exchange) (given : Given) (b : List ℕ) → Accepts (exchanged c) es given b fs → ready m ≡ false
  -- Demand 3, from any memory on: of a setup that was accepted at any record of any call, and of all records after it.
  pub demand3 : (m : Memory) (cs ds : List CallIn) (c : CallIn) → Calls m (cs ++ (c ∷ ds))
      → (es fs : List Exchange) (given : Given) (b : List ℕ) → Accepts (exchanged c) es given b fs
      → CodeDemand3 (apply (in_force given) (blank (lent_in (left_by_all m cs))) b).hub (start_of given) [] (fs ++ exchanges ds)
  -- Demand 3 of the records that left the memory, under whatever rules, and of the calls after them.
  pub demand3_left : (s : Store) (m : Memory) (cs : List CallIn) (L : Left s m) → Calls m cs
      → CodeDemand3 (apply_ruled (blank L.store.row) L.store.setup).hub (start_of L.store.setup.rules.given) L.store.records (exchanges cs)
  -- What billing may rely on (H13.10), wherever demand 3 holds of what was sent and answered: two marked reads of one register and one mark,
  -- between which the mark was not released, have the same answer.
  pub month_end : (h : Hub) (start : ℕ → Content) (old : List Ruled) (es : List Exchange) → CodeDemand3 h start old es
      → SameFigures (history 0 (map exchange (events h old) ++ es) [])
  -- H15.8: a table of any bytes, given to memory that holds a hub: the model's answer, and the memory then holds the model's hub.
  pub table : (h : Hub) (m m' : Memory) (bytes : List ℕ) (y : Answer) → Holds h m → Sized m → Gives m bytes y m'
      → (answer_of y ≡ (give_table h bytes).answer) × Holds (give_table h bytes).hub m'
  -- On memory that records left it gets 9 and changes nothing, so tables may come between any of the calls above.
  pub late : (s : Store) (m m' : Memory) (bytes : List ℕ) (y : Answer) → Left s m → Sized m → Gives m bytes y m'
      → (answer_of y ≡ No 9) × (m' ≡ m)
  -- H15.10: emptied memory holds a hub that is not set up, without a table.
  pub empty : (m : Memory) → Holds (emptied (map slot_of m.slots)) (emptied_in m)
  -- Memory that records left before the first change request (H7.10).
  pub earlier : (given : Given) (s : Store) (m : Memory) (E : LeftUnder (document01 given) s) (cs : List CallIn) → Begins m.hub.window → m ≡ write s m → Calls m cs
      → OnEarlier given s m E cs
