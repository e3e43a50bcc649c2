-- The figures of H11 (docs/HUB.md) in one table, the layout of a record, and the log example. They are proved in proofs/Cases.antt.
use Rattle.std.specs.Prelude.{◌≡◌, true, false, List, [], ◌∷◌, ◌++◌, map, ℕ, length, replicate, get_or, set}
use Rattle.model.specs.Totals.{group_of, sign_of, register_of}
use Rattle.model.specs.Store.{absent, mark_count, Range, Slot, slot₀, FlushRead, start_worker, Store, Lent, Hub, blank, up}
use Rattle.model.specs.Batch.{batch_of}
use Rattle.model.specs.Rules.{none_given, document01, in_force, Ruled, under}
use Rattle.model.specs.Answer.{Answer, Ok, Going, At, None, No}
use Rattle.model.specs.Ranges.{needed, merge}
use Rattle.model.specs.Steps.{flush_split}
use Rattle.model.specs.Record.{Put, Open, Read, Close, Get, Collect, Total, Mark, Release, MarkedRead, Command, SetUp, Begin, Step}
use Rattle.model.specs.Record.{Asks, Refuses, decode, rows_of}
use Rattle.model.specs.Apply.{hub_after, answers_to}
use Rattle.model.specs.Row.{bytes_of}
use Rattle.model.specs.Log.{text, log_of}

------------------------------------------------------------------------
-- The records of commands

unfoldable pub record_of : Command → List ℕ
record_of (SetUp z) =
    0 ∷ bytes_of 1 z.P ++ bytes_of 2 z.V' ++ bytes_of 2 z.N ++ replicate 2 0 ++ bytes_of 4 z.clock ++ replicate 4 0
record_of (Begin w (Put r x)) = 1 ∷ w ∷ bytes_of 2 r ++ bytes_of 1 x.status ++ replicate 3 0 ++ bytes_of 8 x.count
record_of (Begin w Open) = 2 ∷ w ∷ replicate 14 0
record_of (Begin w (Read r)) = 3 ∷ w ∷ bytes_of 2 r ++ replicate 12 0
record_of (Begin w Close) = 4 ∷ w ∷ replicate 14 0
record_of (Begin w (Get r)) = 5 ∷ w ∷ bytes_of 2 r ++ replicate 12 0
record_of (Begin w Collect) = 6 ∷ w ∷ replicate 14 0
record_of (Begin w (Total g)) = 8 ∷ w ∷ bytes_of 2 g ++ replicate 12 0
record_of (Begin w (Mark m)) = 9 ∷ w ∷ bytes_of 2 m ++ replicate 12 0
record_of (Begin w (Release m)) = 10 ∷ w ∷ bytes_of 2 m ++ replicate 12 0
record_of (Begin w (MarkedRead r m)) = 11 ∷ w ∷ bytes_of 2 r ++ bytes_of 1 m ++ replicate 11 0
record_of (Step w) = 7 ∷ w ∷ replicate 14 0

-- a command's record, handed in under the rules of docs/HUB.md and without a list
abbrev pub handed : Command → Ruled
handed c = under (in_force none_given) (record_of c)

-- and before the first change request
abbrev pub handed_before : Command → Ruled
handed_before c = under (document01 none_given) (record_of c)

abbrev pub setup : ℕ → ℕ → ℕ → ℕ → Command
setup p v n t = SetUp (record { P = p; V' = v; N = n; clock = t })

-- a put of a value with a status, and of one that was read
abbrev pub put_as : ℕ → ℕ → ℕ → ℕ → Command
put_as w r x k = Begin w (Put r (record { count = x; status = k }))

abbrev pub put : ℕ → ℕ → ℕ → Command
put w r x = put_as w r x 0

-- a row of so many slots is lent, and no table stands
abbrev pub row_alone : ℕ → Lent
row_alone n = record { row = replicate n slot₀; table = [] }

-- a hub that is not set up, with such a row
abbrev pub row_of : ℕ → Hub
row_of n = blank (row_alone n)

-- the answers to a list of commands
abbrev pub answers : ℕ → List Command → List Answer
answers n l = answers_to (row_of n) (map handed l)

------------------------------------------------------------------------
-- What a list of commands leaves

abbrev pub leaves : Hub → List Command → Hub
leaves h l = hub_after h (map handed l)

unfoldable pub clock_of : Hub → ℕ
clock_of (blank x) = 0
clock_of (up s) = s.clock

unfoldable pub slots_of : Hub → List Slot
slots_of (blank x) = x.row
slots_of (up s) = s.slots

------------------------------------------------------------------------
-- Ranges

abbrev pub range : ℕ → ℕ → ℕ → Range
range c l h = record { slot = c; low = l; high = h }

-- the ranges 3 to 5, 5 to 5, 5 to 6 and 2 to 9
abbrev pub four_ranges : List Range
four_ranges = range 0 3 5 ∷ range 1 5 5 ∷ range 2 5 6 ∷ range 3 2 9 ∷ []

-- a hub of two workers with B 2: the queue is empty, worker 1 has announced 1, and worker 0 has one range in its local pool
abbrev pub splitting : Store
splitting =
    record {
      site = record { P = 2; V' = 1; N = 9; B = 2; rows = []; table = [] };
      clock = 4;
      slots = replicate 9 slot₀;
      newest = 0 ∷ [];
      free = [];
      queue = [];
      workers =
          record { doing = FlushRead [] []; announced = absent; pool = range 8 0 3 ∷ [] }
          ∷ record { doing = start_worker.doing; announced = 1; pool = [] }
          ∷ [];
      marks = replicate mark_count absent;
    }

-- the lengths of the pools on its queue after worker 0 split so many ranges that the time 1 needs; its local pool is in the last
abbrev pub pools_after : ℕ → List ℕ
pools_after n = map length (flush_split splitting 0 (replicate n (range 0 1 2)) (absent ∷ 1 ∷ [])).store.queue

------------------------------------------------------------------------
-- The table

-- two workers announce at 5, both finish
abbrev pub both_open : List Command
both_open = setup 2 1 1 5 ∷ Begin 0 Open ∷ Begin 1 Open ∷ Step 0 ∷ Step 1 ∷ Step 0 ∷ Step 1 ∷ []

-- a put of 7 published at clock 5, unstamped; an open passes the clock to 6; that snapshot reads
abbrev pub unstamped_put : List Command
unstamped_put =
    setup 2 1 2 5 ∷ put 0 0 7 ∷ Step 0 ∷ Begin 1 Open ∷ Step 1 ∷ Step 1 ∷ Begin 1 (Read 0) ∷ Step 1 ∷ Step 1 ∷ Step 1 ∷ []

pub record Stars : Type 0 where
  -- H2.2: seventeen workers are too many, sixteen are not; one slot is too few for two registers
  pub workers-17 : answers 1 (setup 17 1 1 1 ∷ []) ≡ No 5 ∷ []
  pub workers-16 : answers 1 (setup 16 1 1 1 ∷ []) ≡ Ok ∷ []
  pub few_slots : answers 2 (setup 1 2 1 1 ∷ []) ≡ No 5 ∷ []
  -- H1.24
  pub batches : map batch_of (1 ∷ 2 ∷ 3 ∷ 4 ∷ 5 ∷ 8 ∷ 9 ∷ 16 ∷ []) ≡ 1 ∷ 2 ∷ 6 ∷ 8 ∷ 15 ∷ 24 ∷ 36 ∷ 64 ∷ []
  -- H1.22: with time 5 announced, and with none
  pub announced-5 : map (needed (absent ∷ 5 ∷ [])) four_ranges ≡ false ∷ false ∷ true ∷ true ∷ []
  pub none_announced : map (needed (absent ∷ absent ∷ [])) four_ranges ≡ false ∷ false ∷ false ∷ false ∷ []
  -- H1.23: on equal highs the first list's range goes first
  pub merged : merge (range 1 0 4 ∷ range 2 0 7 ∷ []) (range 3 0 4 ∷ range 4 0 6 ∷ [])
      ≡ range 1 0 4 ∷ range 3 0 4 ∷ range 4 0 6 ∷ range 2 0 7 ∷ []
  -- H5.20, H5.21, H5.22 with B 2
  pub five_needed : pools_after 5 ≡ 3 ∷ 2 ∷ 1 ∷ []
  pub four_needed : pools_after 4 ≡ 4 ∷ 1 ∷ []
  pub two_needed : pools_after 2 ≡ 3 ∷ []
  -- H5.32, H5.33: the last clock but one is announced, the last is not
  pub last-clock : answers 1 (setup 2 1 1 4294967294 ∷ Begin 0 Open ∷ Step 0 ∷ Step 0 ∷ Begin 1 Open ∷ Step 1 ∷ [])
      ≡ Ok ∷ Ok ∷ Going ∷ At 4294967294 ∷ Ok ∷ No 15 ∷ []
  -- H5.34: two opens of one time move the clock once
  pub both_at-5 : answers 1 both_open ≡ Ok ∷ Ok ∷ Ok ∷ Going ∷ Going ∷ At 5 ∷ At 5 ∷ []
  pub clock-6 : clock_of (leaves (row_of 1) both_open) ≡ 6
  -- H5.36, H5.37: the read stamps the put, at 6, and goes on to the version before
  pub older_shown : answers 2 unstamped_put ≡ Ok ∷ Ok ∷ Going ∷ Ok ∷ Going ∷ At 5 ∷ Ok ∷ Going ∷ Going ∷ None ∷ []
  pub low-6 : (get_or (slots_of (leaves (row_of 2) unstamped_put)) 1 slot₀).low ≡ 6

------------------------------------------------------------------------
-- The layout of a record, byte by byte: what nothing else here would show, since the commands above are written and read by the same offsets

-- a record of operation k whose byte i is 1 and whose other bytes are 0
abbrev pub flagged : ℕ → ℕ → List ℕ
flagged k i = set (k ∷ replicate 15 0) i 1

pub record Layout : Type 0 where
  pub put-bytes : decode (1 ∷ 2 ∷ 3 ∷ 4 ∷ 5 ∷ 0 ∷ 0 ∷ 0 ∷ 1 ∷ 2 ∷ 3 ∷ 4 ∷ 5 ∷ 6 ∷ 7 ∷ 8 ∷ [])
      ≡ Asks (Begin 2 (Put 1027 (record { count = 578437695752307201; status = 5 })))
  pub read_bytes : decode (3 ∷ 2 ∷ 3 ∷ 4 ∷ replicate 12 0) ≡ Asks (Begin 2 (Read 1027))
  pub get_bytes : decode (5 ∷ 2 ∷ 3 ∷ 4 ∷ replicate 12 0) ≡ Asks (Begin 2 (Get 1027))
  pub total_bytes : decode (8 ∷ 2 ∷ 3 ∷ 4 ∷ replicate 12 0) ≡ Asks (Begin 2 (Total 1027))
  pub mark_bytes : decode (9 ∷ 2 ∷ 3 ∷ 4 ∷ replicate 12 0) ≡ Asks (Begin 2 (Mark 1027))
  pub release_bytes : decode (10 ∷ 2 ∷ 3 ∷ 4 ∷ replicate 12 0) ≡ Asks (Begin 2 (Release 1027))
  pub marked_bytes : decode (11 ∷ 2 ∷ 3 ∷ 4 ∷ 5 ∷ replicate 11 0) ≡ Asks (Begin 2 (MarkedRead 1027 5))
  -- a row of the list: group 1, minus, register 770
  pub row-bytes : rows_of (0 ∷ 0 ∷ 5 ∷ 0 ∷ 1 ∷ 1 ∷ 2 ∷ 3 ∷ []) ≡ 327680 ∷ 50462977 ∷ []
  pub row_parts : (group_of 50462977 ≡ 1) × (sign_of 50462977 ≡ 1) × (register_of 50462977 ≡ 770)
  pub setup-bytes : decode (0 ∷ 1 ∷ 2 ∷ 3 ∷ 4 ∷ 5 ∷ 0 ∷ 0 ∷ 6 ∷ 7 ∷ 8 ∷ 9 ∷ 0 ∷ 0 ∷ 0 ∷ 0 ∷ [])
      ≡ Asks (SetUp (record { P = 1; V' = 770; N = 1284; clock = 151521030 }))
  -- the first and the last byte that an operation does not use
  pub first_unused : map decode (flagged 0 6 ∷ flagged 1 5 ∷ flagged 2 2 ∷ flagged 3 4 ∷ flagged 4 2 ∷ flagged 5 4 ∷ flagged 6 2 ∷ flagged 7 2
      ∷ flagged 8 4 ∷ flagged 9 4 ∷ flagged 10 4 ∷ flagged 11 5 ∷ [])
      ≡ replicate 12 (Refuses 2)
  pub last_unused : map decode (flagged 0 15 ∷ flagged 1 7 ∷ flagged 2 15 ∷ flagged 3 15 ∷ flagged 4 15 ∷ flagged 5 15 ∷ flagged 6 15 ∷ flagged 7 15
      ∷ flagged 8 15 ∷ flagged 9 15 ∷ flagged 10 15 ∷ flagged 11 15 ∷ [])
      ≡ replicate 12 (Refuses 2)
  pub setup-unused : map decode (flagged 0 7 ∷ flagged 0 12 ∷ []) ≡ replicate 2 (Refuses 2)
  -- 6 before 1 before 2; a seventeenth byte is not looked at
  pub refusal-order : map decode ([] ∷ replicate 15 255 ∷ replicate 16 255 ∷ flagged 12 2 ∷ [])
      ≡ Refuses 6 ∷ Refuses 6 ∷ Refuses 1 ∷ Refuses 1 ∷ []
  pub longer : decode (7 ∷ 3 ∷ replicate 14 0 ++ (9 ∷ [])) ≡ Asks (Step 3)

------------------------------------------------------------------------
-- The log example

-- The script of samples/example.txt: a put meets 14, and a collect frees a slot. It is document 01's, with one more step record in each flush.
abbrev pub example_commands : List Command
example_commands =
    (setup 1 1 2 1 ∷ put 0 0 7 ∷ replicate 8 (Step 0)) ++ (put 0 0 9 ∷ Step 0 ∷ Begin 0 Collect ∷ replicate 6 (Step 0))

-- one list after the other
unfoldable pub joined : List (List ℕ) → List ℕ
joined [] = []
joined (l ∷ ls) = l ++ joined ls

abbrev pub example_file : List ℕ
example_file = joined (map record_of example_commands)

abbrev pub example_text : List ℕ
example_text =
    text "0 ok\n1 ok\n2 going\n3 going\n4 going\n5 going\n6 going\n7 going\n8 going\n9 done\n10 ok\n"
    ++ text "11 no 14\n12 ok\n13 going\n14 going\n15 going\n16 going\n17 freed 0\n18 done\n"

-- over a row of two slots, the least that its setup needs
abbrev pub Example : Type 0
Example = log_of (in_force none_given) (row_alone 2) example_file ≡ example_text
