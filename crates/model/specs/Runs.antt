-- Runs with their logs, and for those in which two workers take turns the orders that demand 3 promises. They are proved by computation in
-- proofs/Cases.antt; each wrong step of must-fail/ would answer one of them otherwise.
use Rattle.std.specs.Prelude.{◌≡◌, List, [], ◌∷◌, ◌++◌, map, ℕ, replicate}
use Rattle.std.proofs.Math.Option.{Option, none, some}
use Rattle.model.specs.Store.{Reading, Content, Hub}
use Rattle.model.specs.Rules.{of_totals, document01, in_force, Ruled, under}
use Rattle.model.specs.Record.{Open, Read, Close, Get, Collect, Total, Mark, Release, MarkedRead, Command, Begin, Step}
use Rattle.model.specs.Answer.{Answer, Ok, Value, None, Below, Done, No}
use Rattle.model.specs.Apply.{give_table, apply_ruled, answers_to}
use Rattle.model.specs.Row.{Written, RowNone, RowNo, write_row}
use Rattle.model.specs.Log.{text, lines, log_of}
use Rattle.model.specs.Demand.{Event, exchange, events, Call, call_at, history, order, Plain, start_of, plain₀, feed, shows, rows_in}
use Rattle.model.specs.Cases.{record_of, handed, handed_before, setup, put_as, put, row_alone, row_of, joined}

-- the log of a list of commands, over a row of n slots, with the list of totals given
abbrev pub log_with : List ℕ → ℕ → List Command → List ℕ
log_with list n l = log_of (in_force (of_totals list)) (row_alone n) (joined (map record_of l))

abbrev pub log_for : ℕ → List Command → List ℕ
log_for n l = log_with [] n l

-- the order of the calls of the records after a setup; call i is the i-th that began, from 0
abbrev pub order_of : ℕ → Ruled → List Ruled → List ℕ
order_of n first l = order 0 (events (apply_ruled (row_of n) first).hub l) []

abbrev pub order_for : ℕ → Command → List Command → List ℕ
order_for n first l = order_of n (handed first) (map handed l)

-- What plain registers show each call along an order, if anything; each is fed to them before the next.
unfoldable pub shown_along : List ℕ → List Call → Plain → List ℕ → List (Option Answer)
shown_along rows h p [] = []
shown_along rows h p (i ∷ o) =
    let c = call_at h i in
    shows rows p c.worker c.operation ∷ shown_along rows h (feed p c.worker c.operation) o

-- along the order of the calls of the records after a setup
abbrev pub shown_in : List ℕ → (ℕ → Content) → List Event → List (Option Answer)
shown_in rows start es = shown_along rows (history 0 (map exchange es) []) (plain₀ start) (order 0 es [])

abbrev pub shown_of : ℕ → Ruled → List Ruled → List (Option Answer)
shown_of n first l =
    let h = (apply_ruled (row_of n) first).hub in
    shown_in (rows_in h) (start_of first.rules.given) (events h l)

-- a reading that was read
abbrev pub count : ℕ → Reading
count x = record { count = x; status = 0 }

-- handed in with a list of totals
abbrev pub with : List ℕ → Command → Ruled
with list c = under (in_force (of_totals list)) (record_of c)

abbrev pub steps : ℕ → ℕ → List Command
steps n w = replicate n (Step w)

-- A read of register 0 stands on a version that a collect frees, and a put of register 1 takes its slot. The read has moved to the older
-- version, and shows 4, the value at its snapshot's time.
abbrev pub moved_setup : Command
moved_setup = setup 2 2 6 1

abbrev pub moved_read : List Command
moved_read =
    (put 0 0 4 ∷ steps 3 0)
    ++ (put 0 1 5 ∷ steps 9 0)
    ++ (Begin 1 Open ∷ steps 2 1)
    ++ (put 0 0 7 ∷ steps 3 0)
    ++ (Begin 1 (Read 0) ∷ steps 1 1)
    ++ (put 0 0 9 ∷ steps 11 0)
    ++ (Begin 0 Collect ∷ steps 7 0)
    ++ (put 0 1 6 ∷ steps 1 0)
    ++ steps 1 1

-- A collect of worker 0 takes its pools, none, and reads the times and the marks. Then worker 1 opens a snapshot, covers the version that it needs and hands
-- it in. The collect frees nothing, and the snapshot still finds no reading.
abbrev pub late_setup : Command
late_setup = setup 2 1 4 1

abbrev pub late_pool : List Command
late_pool =
    (Begin 0 Collect ∷ steps 4 0)
    ++ (Begin 1 Open ∷ steps 2 1)
    ++ (put 1 0 7 ∷ steps 3 1)
    ++ (put 1 0 8 ∷ steps 9 1)
    ++ steps 2 0
    ++ (Begin 1 (Read 0) ∷ steps 4 1)

-- A put takes its first step; another worker opens a snapshot; its get stamps the put and shows it; its read shows the older value.
abbrev pub get_setup : Command
get_setup = setup 2 1 3 5

abbrev pub stamping_get : List Command
stamping_get =
    (put 0 0 7 ∷ steps 1 0)
    ++ (Begin 1 Open ∷ steps 2 1)
    ++ (Begin 1 (Get 0) ∷ steps 1 1)
    ++ (Begin 1 (Read 0) ∷ steps 3 1)
    ++ steps 2 0

-- A collect frees slot 0, a put of register 1 takes it, and the next put finds no slot: slot 0 was given back once.
abbrev pub freed_once : List Command
freed_once =
    (setup 1 2 3 1 ∷ put 0 0 1 ∷ steps 8 0)
    ++ (Begin 0 Collect ∷ steps 6 0)
    ++ (put 0 1 2 ∷ steps 8 0)
    ++ (put 0 1 3 ∷ steps 1 0)

-- Of three versions the middle one is freed and unlinked: a read at the snapshot's time passes from the newest to the oldest.
abbrev pub unlinked : List Command
unlinked =
    (setup 1 1 3 1 ∷ Begin 0 Open ∷ steps 2 0)
    ++ (put 0 0 1 ∷ steps 8 0)
    ++ (put 0 0 2 ∷ steps 8 0)
    ++ (Begin 0 Collect ∷ steps 6 0)
    ++ (Begin 0 (Read 0) ∷ steps 3 0)

-- Two flushes take turns, so that pools are queued and merged in an order that shows in the slot freed last.
abbrev pub pool_order : List Command
pool_order =
    (setup 2 2 5 1 ∷ put 1 0 1 ∷ steps 1 1)
    ++ (put 0 0 2 ∷ steps 1 0)
    ++ steps 1 1
    ++ steps 2 0
    ++ (Begin 0 Collect ∷ steps 1 1)
    ++ steps 1 0
    ++ (Begin 1 Collect ∷ steps 1 0)
    ++ steps 3 1
    ++ steps 3 0
    ++ steps 3 1
    ++ (Begin 1 Collect ∷ steps 6 1)

-- H7.9: the largest value and the one above it are put, by an idle worker and by a busy one, on a register and on one that is not there; and a
-- worker that is not there puts. The value above is refused after 3 and 4 and before 10; the largest one is stored and shown.
abbrev pub limits : List Command
limits =
    (setup 2 1 3 1 ∷ put 0 0 1000000000000 ∷ put 0 0 999999999999 ∷ [])
    ++ (put 0 0 1000000000000 ∷ put 0 1 1000000000000 ∷ put 2 0 1000000000000 ∷ put 0 0 1 ∷ [])
    ++ steps 3 0
    ++ (Begin 1 (Get 0) ∷ steps 1 1)

-- H7.10: before the rule worker 0 puts 1000000000000, and worker 1 begins a put of 1000000000001.
abbrev pub before_setup : Command
before_setup = setup 2 1 4 1

abbrev pub before_limit : List Command
before_limit = (put 0 0 1000000000000 ∷ steps 3 0) ++ (put 1 0 1000000000001 ∷ [])

-- After it a get and a read show the first, and the second put goes on. A new put of such a value is refused; a smaller one covers both, and
-- two collects free their slots, 1 and 2.
abbrev pub after_limit : List Command
after_limit =
    (Begin 0 (Get 0) ∷ steps 1 0)
    ++ (Begin 0 Open ∷ steps 2 0)
    ++ (Begin 0 (Read 0) ∷ steps 2 0)
    ++ (Begin 0 Close ∷ steps 1 0)
    ++ steps 3 1
    ++ (put 0 0 1000000000002 ∷ Begin 0 (Get 0) ∷ steps 1 0)
    ++ (put 0 0 5 ∷ steps 9 0)
    ++ (Begin 1 Collect ∷ steps 8 1)
    ++ (Begin 1 Collect ∷ steps 7 1)
    ++ (Begin 1 (Get 0) ∷ steps 1 1)

-- both lists, between which the rules change
abbrev pub changing : List Ruled
changing = map handed_before before_limit ++ map handed after_limit

-- H12: group 0 is registers 0 and 1 less register 2, group 2 is register 0 twice, group 3 is less register 1.
abbrev pub sums_list : List ℕ
sums_list =
    (0 ∷ 0 ∷ 0 ∷ 0 ∷ 0 ∷ 0 ∷ 1 ∷ 0 ∷ 0 ∷ 1 ∷ 2 ∷ 0 ∷ [])
    ++ (2 ∷ 0 ∷ 0 ∷ 0 ∷ 2 ∷ 0 ∷ 0 ∷ 0 ∷ 3 ∷ 1 ∷ 1 ∷ 0 ∷ [])

-- A total without a snapshot, two of groups without rows, one of a worker that is not there. Then a total goes along its rows while register 1
-- gets a newer reading, and is begun again on the way, as is one without rows; two more follow at the same time.
abbrev pub sums_setup : Command
sums_setup = setup 3 3 9 1

abbrev pub sums : List Command
sums =
    (Begin 0 (Total 0) ∷ Begin 0 (Total 1) ∷ Begin 0 (Total 32) ∷ Begin 3 (Total 1) ∷ [])
    ++ (put 0 0 5 ∷ steps 3 0)
    ++ (put 0 1 7 ∷ steps 3 0)
    ++ (put 0 2 20 ∷ steps 3 0)
    ++ (Begin 1 Open ∷ steps 2 1)
    ++ (Begin 1 (Total 0) ∷ steps 2 1)
    ++ (Begin 1 (Total 1) ∷ Begin 1 (Total 0) ∷ put 0 1 9 ∷ steps 3 0)
    ++ steps 5 1
    ++ (Begin 1 (Total 2) ∷ steps 4 1)
    ++ (Begin 1 (Total 3) ∷ steps 3 1)

-- A total of registers 0 and 1 stands on a version of register 0 that a collect frees, and a put of register 1 takes its slot. The total has moved
-- to the older version, and shows 4 and 5, the values at its snapshot's time. Its own step stamps that put, call 7.
abbrev pub moved_list : List ℕ
moved_list = 1 ∷ 0 ∷ 0 ∷ 0 ∷ 1 ∷ 0 ∷ 1 ∷ 0 ∷ []

abbrev pub moved_total : List Command
moved_total =
    (put 0 0 4 ∷ steps 3 0)
    ++ (put 0 1 5 ∷ steps 9 0)
    ++ (Begin 1 Open ∷ steps 2 1)
    ++ (put 0 0 7 ∷ steps 3 0)
    ++ (Begin 1 (Total 1) ∷ steps 1 1)
    ++ (put 0 0 9 ∷ steps 11 0)
    ++ (Begin 0 Collect ∷ steps 7 0)
    ++ (put 0 1 6 ∷ steps 1 0)
    ++ steps 4 1

-- H12.9: 1000000000000 was put before the limit. A total that comes to it is refused, its worker is idle then, and its snapshot stays: a read shows
-- that value.
abbrev pub over_list : List ℕ
over_list = 0 ∷ 0 ∷ 0 ∷ 0 ∷ 0 ∷ 0 ∷ 1 ∷ 0 ∷ []

abbrev pub over_setup : Ruled
over_setup = under (document01 (of_totals over_list)) (record_of (setup 2 2 6 1))

abbrev pub over : List Ruled
over =
    map handed_before (put 0 0 1000000000000 ∷ steps 3 0)
    ++ map handed ((Begin 1 Open ∷ steps 2 1) ++ (Begin 1 (Total 0) ∷ steps 3 1) ++ (Begin 1 (Read 0) ∷ steps 2 1))

-- H12.9: a total is refused for a value above the limit, not for a sum above it: twice 999999999999.
abbrev pub large_setup : Command
large_setup = setup 2 1 3 1

abbrev pub large : List Command
large = (put 0 0 999999999999 ∷ steps 3 0) ++ (Begin 1 Open ∷ steps 2 1) ++ (Begin 1 (Total 0) ∷ steps 4 1)

-- H12.2: a setup is refused with each of these lists, and accepted with the last: half a row; a group above 31; a sign above 1; a register that is
-- not there; a falling group; 33 rows of a group; 32 of them.
abbrev pub bad_lists : List (List ℕ)
bad_lists =
    (0 ∷ 0 ∷ [])
    ∷ (32 ∷ 0 ∷ 0 ∷ 0 ∷ [])
    ∷ (0 ∷ 2 ∷ 0 ∷ 0 ∷ [])
    ∷ (0 ∷ 0 ∷ 3 ∷ 0 ∷ [])
    ∷ (1 ∷ 0 ∷ 0 ∷ 0 ∷ 0 ∷ 0 ∷ 0 ∷ 0 ∷ [])
    ∷ replicate 132 0
    ∷ replicate 128 0
    ∷ []

-- H13: an export marks its time and closes. Puts and a collect follow, which frees slot 0 and keeps what the mark needs; a marked read shows 5 still,
-- the value at the mark's time. Once the mark is released a collect frees the two versions behind the newest.
abbrev pub month_setup : Command
month_setup = setup 2 1 4 1

abbrev pub month_end : List Command
month_end =
    (put 0 0 5 ∷ steps 3 0)
    ++ (Begin 1 Open ∷ steps 2 1)
    ++ (Begin 1 (Mark 3) ∷ steps 1 1)
    ++ (Begin 1 Close ∷ steps 1 1)
    ++ (put 0 0 7 ∷ steps 9 0)
    ++ (put 0 0 9 ∷ steps 3 0)
    ++ (Begin 0 Collect ∷ steps 7 0)
    ++ (Begin 1 (MarkedRead 0 3) ∷ steps 4 1)
    ++ (Begin 1 (Release 3) ∷ steps 1 1)
    ++ (Begin 0 Collect ∷ steps 8 0)

-- H13.6 to H13.8: 13, 4 and 20 at a begin; of two marks of one number the first holds, and the other is refused at its step; a marked read whose mark
-- is released before its first step; a release begun before a read's first step, and one begun after it, while the read runs; of two releases the
-- second.
abbrev pub mark_setup : Command
mark_setup = setup 3 1 2 1

abbrev pub mark_refusals : List Command
mark_refusals =
    (Begin 0 (Mark 0) ∷ Begin 0 (Mark 12) ∷ Begin 0 (Release 0) ∷ Begin 0 (MarkedRead 0 0) ∷ Begin 0 (MarkedRead 0 12) ∷ [])
    ++ (Begin 0 (MarkedRead 1 0) ∷ Begin 0 Open ∷ steps 2 0)
    ++ (Begin 1 Open ∷ steps 2 1)
    ++ (Begin 0 (Mark 0) ∷ Begin 1 (Mark 0) ∷ Step 1 ∷ Step 0 ∷ Begin 0 (Mark 0) ∷ [])
    ++ (Begin 2 (MarkedRead 0 0) ∷ Begin 0 (Release 0) ∷ Step 0 ∷ Step 2 ∷ Begin 2 (Release 0) ∷ [])
    ++ (Begin 0 (Mark 0) ∷ Step 0 ∷ Begin 1 (Release 0) ∷ Begin 2 (MarkedRead 0 0) ∷ Step 2 ∷ Step 1 ∷ Begin 1 (Release 0) ∷ Step 2 ∷ [])
    ++ (Begin 1 (Release 0) ∷ Begin 0 (Release 0) ∷ Step 1 ∷ Step 0 ∷ Step 0 ∷ [])

-- H13.2: a collect has read worker 0's time; then worker 1, whose time it has yet to read, marks that time and closes. The collect reads no time of
-- worker 1, and then the mark's: it frees slot 1, and a marked read shows `none`, from slot 0.
abbrev pub last_setup : Command
last_setup = setup 2 1 4 1

abbrev pub marks_last : List Command
marks_last =
    (Begin 1 Open ∷ steps 2 1)
    ++ (put 0 0 7 ∷ steps 3 0)
    ++ (put 0 0 8 ∷ steps 9 0)
    ++ (Begin 0 Collect ∷ steps 2 0)
    ++ (Begin 1 (Mark 0) ∷ steps 1 1)
    ++ (Begin 1 Close ∷ steps 1 1)
    ++ steps 5 0
    ++ (Begin 1 (MarkedRead 0 0) ∷ steps 3 1)

-- Registers that nobody has put anything to: a get, a read and a total of both registers. A put of 0 is a reading of 0, also while only its first
-- step is taken: a get stamps it and shows it, and a read at the snapshot's time goes on to the version from setup.
abbrev pub empty_setup : Command
empty_setup = setup 2 2 6 1

abbrev pub empty : List Command
empty =
    (Begin 0 (Get 0) ∷ steps 1 0)
    ++ (Begin 1 Open ∷ steps 2 1)
    ++ (put 0 0 0 ∷ steps 1 0)
    ++ (Begin 1 (Read 0) ∷ steps 3 1)
    ++ (Begin 1 (Total 1) ∷ steps 5 1)
    ++ steps 2 0
    ++ (Begin 0 (Get 0) ∷ steps 1 0)
    ++ (put 0 1 5 ∷ steps 1 0)
    ++ (Begin 1 (Get 1) ∷ steps 1 1)
    ++ (Begin 1 (Read 1) ∷ steps 3 1)

-- H15: worker 0 may put and read on both registers, mark on register 0 and collect, which a row gives for registers that are not there; worker 1 may
-- read register 1, which the total begins with. What either may not do is refused with 23, after 4 and 25 and before 10.
abbrev pub rights_table : List ℕ
rights_table =
    (0 ∷ 3 ∷ 0 ∷ 0 ∷ 1 ∷ 0 ∷ 0 ∷ 0 ∷ [])
    ++ (0 ∷ 8 ∷ 0 ∷ 0 ∷ 0 ∷ 0 ∷ 0 ∷ 0 ∷ [])
    ++ (0 ∷ 4 ∷ 200 ∷ 0 ∷ 255 ∷ 0 ∷ 0 ∷ 0 ∷ [])
    ++ (1 ∷ 2 ∷ 1 ∷ 0 ∷ 1 ∷ 0 ∷ 0 ∷ 0 ∷ [])

-- H15.8: tables that are refused: a part of a row, a worker above 15, rights above 15, a last register above 255, a first above the last, a last pair that
-- is not zero, by either byte, and 65 rows
abbrev pub refused_tables : List (List ℕ)
refused_tables =
    replicate 7 0
    ∷ (16 ∷ replicate 7 0)
    ∷ (0 ∷ 16 ∷ replicate 6 0)
    ∷ (0 ∷ 0 ∷ 0 ∷ 0 ∷ 0 ∷ 1 ∷ 0 ∷ 0 ∷ [])
    ∷ (0 ∷ 0 ∷ 2 ∷ 0 ∷ 1 ∷ 0 ∷ 0 ∷ 0 ∷ [])
    ∷ (replicate 6 0 ++ (1 ∷ 0 ∷ []))
    ∷ (replicate 6 0 ++ (0 ∷ 1 ∷ []))
    ∷ replicate 520 0
    ∷ []

abbrev pub rights_list : List ℕ
rights_list = 1 ∷ 0 ∷ 1 ∷ 0 ∷ 1 ∷ 0 ∷ 0 ∷ 0 ∷ []

abbrev pub rights_setup : Ruled
rights_setup = with rights_list (setup 2 2 6 1)

-- the hub before it, with that table
abbrev pub rights_hub : Hub
rights_hub = (give_table (row_of 6) rights_table).hub

abbrev pub rights : List Command
rights =
    (Begin 1 (Get 0) ∷ Begin 1 (Get 1) ∷ steps 1 1)
    ++ (Begin 0 (Get 1) ∷ steps 1 0)
    ++ (put 1 1 5 ∷ Begin 1 Collect ∷ Begin 0 Collect ∷ Begin 1 Open ∷ Begin 1 (Get 0) ∷ Begin 1 (Get 1) ∷ steps 2 1)
    ++ (Begin 1 (Total 1) ∷ Begin 1 (Read 1) ∷ steps 2 1)
    ++ (Begin 0 (Mark 0) ∷ Begin 1 (Get 2) ∷ put_as 1 1 5 3 ∷ [])

-- H16: register 0 holds 4, corrected, and register 1 holds 5, an estimate, at a snapshot. Then register 0 gets 7, read: a get shows that with its status,
-- a read at the snapshot 4 with its own, and a total of both the larger of its two statuses, which is the first. A status above 2 is refused after
-- 4 and 16 and before 10.
abbrev pub status_setup : Command
status_setup = setup 2 2 6 1

abbrev pub statuses : List Command
statuses =
    (put_as 0 0 4 2 ∷ steps 3 0)
    ++ (put_as 0 1 5 1 ∷ steps 9 0)
    ++ (Begin 1 Open ∷ steps 2 1)
    ++ (put_as 0 0 7 0 ∷ steps 3 0)
    ++ (Begin 1 (Get 0) ∷ steps 1 1)
    ++ (Begin 1 (Read 0) ∷ steps 3 1)
    ++ (Begin 1 (Total 1) ∷ steps 5 1)
    ++ (put_as 0 0 1 3 ∷ put_as 0 0 1000000000000 3 ∷ put_as 0 2 1 3 ∷ Begin 0 (Get 1) ∷ put_as 0 0 1 3 ∷ steps 1 0)

pub record Runs : Type 0 where
  pub status_log : log_with moved_list 6 (status_setup ∷ statuses)
      ≡ text "0 ok\n1 ok\n2 going\n3 going\n4 done\n5 ok\n6 going\n7 going\n8 going\n9 going\n10 going\n"
      ++ text "11 going\n12 going\n13 going\n14 done\n15 ok\n16 going\n17 at 1\n18 ok\n19 going\n20 going\n"
      ++ text "21 done\n22 ok\n23 value 7 0\n24 ok\n25 going\n26 going\n27 value 4 2\n28 ok\n29 going\n"
      ++ text "30 going\n31 going\n32 going\n33 value 9 2\n34 no 25\n35 no 16\n36 no 4\n37 ok\n38 no 25\n"
      ++ text "39 value 5 1\n"
  pub status_order : order_of 6 (with moved_list status_setup) (map handed statuses) ≡ 0 ∷ 1 ∷ 2 ∷ 3 ∷ 4 ∷ 5 ∷ 6 ∷ 7 ∷ []
  -- H16.7: the status is byte 2 of the row. H16.8: one above 2 gets 25, after 4 and 7, and the buffer stays
  pub row_status : write_row 0 7 (some (record { count = 5; status = 2 })) (replicate 16 9)
      ≡ record { answer = Written; buffer = 0 ∷ 0 ∷ 2 ∷ 0 ∷ 7 ∷ 0 ∷ 0 ∷ 0 ∷ 5 ∷ replicate 7 0 }
  pub row-25 : write_row 0 7 (some (record { count = 5; status = 3 })) (replicate 16 9) ≡ record { answer = RowNo 25; buffer = replicate 16 9 }
  pub row-25_short : write_row 0 7 (some (record { count = 5; status = 3 })) (replicate 15 9) ≡ record { answer = RowNo 7; buffer = replicate 15 9 }
  pub row-25_register : write_row 256 7 (some (record { count = 5; status = 3 })) (replicate 16 9) ≡ record { answer = RowNo 4; buffer = replicate 16 9 }
  -- H9.6: without a reading a buffer that is long enough stays as it is; H9.3: a shorter one gets 7 all the same
  pub row_none : write_row 0 7 none (replicate 16 9) ≡ record { answer = RowNone; buffer = replicate 16 9 }
  pub row_none_short : write_row 0 7 none (replicate 15 9) ≡ record { answer = RowNo 7; buffer = replicate 15 9 }
  -- H15.8: a refused table leaves the one that stood; 64 rows and none are accepted; on a hub that is set up any table gets 9
  pub tables_refused : map (give_table rights_hub) refused_tables ≡ replicate 8 (record { hub = rights_hub; answer = No 24 })
  pub tables_accepted : map (λ t. (give_table rights_hub t).answer) (rights_table ∷ replicate 512 0 ∷ [] ∷ []) ≡ replicate 3 Ok
  pub table_replaced : (give_table rights_hub []).hub ≡ row_of 6
  pub table_late : map (λ t. (give_table (apply_ruled rights_hub rights_setup).hub t).answer) (rights_table ∷ [] ∷ refused_tables) ≡ replicate 10 (No 9)
  pub rights-log : lines 0 (answers_to rights_hub (rights_setup ∷ map handed rights))
      ≡ text "0 ok\n1 no 23\n2 ok\n3 none\n4 ok\n5 none\n6 no 23\n7 no 23\n8 ok\n9 ok\n10 no 23\n11 no 10\n12 going\n"
      ++ text "13 at 1\n14 no 23\n15 ok\n16 going\n17 none\n18 no 23\n19 no 4\n20 no 25\n"
  pub empty-log : log_with moved_list 6 (empty_setup ∷ empty)
      ≡ text "0 ok\n1 ok\n2 none\n3 ok\n4 going\n5 at 1\n6 ok\n7 going\n8 ok\n9 going\n10 going\n11 none\n12 ok\n"
      ++ text "13 going\n14 going\n15 going\n16 going\n17 value 0 0\n18 going\n19 done\n20 ok\n21 value 0 0\n22 ok\n"
      ++ text "23 going\n24 ok\n25 value 5 0\n26 ok\n27 going\n28 going\n29 none\n"
  pub empty-order : order_of 6 (with moved_list empty_setup) (map handed empty) ≡ 0 ∷ 1 ∷ 2 ∷ 3 ∷ 4 ∷ 5 ∷ 6 ∷ 7 ∷ 8 ∷ []
  pub month_log : log_for 4 (month_setup ∷ month_end)
      ≡ text "0 ok\n1 ok\n2 going\n3 going\n4 done\n5 ok\n6 going\n7 at 1\n8 ok\n9 done\n10 ok\n11 done\n12 ok\n"
      ++ text "13 going\n14 going\n15 going\n16 going\n17 going\n18 going\n19 going\n20 going\n21 done\n22 ok\n"
      ++ text "23 going\n24 going\n25 done\n26 ok\n27 going\n28 going\n29 going\n30 going\n31 going\n32 freed 0\n"
      ++ text "33 done\n34 ok\n35 going\n36 going\n37 going\n38 value 5 0\n39 ok\n40 done\n41 ok\n42 going\n"
      ++ text "43 going\n44 going\n45 going\n46 going\n47 freed 2\n48 freed 1\n49 done\n"
  pub month_order : order_for 4 month_setup month_end ≡ 0 ∷ 1 ∷ 2 ∷ 3 ∷ 4 ∷ 5 ∷ 6 ∷ 7 ∷ 8 ∷ 9 ∷ []
  pub mark_refusals-log : log_for 2 (mark_setup ∷ mark_refusals)
      ≡ text "0 ok\n1 no 13\n2 no 4\n3 no 20\n4 no 20\n5 no 4\n6 no 4\n7 ok\n8 going\n9 at 1\n10 ok\n11 going\n"
      ++ text "12 at 2\n13 ok\n14 ok\n15 done\n16 no 19\n17 no 19\n18 ok\n19 ok\n20 done\n21 no 20\n22 no 20\n"
      ++ text "23 ok\n24 done\n25 ok\n26 ok\n27 going\n28 no 21\n29 no 21\n30 none\n31 ok\n32 ok\n33 done\n"
      ++ text "34 no 20\n35 no 11\n"
  pub mark_refusals-order : order_for 2 mark_setup mark_refusals ≡ 0 ∷ 1 ∷ 3 ∷ 5 ∷ 6 ∷ 8 ∷ 9 ∷ []
  pub marks_last-log : log_for 4 (last_setup ∷ marks_last)
      ≡ text "0 ok\n1 ok\n2 going\n3 at 1\n4 ok\n5 going\n6 going\n7 done\n8 ok\n9 going\n10 going\n11 going\n"
      ++ text "12 going\n13 going\n14 going\n15 going\n16 going\n17 done\n18 ok\n19 going\n20 going\n21 ok\n"
      ++ text "22 done\n23 ok\n24 done\n25 going\n26 going\n27 going\n28 freed 1\n29 done\n30 ok\n31 going\n"
      ++ text "32 going\n33 none\n"
  pub marks_last-order : order_for 4 last_setup marks_last ≡ 0 ∷ 1 ∷ 2 ∷ 4 ∷ 5 ∷ 3 ∷ 6 ∷ []
  -- the mark, and the marked read, which is shown what its worker's copy had: nothing
  pub marks_last-shown : shown_of 4 (handed last_setup) (map handed marks_last)
      ≡ none ∷ none ∷ none ∷ some Done ∷ none ∷ none ∷ some None ∷ []
  pub sums-log : log_with sums_list 9 (sums_setup ∷ sums)
      ≡ text "0 ok\n1 no 13\n2 no 17\n3 no 17\n4 no 3\n5 ok\n6 going\n7 going\n8 done\n9 ok\n10 going\n"
      ++ text "11 going\n12 done\n13 ok\n14 going\n15 going\n16 done\n17 ok\n18 going\n19 at 1\n20 ok\n21 going\n"
      ++ text "22 going\n23 no 17\n24 no 10\n25 ok\n26 going\n27 going\n28 done\n29 going\n30 going\n31 going\n"
      ++ text "32 going\n33 value -8 0\n34 ok\n35 going\n36 going\n37 going\n38 value 10 0\n39 ok\n40 going\n"
      ++ text "41 going\n42 value -7 0\n"
  pub sums-order : order_of 9 (with sums_list sums_setup) (map handed sums) ≡ 0 ∷ 1 ∷ 2 ∷ 3 ∷ 5 ∷ 4 ∷ 6 ∷ 7 ∷ []
  -- the three totals, over their worker's copy
  pub sums-shown : shown_of 9 (with sums_list sums_setup) (map handed sums)
      ≡ none ∷ none ∷ none ∷ none ∷ none ∷ some (Below (count 8)) ∷ some (Value (count 10)) ∷ some (Below (count 7)) ∷ []
  pub moved_total-log : log_with moved_list 6 (moved_setup ∷ moved_total)
      ≡ text "0 ok\n1 ok\n2 going\n3 going\n4 done\n5 ok\n6 going\n7 going\n8 going\n9 going\n10 going\n"
      ++ text "11 going\n12 going\n13 going\n14 done\n15 ok\n16 going\n17 at 1\n18 ok\n19 going\n20 going\n"
      ++ text "21 done\n22 ok\n23 going\n24 ok\n25 going\n26 going\n27 going\n28 going\n29 going\n30 going\n"
      ++ text "31 going\n32 going\n33 freed 0\n34 freed 1\n35 done\n36 ok\n37 going\n38 going\n39 going\n"
      ++ text "40 going\n41 going\n42 freed 4\n43 done\n44 ok\n45 going\n46 going\n47 going\n48 going\n"
      ++ text "49 value 9 0\n"
  pub moved_total-order : order_of 6 (with moved_list moved_setup) (map handed moved_total) ≡ 0 ∷ 1 ∷ 2 ∷ 3 ∷ 5 ∷ 6 ∷ 7 ∷ 4 ∷ []
  pub over-log : lines 0 (answers_to (row_of 6) (over_setup ∷ over))
      ≡ text "0 ok\n1 ok\n2 going\n3 going\n4 done\n5 ok\n6 going\n7 at 1\n8 ok\n9 going\n10 no 18\n11 no 11\n"
      ++ text "12 ok\n13 going\n14 value 1000000000000 0\n"
  -- the total, call 2, is refused
  pub over-order : order_of 6 over_setup over ≡ 0 ∷ 1 ∷ 3 ∷ []
  pub large-log : log_with (replicate 8 0) 3 (large_setup ∷ large)
      ≡ text "0 ok\n1 ok\n2 going\n3 going\n4 done\n5 ok\n6 going\n7 at 1\n8 ok\n9 going\n10 going\n11 going\n"
      ++ text "12 value 1999999999998 0\n"
  pub bad-lists : map (λ l. answers_to (row_of 3) (with l (setup 1 3 3 1) ∷ [])) bad_lists
      ≡ replicate 6 (No 5 ∷ []) ++ ((Ok ∷ []) ∷ [])
  pub moved_log : log_for 6 (moved_setup ∷ moved_read)
      ≡ text "0 ok\n1 ok\n2 going\n3 going\n4 done\n5 ok\n6 going\n7 going\n8 going\n9 going\n10 going\n"
      ++ text "11 going\n12 going\n13 going\n14 done\n15 ok\n16 going\n17 at 1\n18 ok\n19 going\n20 going\n"
      ++ text "21 done\n22 ok\n23 going\n24 ok\n25 going\n26 going\n27 going\n28 going\n29 going\n30 going\n"
      ++ text "31 going\n32 going\n33 freed 0\n34 freed 1\n35 done\n36 ok\n37 going\n38 going\n39 going\n"
      ++ text "40 going\n41 going\n42 freed 4\n43 done\n44 ok\n45 going\n46 value 4 0\n"
  -- the last put, call 7, is not stamped: it has no effect yet
  pub moved_order : order_for 6 moved_setup moved_read ≡ 0 ∷ 1 ∷ 2 ∷ 3 ∷ 5 ∷ 6 ∷ 4 ∷ []
  pub late_log : log_for 4 (late_setup ∷ late_pool)
      ≡ text "0 ok\n1 ok\n2 going\n3 going\n4 going\n5 going\n6 ok\n7 going\n8 at 1\n9 ok\n10 going\n11 going\n"
      ++ text "12 done\n13 ok\n14 going\n15 going\n16 going\n17 going\n18 going\n19 going\n20 going\n21 going\n"
      ++ text "22 done\n23 going\n24 done\n25 ok\n26 going\n27 going\n28 going\n29 none\n"
  pub late_order : order_for 4 late_setup late_pool ≡ 1 ∷ 2 ∷ 3 ∷ 0 ∷ 4 ∷ []
  pub get_log : log_for 3 (get_setup ∷ stamping_get)
      ≡ text "0 ok\n1 ok\n2 going\n3 ok\n4 going\n5 at 5\n6 ok\n7 value 7 0\n8 ok\n9 going\n10 going\n11 none\n"
      ++ text "12 going\n13 done\n"
  -- the open, then the put that the get stamped, then the get
  pub get_order : order_for 3 get_setup stamping_get ≡ 1 ∷ 0 ∷ 2 ∷ 3 ∷ []
  pub freed-once : log_for 3 freed_once
      ≡ text "0 ok\n1 ok\n2 going\n3 going\n4 going\n5 going\n6 going\n7 going\n8 going\n9 done\n10 ok\n"
      ++ text "11 going\n12 going\n13 going\n14 going\n15 freed 0\n16 done\n17 ok\n18 going\n19 going\n20 going\n"
      ++ text "21 going\n22 going\n23 going\n24 going\n25 done\n26 ok\n27 no 14\n"
  pub unlinked-log : log_for 3 unlinked
      ≡ text "0 ok\n1 ok\n2 going\n3 at 1\n4 ok\n5 going\n6 going\n7 going\n8 going\n9 going\n10 going\n"
      ++ text "11 going\n12 done\n13 ok\n14 going\n15 going\n16 going\n17 going\n18 going\n19 going\n20 going\n"
      ++ text "21 done\n22 ok\n23 going\n24 going\n25 going\n26 going\n27 freed 1\n28 done\n29 ok\n30 going\n"
      ++ text "31 going\n32 none\n"
  pub pool-order : log_for 5 pool_order
      ≡ text "0 ok\n1 ok\n2 going\n3 ok\n4 going\n5 going\n6 going\n7 done\n8 ok\n9 done\n10 going\n11 ok\n"
      ++ text "12 going\n13 going\n14 going\n15 going\n16 going\n17 going\n18 going\n19 going\n20 going\n"
      ++ text "21 done\n22 ok\n23 going\n24 going\n25 going\n26 going\n27 going\n28 freed 2\n"
  pub limit_log : log_for 3 limits
      ≡ text "0 ok\n1 no 16\n2 ok\n3 no 16\n4 no 4\n5 no 3\n6 no 10\n7 going\n8 going\n9 done\n10 ok\n"
      ++ text "11 value 999999999999 0\n"
  pub earlier_log : lines 0 (answers_to (row_of 4) (handed_before before_setup ∷ changing))
      ≡ text "0 ok\n1 ok\n2 going\n3 going\n4 done\n5 ok\n6 ok\n7 value 1000000000000 0\n8 ok\n9 going\n10 at 1\n"
      ++ text "11 ok\n12 going\n13 value 1000000000000 0\n14 ok\n15 done\n16 going\n17 going\n18 done\n19 no 16\n"
      ++ text "20 ok\n21 value 1000000000001 0\n22 ok\n23 going\n24 going\n25 going\n26 going\n27 going\n28 going\n"
      ++ text "29 going\n30 going\n31 done\n32 ok\n33 going\n34 going\n35 going\n36 going\n37 going\n38 freed 0\n"
      ++ text "39 freed 2\n40 done\n41 ok\n42 going\n43 going\n44 going\n45 going\n46 going\n47 freed 1\n"
      ++ text "48 done\n49 ok\n50 value 5 0\n"
  -- the second put, call 1, has its effect after the rule, behind the close
  pub earlier_order : order_of 4 (handed_before before_setup) changing ≡ 0 ∷ 2 ∷ 3 ∷ 4 ∷ 5 ∷ 1 ∷ 6 ∷ 7 ∷ 8 ∷ 9 ∷ 10 ∷ []
