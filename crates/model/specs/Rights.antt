-- Who on the hub may do what: H15 of docs/HUB.md. The rows of the table, and what they permit.
use Rattle.std.specs.Prelude.{Bool, true, false, ◌&&◌, ◌||◌, List, [], ◌∷◌, map, ℕ, ◌*◌, ◌/◌, ◌%◌, leb, eqb, length}
use Rattle.model.specs.Store.{up_from}
use Rattle.model.specs.Record.{number}

-- one of a list passes a test; each of them does
unfoldable pub any_of : (ℕ → Bool) → List ℕ → Bool
any_of f [] = false
any_of f (x ∷ l) = f x || any_of f l

unfoldable pub each_of : (ℕ → Bool) → List ℕ → Bool
each_of f [] = true
each_of f (x ∷ l) = f x && each_of f l

------------------------------------------------------------------------
-- A row

-- H15.1: a row is a number of eight bytes, the least byte first: the worker, its rights added together, the first and the last register that they
-- are for, two bytes each, and two bytes that are zero
abbrev pub worker_of : ℕ → ℕ
worker_of x = x % 256

abbrev pub rights_of : ℕ → ℕ
rights_of x = x / 256 % 256

abbrev pub first_register : ℕ → ℕ
first_register x = x / 65536 % 65536

abbrev pub last_register : ℕ → ℕ
last_register x = x / 4294967296 % 65536

abbrev pub last_pair : ℕ → ℕ
last_pair x = x / 281474976710656

-- H15.8: a row that a table may have
abbrev pub right_fits : ℕ → Bool
right_fits x =
    (leb (worker_of x) 15 && leb (rights_of x) 15)
    && (leb (last_register x) 255 && leb (first_register x) (last_register x))
    && eqb (last_pair x) 0

-- at most 64 of them
unfoldable pub table_stands : List ℕ → Bool
table_stands t = leb (length t) 64 && each_of right_fits t

-- H15.8: eight bytes a row, and a table that is accepted; else 24
unfoldable pub table_of : List ℕ → List ℕ
table_of bytes = map (λ i. number bytes (8 * i) 8) (up_from 0 (length bytes / 8))

unfoldable pub table_fits : List ℕ → Bool
table_fits bytes = eqb (length bytes % 8) 0 && table_stands (table_of bytes)

------------------------------------------------------------------------
-- What is permitted

-- H15.2: put, read and get, collect, marks
pub data Permission : Type 0 where
  ToPut : Permission
  ToRead : Permission
  ToCollect : Permission
  ToMark : Permission

-- H15.2: the right is one of those that were added together
abbrev pub among : Permission → ℕ → Bool
among ToPut x = eqb (x % 2) 1
among ToRead x = eqb (x / 2 % 2) 1
among ToCollect x = eqb (x / 4 % 2) 1
among ToMark x = eqb (x / 8 % 2) 1

-- a row gives worker w the right for some register; for register r
abbrev pub gives : ℕ → Permission → ℕ → Bool
gives w p row = eqb (worker_of row) w && among p (rights_of row)

abbrev pub gives_on : ℕ → Permission → ℕ → ℕ → Bool
gives_on w p r row = gives w p row && leb (first_register row) r && leb r (last_register row)

-- H15.3: rights of a worker's rows are joined, register by register: one of them gives it
abbrev pub may_on : List ℕ → ℕ → Permission → ℕ → Bool
may_on t w p r = any_of (gives_on w p r) t

-- in any row of the worker, whatever its registers are
abbrev pub may_any : List ℕ → ℕ → Permission → Bool
may_any t w p = any_of (gives w p) t

-- on each of these registers
abbrev pub may_on_each : List ℕ → ℕ → Permission → List ℕ → Bool
may_on_each t w p l = each_of (may_on t w p) l

-- what an operation needs: nothing; a right on each of some registers; a right in any row; a right on every register of the hub
pub data Needed : Type 0 where
  NoRight : Needed
  OnThese : Permission → List ℕ → Needed
  InAny : Permission → Needed
  OnAll : Permission → Needed

-- worker w of a hub of v registers has it
abbrev pub has : List ℕ → ℕ → ℕ → Needed → Bool
has t v w NoRight = true
has t v w (OnThese p l) = may_on_each t w p l
has t v w (InAny p) = may_any t w p
has t v w (OnAll p) = may_on_each t w p (up_from 0 v)

-- H15.4: with no table, or an empty one, all is allowed
abbrev pub allowed : List ℕ → ℕ → ℕ → Needed → Bool
allowed [] v w n = true
allowed (row ∷ l) v w n = has (row ∷ l) v w n
