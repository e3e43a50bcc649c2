-- Records: H3 of docs/HUB.md. Sixteen bytes, the command that they give, and the refusals 6, 1 and 2.
use Rattle.std.specs.Prelude.{Bool, true, cond, ◌&&◌, List, [], ◌∷◌, map, ℕ, zero, suc, ◌+◌, ◌*◌, ◌/◌, ◌%◌, ltb, eqb, length, get_or, take, drop}
use Rattle.model.specs.Store.{Reading, up_from}
use Rattle.model.specs.Totals.{follow}

------------------------------------------------------------------------
-- H3.2: numbers, least byte first

-- the number in the n bytes from index i on
abbrev pub number : List ℕ → ℕ → ℕ → ℕ
number b i zero = 0
number b i (suc n) = get_or b i 0 + 256 * number b (suc i) n

-- H3.4: the n bytes from index i on are zero
unfoldable pub zeros : List ℕ → ℕ → ℕ → Bool
zeros b i zero = true
zeros b i (suc n) = eqb (get_or b i 0) 0 && zeros b (suc i) n

------------------------------------------------------------------------
-- Commands

-- H3.3: an operation that a record begins, 1 to 6 and 8 to 11
pub data Operation : Type 0 where
  -- the register and what to store
  Put : ℕ → Reading → Operation
  Open : Operation
  -- the register
  Read : ℕ → Operation
  Close : Operation
  -- the register
  Get : ℕ → Operation
  Collect : Operation
  -- H12.4: the group
  Total : ℕ → Operation
  -- H13.3: the mark
  Mark : ℕ → Operation
  -- H13.4: the mark
  Release : ℕ → Operation
  -- H13.5: the register and the mark
  MarkedRead : ℕ → ℕ → Operation

-- H2.2: what a setup asks for
pub record Sizes : Type 0 where
  pub P : ℕ
  pub V' : ℕ
  pub N : ℕ
  pub clock : ℕ

pub data Command : Type 0 where
  -- 0
  SetUp : Sizes → Command
  -- 1 to 6 and 8 to 11: the worker and the operation
  Begin : ℕ → Operation → Command
  -- 7: the worker
  Step : ℕ → Command

-- H3.3: where the parts of a record stand
abbrev pub worker_in : List ℕ → ℕ
worker_in b = number b 1 1

abbrev pub register_in : List ℕ → ℕ
register_in b = number b 2 2

-- H12.4: of a total, where others have the register
abbrev pub group_in : List ℕ → ℕ
group_in b = number b 2 2

-- H13.3, H13.4: of a mark and of a release, where others have the register
abbrev pub mark_in : List ℕ → ℕ
mark_in b = number b 2 2

-- H13.5: of a marked read, behind its register
abbrev pub mark_behind : List ℕ → ℕ
mark_behind b = number b 4 1

-- H16.2: of a put, the status behind the register
abbrev pub reading_in : List ℕ → Reading
reading_in b = record { count = number b 8 8; status = number b 4 1 }

abbrev pub sizes_in : List ℕ → Sizes
sizes_in b = record { P = number b 1 1; V' = number b 2 2; N = number b 4 2; clock = number b 8 4 }

-- H3.3: the command by byte 0; one above 11 is refused before this is looked at
unfoldable pub command_of : List ℕ → ℕ → Command
command_of b zero = SetUp (sizes_in b)
command_of b (suc zero) = Begin (worker_in b) (Put (register_in b) (reading_in b))
command_of b (suc (suc zero)) = Begin (worker_in b) Open
command_of b (suc (suc (suc zero))) = Begin (worker_in b) (Read (register_in b))
command_of b (suc (suc (suc (suc zero)))) = Begin (worker_in b) Close
command_of b (suc (suc (suc (suc (suc zero))))) = Begin (worker_in b) (Get (register_in b))
command_of b (suc (suc (suc (suc (suc (suc zero)))))) = Begin (worker_in b) Collect
command_of b (suc (suc (suc (suc (suc (suc (suc zero))))))) = Step (worker_in b)
command_of b (suc (suc (suc (suc (suc (suc (suc (suc zero)))))))) = Begin (worker_in b) (Total (group_in b))
command_of b (suc (suc (suc (suc (suc (suc (suc (suc (suc zero))))))))) = Begin (worker_in b) (Mark (mark_in b))
command_of b (suc (suc (suc (suc (suc (suc (suc (suc (suc (suc zero)))))))))) = Begin (worker_in b) (Release (mark_in b))
command_of b (suc (suc (suc (suc (suc (suc (suc (suc (suc (suc (suc n))))))))))) =
    Begin (worker_in b) (MarkedRead (register_in b) (mark_behind b))

-- H3.3, H3.4: the unused bytes of each command are zero
unfoldable pub unused_zero : List ℕ → Command → Bool
unused_zero b (SetUp z) = zeros b 6 2 && zeros b 12 4
unused_zero b (Begin w (Put r x)) = zeros b 5 3
unused_zero b (Begin w Open) = zeros b 2 14
unused_zero b (Begin w (Read r)) = zeros b 4 12
unused_zero b (Begin w Close) = zeros b 2 14
unused_zero b (Begin w (Get r)) = zeros b 4 12
unused_zero b (Begin w Collect) = zeros b 2 14
unused_zero b (Begin w (Total g)) = zeros b 4 12
unused_zero b (Begin w (Mark m)) = zeros b 4 12
unused_zero b (Begin w (Release m)) = zeros b 4 12
unused_zero b (Begin w (MarkedRead r m)) = zeros b 5 11
unused_zero b (Step w) = zeros b 2 14

-- a record read: a command, or the number of the refusal
pub data Decoded : Type 0 where
  Asks : Command → Decoded
  Refuses : ℕ → Decoded

-- H7.1: 6 fewer than 16 bytes, the empty record too (H3.9); 1 operation above 11; 2 an unused byte is not zero. H3.8: of a longer list the first
-- sixteen are read. The bytes may be any numbers here.
unfoldable pub decode : List ℕ → Decoded
decode b =
    let c = command_of b (get_or b 0 0) in
    cond (ltb (length b) 16) (Refuses 6)
    (cond (ltb 11 (get_or b 0 0)) (Refuses 1)
    (cond (unused_zero b c) (Asks c) (Refuses 2)))

------------------------------------------------------------------------
-- Files

-- H3.5, H3.6: sixteen bytes each, and a rest of 1 to 15 is one more record. At most n records are taken.
unfoldable pub cut : ℕ → List ℕ → List (List ℕ)
cut zero l = []
cut (suc n) [] = []
cut (suc n) (x ∷ l) = take 16 (x ∷ l) ∷ cut n (drop 16 (x ∷ l))

-- H3.7: the records of a file; a record takes at least one byte, so there are no more than bytes
unfoldable pub records_of : List ℕ → List (List ℕ)
records_of file = cut (length file) file

------------------------------------------------------------------------
-- The list of totals

-- H12.1: four bytes a row
unfoldable pub rows_of : List ℕ → List ℕ
rows_of list = map (λ i. number list (4 * i) 4) (up_from 0 (length list / 4))

-- H12.2: a list that a setup with v registers accepts
unfoldable pub list_fits : ℕ → List ℕ → Bool
list_fits v list = eqb (length list % 4) 0 && follow v 0 0 (rows_of list)
