-- The rules in force when a record is handed in, and a record with its rules. A list of records may change its rules on the way.
use Rattle.std.specs.Prelude.{List, [], map, ℕ, ◌≤◌}
use Rattle.std.proofs.Math.Option.{Option, none, some}
use Rattle.model.specs.Batch.{batch_of}

-- What is lent with a record for a setup, which alone looks at it. A further list is a field more.
pub record Given : Type 0 where
  -- H12.1: the bytes of the list of totals
  pub totals : List ℕ

-- where only a list of totals is given, and where nothing is
abbrev pub of_totals : List ℕ → Given
of_totals l = record { totals = l }

abbrev pub none_given : Given
none_given = of_totals []

-- What a record is handed in with: the rules in force, where a later paper set them otherwise than document 01, and what is lent for a setup.
pub record Rules : Type 0 where
  -- B for so many workers; only a setup looks at it
  pub batch : ℕ → ℕ
  -- the largest value that may be put, or none where every value may; only the begin of a put looks at it
  pub limit : Option ℕ
  pub given : Given

-- H7.9: the largest number of twelve digits
abbrev pub twelve_digits : ℕ
twelve_digits = 999999999999

-- the rules of the scope paper, document 01, which were in force before the first change request: every value may be put
abbrev pub document01 : Given → Rules
document01 g = record { batch = batch_of; limit = none; given = g }

-- the rules of docs/HUB.md, which the code follows. H7.9: a value has at most twelve digits.
abbrev pub in_force : Given → Rules
in_force g = record { batch = batch_of; limit = some twelve_digits; given = g }

-- H1.19, H2.2: a local pool has room for 64 ranges, so the batch size is from 1 to 64 for each number of workers that a setup may have
abbrev pub Allowed : Rules → Type 0
Allowed rules = (p : ℕ) → 1 ≤ p → p ≤ 16 → (1 ≤ rules.batch p) × (rules.batch p ≤ 64)

-- a record, of any bytes and any length, with the rules under which it is handed in
pub record Ruled : Type 0 where
  pub rules : Rules
  pub bytes : List ℕ

-- one record, and all records of a list, under the same rules
abbrev pub under : Rules → List ℕ → Ruled
under rules b = record { rules = rules; bytes = b }

abbrev pub all_under : Rules → List (List ℕ) → List Ruled
all_under rules bs = map (under rules) bs
