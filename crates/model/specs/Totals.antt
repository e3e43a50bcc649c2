-- Totals: H12 of docs/HUB.md. The rows of the list that comes with a setup, the walk along the rows of one group, and sums over them.
use Rattle.std.specs.Prelude.{Bool, true, cond, ◌&&◌, List, [], ◌∷◌, ℕ, suc, ◌+◌, ◌/◌, ◌%◌, ltb, leb, eqb, length, get_or}

------------------------------------------------------------------------
-- Rows

-- H12.1: a row is the number of its four bytes, least byte first: its group, its sign, its register.
abbrev pub group_of : ℕ → ℕ
group_of row = row % 256

-- 0 plus, 1 minus
abbrev pub sign_of : ℕ → ℕ
sign_of row = row / 256 % 256

abbrev pub register_of : ℕ → ℕ
register_of row = row / 65536

-- H12.2: a row that a hub of v registers may have
abbrev pub row_fits : ℕ → ℕ → Bool
row_fits v row = leb (group_of row) 31 && leb (sign_of row) 1 && ltb (register_of row) v

-- how many rows of its group stand before a row, where n of group g stand last
abbrev pub before : ℕ → ℕ → ℕ → ℕ
before g n row = cond (eqb (group_of row) g) n 0

-- H12.2: rows that may stand behind n rows of group g: each is one that v registers allow, group numbers never fall, and there are at most 32
-- rows of a group.
unfoldable pub follow : ℕ → ℕ → ℕ → List ℕ → Bool
follow v g n [] = true
follow v g n (x ∷ l) =
    row_fits v x && leb g (group_of x) && ltb (before g n x) 32 && follow v (group_of x) (before g n x + 1) l

-- the rows of group g, in the list's order
unfoldable pub of_group : ℕ → List ℕ → List ℕ
of_group g [] = []
of_group g (x ∷ l) =
    let own = x ∷ of_group g l in
    cond (eqb (group_of x) g) own (of_group g l)

-- the index of the first row of group g; the list's length where it has none
unfoldable pub first_of : ℕ → List ℕ → ℕ
first_of g [] = 0
first_of g (x ∷ l) = cond (eqb (group_of x) g) 0 (suc (first_of g l))

abbrev pub row_at : List ℕ → ℕ → ℕ
row_at rows i = get_or rows i 0

-- H12.7: the row behind row i is one of group g too
abbrev pub goes_on : List ℕ → ℕ → ℕ → Bool
goes_on rows g i = ltb (i + 1) (length rows) && eqb (group_of (row_at rows (i + 1))) g

------------------------------------------------------------------------
-- Sums

-- what was added, what was subtracted, and the largest status that was read
pub record Sum : Type 0 where
  pub plus : ℕ
  pub minus : ℕ
  pub status : ℕ

-- H16.6: where nothing was read the status is 0
abbrev pub sum₀ : Sum
sum₀ = record { plus = 0; minus = 0; status = 0 }
