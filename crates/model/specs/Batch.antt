-- H1.24: the batch size B, one line for each number of workers, to be read against document 01 by eye; and that each line has the figure of
-- document 01's sentence, the number of workers times its base-2 logarithm rounded up, and 1 for one worker.
use Rattle.std.specs.Prelude.{◌≡◌, cond, ℕ, ◌*◌, ◌^◌, ◌≤◌, eqb}

-- B for p workers; a hub has from one to sixteen, and for any other number the figure is that of one
unfoldable pub batch_of : ℕ → ℕ
batch_of p =
    cond (eqb p 1) 1
    (cond (eqb p 2) 2
    (cond (eqb p 3) 6
    (cond (eqb p 4) 8
    (cond (eqb p 5) 15
    (cond (eqb p 6) 18
    (cond (eqb p 7) 21
    (cond (eqb p 8) 24
    (cond (eqb p 9) 36
    (cond (eqb p 10) 40
    (cond (eqb p 11) 44
    (cond (eqb p 12) 48
    (cond (eqb p 13) 52
    (cond (eqb p 14) 56
    (cond (eqb p 15) 60
    (cond (eqb p 16) 64
    1)))))))))))))))

-- the base-2 logarithm of p, rounded up, is the least whole number k with p ≤ 2 ^ k; B is p times it
pub record TimesLogarithm (p : ℕ) : Type 0 where
  pub k : ℕ
  pub reaches : p ≤ 2 ^ k
  pub least : (j : ℕ) → p ≤ 2 ^ j → k ≤ j
  pub figure : batch_of p ≡ p * k

-- the sixteen figures are those of the sentence
pub record AsDocumented : Type 0 where
  pub one : batch_of 1 ≡ 1
  pub more : (p : ℕ) → 2 ≤ p → p ≤ 16 → TimesLogarithm p
