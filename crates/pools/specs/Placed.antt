-- One range more in the arrays of a pool, which take 64 (H1.19).
use Rattle.std.specs.Prelude.{cond, List, ℕ, ◌+◌, ltb, set}

-- entry n of an array of 64 replaced, where there is one
abbrev pub placed : {A : Type 0} → List A → ℕ → A → List A
placed l n x = cond (ltb n 64) (set l n x) l

-- how many there are with one more than n, where there are m at the most
abbrev pub one_more_to : ℕ → ℕ → ℕ
one_more_to m n = cond (ltb n m) (n + 1) n

-- how many ranges a pool of n has with one more
abbrev pub one_more : ℕ → ℕ
one_more n = one_more_to 64 n
