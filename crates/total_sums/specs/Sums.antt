-- The sums of a total in 64 bits.
use Rattle.std.specs.Prelude.{cond, ℕ, ◌+◌, ◌*◌, max, leb, eqb}
use Rattle.model.specs.Rules.{twelve_digits}
use Rattle.model.specs.Totals.{sign_of, sum₀}
use Rattle.model.specs.Store.{count_of, status_of}
use Rattle.values.specs.Meaning.{Content}
use Rattle.values.specs.Meaning.{content_of}
use Rattle.worker.specs.declared.Sum.{Sum}
use Rattle.worker.specs.Rep.{sum_rep}

-- a sum of at most 31 values with one more, of at most twelve digits; any other stays
abbrev pub added_to : ℕ → ℕ → ℕ
added_to sum x = cond (leb sum (31 * twelve_digits)) (cond (leb x twelve_digits) (sum + x) sum) sum

-- nothing was read
abbrev pub no_sum : Sum
no_sum = sum_rep sum₀

-- the sums with what the register of a row holds, by the row's sign: the model's `add_row`
abbrev pub sum_with : Sum → ℕ → Content → Sum
sum_with s row x =
    record {
      plus = added_to s.plus (cond (eqb (sign_of row) 0) (count_of (content_of x)) 0);
      minus = added_to s.minus (cond (eqb (sign_of row) 0) 0 (count_of (content_of x)));
      status = max s.status (status_of (content_of x));
    }
