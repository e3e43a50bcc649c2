-- What was read, whether or not a read failed then.
use Rattle.std.specs.Prelude.{ℕ, Result, Ok, Err}
use Rattle.input.specs.declared.ReadFailed.{ReadFailed}

-- how many bytes
abbrev pub count_of : Result ℕ ReadFailed → ℕ
count_of (Ok n) = n
count_of (Err failed) = failed.n
