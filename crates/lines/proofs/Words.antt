-- The words and the line from an answer's own kind and number are the model's.
use mathlib.Core.Path.{◌≡◌, refl}
use Prim.Native.Nat.{ℕ, ◌+◌, ◌*◌, ◌/◌, ◌%◌, ◌<◌}
use native.Mathlib.Omega.{arith}
use Rattle.model.specs.Log.{words, line}
use Rattle.values.specs.declared.Reading.{Reading}
use Rattle.values.specs.declared.Answer.{Answer}
use Rattle.values.specs.declared.Answer.TheVariants.{Ok, Going, Freed, At, Value, None, Below, Done, No}
use Rattle.values.specs.Meaning.{answer_of}
use Rattle.answers.specs.Numbers.{kind_of, number_of}
use Rattle.lines.specs.Words.{words_with, words_from, line_from, SameWords}

-- a kind and a status, put together, are taken apart
parted : (k : ℕ) (x : Reading) → k < 256 → words_from (k + 256 * x.status) x.count ≡ words_with k x.status x.count
unfolding words_from
parted k x h =
    let e : (k + 256 * x.status) % 256 ≡ k = omega arith in
    let f : (k + 256 * x.status) / 256 ≡ x.status = omega arith in
    rw (e, f)

pub same_words : SameWords
unfolding words_with words_from words
same_words Ok = refl
same_words Going = refl
same_words (Freed c) = refl
same_words (At t) = refl
same_words (Value x) = parted 4 x (omega arith)
same_words None = refl
same_words (Below x) = parted 7 x (omega arith)
same_words Done = refl
same_words (No k) = refl

pub same_line : (n : ℕ) (a : Answer) → line_from n (kind_of a) (number_of a) ≡ line n (answer_of a)
unfolding line_from line
same_line n a = rw (same_words a)
