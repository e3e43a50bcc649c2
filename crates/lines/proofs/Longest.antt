-- How long a line can be: a number has at most twenty digits, an answer's words 48 bytes, and a line 70.
use Prim.Native.Nat.{ℕ, zero, suc, ◌+◌, ◌/◌, ◌%◌, ◌≤◌}
use mathlib.Core.List.{List}
use native.Mathlib.Omega.{arith}
use lib.ListN.{length, drop, length-append, length-drop}
use Rattle.model.specs.Log.{text, decimal}
use Rattle.lines.specs.Words.{words_with, words_from, line_from}
use Rattle.lines.specs.Written.{Appended, Spills, longest}
use Rattle.lines.proofs.Decimal.{length-decimal, decimal-least}

with-length : (kind s x : ℕ) → length (words_with kind s x) ≤ 48
unfolding words_with text
with-length zero s x = omega arith
with-length (suc zero) s x = omega arith
with-length (suc (suc zero)) s x = omega (arith, length-decimal x)
with-length (suc (suc (suc zero))) s x = omega (arith, length-decimal x)
with-length (suc (suc (suc (suc zero)))) s x = simp length-append (omega (arith, length-decimal x, length-decimal s))
with-length (suc (suc (suc (suc (suc zero))))) s x = omega arith
with-length (suc (suc (suc (suc (suc (suc zero)))))) s x = omega (arith, length-decimal x)
with-length (suc (suc (suc (suc (suc (suc (suc zero))))))) s x = simp length-append (omega (arith, length-decimal x, length-decimal s))
with-length (suc (suc (suc (suc (suc (suc (suc (suc zero)))))))) s x = omega arith
with-length (suc (suc (suc (suc (suc (suc (suc (suc (suc k))))))))) s x = omega (arith, length-decimal x)

pub words-length : (kind x : ℕ) → length (words_from kind x) ≤ 48
unfolding words_from
words-length kind x = with-length (kind % 256) (kind / 256) x

with-least : (kind s x : ℕ) → 2 ≤ length (words_with kind s x)
unfolding words_with text
with-least zero s x = omega arith
with-least (suc zero) s x = omega arith
with-least (suc (suc zero)) s x = omega arith
with-least (suc (suc (suc zero))) s x = omega arith
with-least (suc (suc (suc (suc zero)))) s x = omega arith
with-least (suc (suc (suc (suc (suc zero))))) s x = omega arith
with-least (suc (suc (suc (suc (suc (suc zero)))))) s x = omega arith
with-least (suc (suc (suc (suc (suc (suc (suc zero))))))) s x = omega arith
with-least (suc (suc (suc (suc (suc (suc (suc (suc zero)))))))) s x = omega arith
with-least (suc (suc (suc (suc (suc (suc (suc (suc (suc k))))))))) s x = omega arith

words-least : (kind x : ℕ) → 2 ≤ length (words_from kind x)
unfolding words_from
words-least kind x = with-least (kind % 256) (kind / 256) x

pub line-length : (n kind x : ℕ) → length (line_from n kind x) ≤ longest
unfolding line_from text
line-length n kind x = simp length-append (omega (arith, length-decimal n, words-length kind x))

-- and the shortest is `0 ok`, with the line's end
pub line-least : (n kind x : ℕ) → 5 ≤ length (line_from n kind x)
unfolding line_from text
line-least n kind x = simp length-append (omega (arith, decimal-least n, words-least kind x))

pub after-rest : (l : List ℕ) (k : ℕ) {i j : ℕ} {d e : List ℕ} → Appended (drop k l) i d e j → j ≤ i + length l
after-rest l k w = omega (arith, w.next, length-drop k l)

pub after-decimal : (x : ℕ) {i j : ℕ} {d e : List ℕ} → Spills (decimal x) i d e j → j ≤ i + 20
after-decimal x w = omega (arith, w.next, length-decimal x)
