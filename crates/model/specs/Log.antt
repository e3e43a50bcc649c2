-- The text of the log: H10 of docs/HUB.md.
use Rattle.std.specs.Prelude.{cond, List, [], ◌∷◌, ◌++◌, ℕ, zero, suc, ◌+◌, ◌/◌, ◌%◌, ltb}
use Prim.Native.String.{String}
use Prim.Native.Char.{code}
use Rattle.model.specs.Store.{Lent, blank}
use Rattle.model.specs.Rules.{Rules, all_under}
use Rattle.model.specs.Answer.{Answer, Ok, Going, Freed, At, Value, None, Below, Done, No}
use Rattle.model.specs.Record.{records_of}
use Rattle.model.specs.Apply.{answers_to}

-- the bytes of a text; ours are all ASCII
unfoldable pub text : String → List ℕ
text String.[] = []
text (String.◌∷◌ c l) = code c ∷ text l

-- H10.4: x in decimal, of at most n + 1 digits
unfoldable pub digits : ℕ → ℕ → List ℕ
digits zero x = (48 + x % 10) ∷ []
digits (suc n) x = cond (ltb x 10) ((48 + x % 10) ∷ []) (digits n (x / 10) ++ ((48 + x % 10) ∷ []))

-- x in decimal, exact below 10^20; what a hub shows of real bytes, and the number of a record, are below 2^64
unfoldable pub decimal : ℕ → List ℕ
decimal x = digits 19 x

-- H10.3, H16.5: the words of an answer; a value's status stands behind its number
unfoldable pub words : Answer → List ℕ
words Ok = text "ok"
words Going = text "going"
words (Freed c) = text "freed " ++ decimal c
words (At t) = text "at " ++ decimal t
words (Value x) = text "value " ++ decimal x.count ++ text " " ++ decimal x.status
words None = text "none"
words (Below x) = text "value -" ++ decimal x.count ++ text " " ++ decimal x.status
words Done = text "done"
words (No k) = text "no " ++ decimal k

-- H10.1, H10.2: the record's number, a space, the words, and the end of the line
unfoldable pub line : ℕ → Answer → List ℕ
line n a = decimal n ++ text " " ++ words a ++ text "\n"

-- the lines of a list of answers, the first of which has number n
unfoldable pub lines : ℕ → List Answer → List ℕ
lines n [] = []
lines n (a ∷ l) = line n a ++ lines (n + 1) l

-- H10.6: the log of a file under the rules given: the hub is not set up at first, and its row of slots and the table that stands are lent
unfoldable pub log_of : Rules → Lent → List ℕ → List ℕ
log_of rules lent file = lines 0 (answers_to (blank lent) (all_under rules (records_of file)))
