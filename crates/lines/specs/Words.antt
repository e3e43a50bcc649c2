-- The words and the line of an answer, from its kind, to which 256 times its status is added, and its number.
use Rattle.std.specs.Prelude.{◌≡◌, Bool, true, false, cond, List, [], ◌∷◌, ◌++◌, ℕ, zero, suc, ◌/◌, ◌%◌}
use Rattle.model.specs.Log.{text, decimal, words}
use Rattle.values.specs.declared.Answer.{Answer}
use Rattle.values.specs.Meaning.{answer_of}
use Rattle.answers.specs.Numbers.{kind_of, number_of}

-- the words of the answer of a kind, a status and a number, in the order of the kinds (`kind_of`); every further kind is a refusal
unfoldable pub words_with : ℕ → ℕ → ℕ → List ℕ
words_with zero s x = text "ok"
words_with (suc zero) s x = text "going"
words_with (suc (suc zero)) s x = text "freed " ++ decimal x
words_with (suc (suc (suc zero))) s x = text "at " ++ decimal x
words_with (suc (suc (suc (suc zero)))) s x = text "value " ++ decimal x ++ text " " ++ decimal s
words_with (suc (suc (suc (suc (suc zero))))) s x = text "done"
words_with (suc (suc (suc (suc (suc (suc zero)))))) s x = text "no " ++ decimal x
words_with (suc (suc (suc (suc (suc (suc (suc zero))))))) s x = text "value -" ++ decimal x ++ text " " ++ decimal s
words_with (suc (suc (suc (suc (suc (suc (suc (suc zero)))))))) s x = text "none"
words_with (suc (suc (suc (suc (suc (suc (suc (suc (suc k))))))))) s x = text "no " ++ decimal x

unfoldable pub words_from : ℕ → ℕ → List ℕ
words_from kind x = words_with (kind % 256) (kind / 256) x

-- the line of record n with such an answer
unfoldable pub line_from : ℕ → ℕ → ℕ → List ℕ
line_from n kind number = decimal n ++ text " " ++ words_from kind number ++ text "\n"

-- the part of a line after the record's number, up to the number of the answer or with the line's end
unfoldable pub up_to_number : ℕ → List ℕ
up_to_number zero = text " ok\n"
up_to_number (suc zero) = text " going\n"
up_to_number (suc (suc zero)) = text " freed "
up_to_number (suc (suc (suc zero))) = text " at "
up_to_number (suc (suc (suc (suc zero)))) = text " value "
up_to_number (suc (suc (suc (suc (suc zero))))) = text " done\n"
up_to_number (suc (suc (suc (suc (suc (suc zero)))))) = text " no "
up_to_number (suc (suc (suc (suc (suc (suc (suc zero))))))) = text " value -"
up_to_number (suc (suc (suc (suc (suc (suc (suc (suc zero)))))))) = text " none\n"
up_to_number (suc (suc (suc (suc (suc (suc (suc (suc (suc k))))))))) = text " no "

unfoldable pub has_number : ℕ → Bool
has_number zero = false
has_number (suc zero) = false
has_number (suc (suc zero)) = true
has_number (suc (suc (suc zero))) = true
has_number (suc (suc (suc (suc zero)))) = true
has_number (suc (suc (suc (suc (suc zero))))) = false
has_number (suc (suc (suc (suc (suc (suc zero)))))) = true
has_number (suc (suc (suc (suc (suc (suc (suc zero))))))) = true
has_number (suc (suc (suc (suc (suc (suc (suc (suc zero)))))))) = false
has_number (suc (suc (suc (suc (suc (suc (suc (suc (suc k))))))))) = true

-- a status follows the number
unfoldable pub has_status : ℕ → Bool
has_status zero = false
has_status (suc zero) = false
has_status (suc (suc zero)) = false
has_status (suc (suc (suc zero))) = false
has_status (suc (suc (suc (suc zero)))) = true
has_status (suc (suc (suc (suc (suc zero))))) = false
has_status (suc (suc (suc (suc (suc (suc zero)))))) = false
has_status (suc (suc (suc (suc (suc (suc (suc zero))))))) = true
has_status (suc (suc (suc (suc (suc (suc (suc (suc zero)))))))) = false
has_status (suc (suc (suc (suc (suc (suc (suc (suc (suc k))))))))) = false

-- what stands between the number and the line's end
unfoldable pub status_part : ℕ → ℕ → List ℕ
status_part kind s = cond (has_status kind) (text " " ++ decimal s) []

-- the whole part of a line after the record's number
unfoldable pub tail_with : ℕ → ℕ → ℕ → List ℕ
tail_with kind s x = up_to_number kind ++ cond (has_number kind) (decimal x ++ (status_part kind s ++ text "\n")) []

unfoldable pub tail_from : ℕ → ℕ → List ℕ
tail_from kind x = tail_with (kind % 256) (kind / 256) x

-- a row of eight bytes for each kind, the last for every further one: the part of the line up to the number; then a byte for each, its length,
-- 16 more where there is a number, and 32 more where there is a status
unfoldable pub rows : List ℕ
rows =
    text " ok\n" ++ (0 ∷ 0 ∷ 0 ∷ 0 ∷ [])
    ++ text " going\n" ++ (0 ∷ [])
    ++ text " freed " ++ (0 ∷ [])
    ++ text " at " ++ (0 ∷ 0 ∷ 0 ∷ 0 ∷ [])
    ++ text " value " ++ (0 ∷ [])
    ++ text " done\n" ++ (0 ∷ 0 ∷ [])
    ++ text " no " ++ (0 ∷ 0 ∷ 0 ∷ 0 ∷ [])
    ++ text " value -"
    ++ text " none\n" ++ (0 ∷ 0 ∷ [])
    ++ text " no " ++ (0 ∷ 0 ∷ 0 ∷ 0 ∷ [])
    ++ (4 ∷ 7 ∷ 23 ∷ 20 ∷ 55 ∷ 6 ∷ 20 ∷ 56 ∷ 6 ∷ 20 ∷ [])

-- the words from an answer's own kind and number are the model's
abbrev pub SameWords : Type 0
SameWords = (a : Answer) → words_from (kind_of a) (number_of a) ≡ words (answer_of a)
