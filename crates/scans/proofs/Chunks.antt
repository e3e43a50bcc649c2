-- The ranges that words make, three words each.
use Rattle.std.proofs.Common.{◌≡◌, ap, ◌∙◌, List, [], ℕ, zero, suc, ◌*◌, ◌<◌, get_or, drop, arith}
use Rattle.std.proofs.lemmas.List.{get_or-drop, get_or-take}
use Rattle.std.specs.Simd.{first_chunks}

-- the first word of range j
pub word_of : (words : List ℕ) (k j : ℕ) → j < k → get_or (get_or (first_chunks 3 k words) j []) 0 0 ≡ get_or words (3 * j) 0
word_of words (suc k) zero h = get_or-take 3 words 0 0 (omega arith)
word_of words (suc k) (suc j) h =
    word_of (drop 3 words) k j (omega arith) ∙ get_or-drop 3 words (3 * j) 0 ∙ ap (λ (i : ℕ). get_or words i 0) (omega arith)
word_of words zero j h = absurd (omega arith)
