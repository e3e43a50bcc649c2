-- Bytes are bytes, and those of a record too.
use mathlib.Core.Path.{◌≡◌, refl, sym, ◌∙◌, subst}
use mathlib.Core.Logic.{⊎_elim}
use mathlib.Core.List.{List, [], ◌∷◌}
use Prim.Native.Nat.{ℕ, zero, suc, ◌+◌, ◌*◌, ◌≤◌, ◌<◌}
use native.Mathlib.Omega.{arith}
use native.Mathlib.Nat.{not-suc-le-zero, le_of_suc-le-suc}
use lib.ListN.{get_or, take, drop}
use lib.Seq.{get_or-take, get_or-drop}
use Rattle.model.proofs.Basic.{lt_cases}
use Rattle.simulation.specs.Records.{record_at}

-- as the code is lent them
abbrev pub Bytes : List ℕ → Type 0
Bytes b = (i : ℕ) → get_or b i 0 < 256

take_past : (n : ℕ) (l : List ℕ) (i : ℕ) → n ≤ i → get_or (take n l) i 0 ≡ 0
take_past zero l i h = refl
take_past (suc n) [] i h = refl
take_past (suc n) (x ∷ l) zero h = absurd (not-suc-le-zero h)
take_past (suc n) (x ∷ l) (suc i) h = take_past n l i (le_of_suc-le-suc h)

pub record_bytes : (bytes : List ℕ) (k : ℕ) → Bytes bytes → Bytes (record_at bytes k)
record_bytes bytes k B i =
    ⊎_elim
    (λ u. subst (λ (x : ℕ). x < 256) (sym (get_or-take 16 (drop (16 * k) bytes) i 0 u.0 ∙ get_or-drop (16 * k) bytes i 0)) (B (16 * k + i)))
    (λ u. subst (λ (x : ℕ). x < 256) (sym (take_past 16 (drop (16 * k) bytes) i u.0)) (omega arith))
    (lt_cases i 16)
