-- Lent memory of which a part is named: what a contract says of the rest.
use Rattle.std.specs.Prelude.{List, ◌++◌, ℕ, ◌-◌, ◌+◌, length, take, drop}

-- d with its first entries replaced by p; the others keep their contents
unfoldable pub over : {A : Type 0} → List A → List A → List A
over p d = p ++ drop (length p) d

-- d with its entries from place i on replaced by p; the others keep their contents
unfoldable pub over_at : {A : Type 0} → ℕ → List A → List A → List A
over_at i p d = take i d ++ p ++ drop (i + length p) d

-- the entries from n to k moved to the front; the others keep their contents
unfoldable pub shifted : {A : Type 0} → List A → ℕ → ℕ → List A
shifted s n k = over (take (k - n) (drop n s)) s
