-- Ranges and pools: needed, merged by high, split by the times read.
use Rattle.std.specs.Prelude.{Bool, false, cond, not, ◌&&◌, ◌||◌, List, [], ◌∷◌, ℕ, ◌+◌, ◌*◌, ◌/◌, ltb, leb, length, take, drop}
use Rattle.model.specs.Store.{absent, Range}

-- H1.22: the time a needs the range: low ≤ a < high
unfoldable pub needs : Range → ℕ → Bool
needs ρ a = leb ρ.low a && ltb a ρ.high

-- H1.22: a range is needed by a list of times if one of them needs it. An absent time is none.
unfoldable pub needed : List ℕ → Range → Bool
needed [] ρ = false
needed (a ∷ l) ρ = (ltb a absent && needs ρ a) || needed l ρ

-- the ranges of a pool that pass a test, in their order
unfoldable pub filter : (Range → Bool) → List Range → List Range
filter p [] = []
filter p (ρ ∷ l) =
    let k = ρ ∷ filter p l in
    let d = filter p l in
    cond (p ρ) k d

-- H1.23: two lists merged by high; on equal highs the first list's range goes first. `merge_into` merges one range, then the rest of the first list.
unfoldable pub merge_into : Range → (List Range → List Range) → List Range → List Range
merge_into a rest [] = a ∷ rest []
merge_into a rest (b ∷ bs) =
    let x = a ∷ rest (b ∷ bs) in
    let y = b ∷ merge_into a rest bs in
    cond (leb a.high b.high) x y

unfoldable pub merge : List Range → List Range → List Range
merge [] bs = bs
merge (a ∷ l) bs = merge_into a (merge l) bs

-- H5.15: the first pool of the queue merged with the next, as far as they are there
unfoldable pub first_two : List (List Range) → List Range
first_two [] = []
first_two (p ∷ []) = p
first_two (p ∷ q ∷ l) = merge p q

-- H5.19: the merged list split by the times read; both parts keep its order
abbrev pub needed_of : List ℕ → List Range → List Range
needed_of ts m = filter (needed ts) m

abbrev pub needless_of : List ℕ → List Range → List Range
needless_of ts m = filter (λ ρ. not (needed ts ρ)) m

-- H5.20: more than 2B needed ranges become two pools, and the first has the odd one. H5.21: more than B become one.
unfoldable pub needed_pools : ℕ → List Range → List (List Range)
needed_pools b l =
    let h = (length l + 1) / 2 in
    cond (ltb (2 * b) (length l)) (take h l ∷ drop h l ∷ []) (cond (ltb b (length l)) (l ∷ []) [])

-- H5.22: what joins the local pool: the needed ranges, if they are at most B
unfoldable pub joining : ℕ → List Range → List Range
joining b l = cond (ltb b (length l)) [] l

-- H5.23: the local pool goes on the queue if it is not empty
unfoldable pub queued_pool : List Range → List (List Range)
queued_pool [] = []
queued_pool (ρ ∷ l) = (ρ ∷ l) ∷ []
