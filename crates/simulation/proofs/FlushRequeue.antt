-- Flush (3): the pools that the code queues are the model's, in the three cases of H5.20 to H5.22, and the local pool after them (H5.23).
-- There is room for them, since all ranges together are fewer than 2048 and no pool is empty.
use mathlib.Core.Path.{◌≡◌, refl, sym, ap, ◌∙◌}
use mathlib.Core.Bool.{Bool, true, false, cond}
use mathlib.Core.List.{List, [], ◌∷◌, ◌++◌, append-nil, append_assoc}
use Prim.Native.Nat.{ℕ, ◌+◌, ◌-◌, ◌*◌, ◌/◌, ◌≤◌, ◌<◌}
use native.Mathlib.Omega.{arith}
use lib.Dec.{ltb}
use lib.ListN.{length, take, drop, replicate, length-append, length-drop, take-append-drop}
use lib.Seq.{take_at, drop_at, length-take-le}
use borrow.Author.Tests.{ltb-true, ltb-false}
use Rattle.lists.specs.Over.{over}
use Rattle.lists.proofs.Over.{take-over}
use Rattle.model.specs.Store.{Range}
use Rattle.model.specs.Ranges.{merge, needed_pools, joining, queued_pool}
use Rattle.worker.specs.Rep.{pool_rep}
use Rattle.worker.proofs.Ranges.{ranges_rep}
use Rattle.ranges.specs.Words.{ranges_at, flat}
use Rattle.ranges.proofs.WordLaws.{length-flat}
use Rattle.ranges.proofs.MergeLaws.{merge-nil, length-merge}
use Rattle.queue.specs.State.{Queue, Begins, pushed}
use Rattle.queue.specs.Rep.{joined_ranges, queue_rep}
use Rattle.queue.proofs.Rep.{Sized, flat_append, joined-append, ranges_at-over, push_rep_over, push_queued}
use Rattle.splitting.specs.Splitting.{pool_words, requeued}

-- one pool more
joined-more : (ps : List (List Range)) (l : List Range) → length (joined_ranges (ps ++ (l ∷ []))) ≡ length (joined_ranges ps) + length l
joined-more ps l = rw (joined-append ps (l ∷ []), append-nil l) (length-append (joined_ranges ps) l)

-- the words of the first ranges of a list, and of the others
module _ (y : List Range) (d : List ℕ) (n : ℕ) (h : n ≤ length y) where
  words-split : over (flat y) d ≡ flat (take n y) ++ (flat (drop n y) ++ drop (length (flat y)) d)
  unfolding over
  words-split =
      ap (λ (l : List Range). flat l ++ drop (length (flat y)) d) (sym (take-append-drop n y))
      ∙ ap (λ (l : List ℕ). l ++ drop (length (flat y)) d) (flat_append (take n y) (drop n y))
      ∙ append_assoc (flat (take n y)) (flat (drop n y)) (drop (length (flat y)) d)

  words_long : length (flat (take n y)) ≡ 3 * n
  words_long = length-flat (take n y) ∙ ap (λ (k : ℕ). 3 * k) (length-take-le n y h)

  words-first : take (3 * n) (over (flat y) d) ≡ flat (take n y)
  words-first = ap (take (3 * n)) words-split ∙ take_at (flat (take n y)) _ (3 * n) words_long

  words-others : take (3 * (length y - n)) (drop (3 * n) (over (flat y) d)) ≡ flat (drop n y)
  words-others =
      let x : List ℕ = drop (length (flat y)) d in
      ap (λ (l : List ℕ). take (3 * (length y - n)) (drop (3 * n) l)) words-split
      ∙ ap (take (3 * (length y - n))) (drop_at (flat (take n y)) (flat (drop n y) ++ x) (3 * n) words_long)
      ∙ take_at (flat (drop n y)) x (3 * (length y - n)) (length-flat (drop n y) ∙ ap (λ (k : ℕ). 3 * k) (length-drop n y))

-- all words
words-all : (y : List Range) (d : List ℕ) → take (3 * length y) (over (flat y) d) ≡ flat y
words-all y d = take-over (flat y) d (3 * length y) (length-flat y)

-- of a queue that holds the pools ps: the local pool p, the needed ranges y
module _ (ps : List (List Range)) (q : Queue) (p y : List Range) (b : ℕ) (size : Sized q) (begins : Begins q.window) (pools_in : q ≡ queue_rep ps q)
    (some : length ps ≤ length (joined_ranges ps)) (pos : 1 ≤ b) (few : length p ≤ 64)
    (room : length (joined_ranges ps) + length y + length p < 2048) where
  abbrev words : List ℕ
  words = over (flat y) (replicate 768 0)

  abbrev own : List ℕ
  own = pool_words (pool_rep p)

  abbrev half : ℕ
  half = (length y + 1) / 2

  own_is : own ≡ over (flat p) (replicate 192 0)
  own_is = ap (λ (l : List Range). over (flat l) (replicate 192 0)) (ranges_rep p few)

  -- the local pool last
  local : (qs : List (List Range)) (r : Queue) → r ≡ queue_rep qs q → length qs < 2048 → length (joined_ranges qs) + length p ≤ 2048
      → pushed r own (length p) ≡ queue_rep (qs ++ queued_pool p) q
  local qs r e h k = push_queued qs q r own p size begins e (ap (take (3 * length p)) own_is ∙ words-all p (replicate 192 0)) h k

  ----------------------------------------------------------------------
  -- The three cases

  abbrev by_halves : Queue
  by_halves = pushed (pushed (pushed q words half) (drop (3 * half) words) (length y - half)) own (length p)

  by_halves_lem : 2 * b < length y → by_halves ≡ queue_rep (((ps ++ (take half y ∷ [])) ++ (drop half y ∷ [])) ++ queued_pool p) q
  by_halves_lem h =
      let z : List ℕ = replicate 768 0 in
      let n : half ≤ length y = omega arith in
      let t : length (take half y) ≡ half = length-take-le half y n in
      let u : length (drop half y) ≡ length y - half = length-drop half y in
      let qs : List (List Range) = ps ++ (take half y ∷ []) in
      let rs : List (List Range) = qs ++ (drop half y ∷ []) in
      let jq = joined-more ps (take half y) in
      let jr = joined-more qs (drop half y) in
      let lq = length-append ps (take half y ∷ []) in
      let lr = length-append qs (drop half y ∷ []) in
      let first = push_rep_over ps q q words half (take half y) size begins pools_in t (words-first y z half n) (omega arith) (omega arith) (omega arith) in
      let second =
      push_rep_over qs q (pushed q words half) (drop (3 * half) words) (length y - half) (drop half y) size begins first u
      (words-others y z half n) (omega arith) (omega arith) (omega arith) in
      local rs _ second (omega arith) (omega arith)

  abbrev in_one : Queue
  in_one = pushed (pushed q words (length y)) own (length p)

  in_one_lem : b < length y → in_one ≡ queue_rep ((ps ++ (y ∷ [])) ++ queued_pool p) q
  in_one_lem h =
      let qs : List (List Range) = ps ++ (y ∷ []) in
      let jq = joined-more ps y in
      let lq = length-append ps (y ∷ []) in
      let first = push_rep_over ps q q words (length y) y size begins pools_in refl (words-all y (replicate 768 0)) (omega arith) (omega arith) (omega arith) in
      local qs _ first (omega arith) (omega arith)

  abbrev joined : Queue
  joined = pushed q (over (flat (merge (ranges_at own 0 (length p)) (ranges_at words 0 (length y)))) (replicate 960 0)) (length p + length y)

  joined_is : joined ≡ queue_rep (ps ++ queued_pool (merge p y)) q
  joined_is =
      let l : List Range = merge p y in
      let n : length l ≡ length p + length y = length-merge p y in
      let a : ranges_at own 0 (length p) ≡ p = ap (λ (z : List ℕ). ranges_at z 0 (length p)) own_is ∙ ranges_at-over p (replicate 192 0) in
      let c : ranges_at words 0 (length y) ≡ y = ranges_at-over y (replicate 768 0) in
      (λ i. pushed q (over (flat (merge (a i) (c i))) (replicate 960 0)) (sym n i))
      ∙ push_queued ps q q (over (flat l) (replicate 960 0)) l size begins pools_in (words-all l (replicate 960 0)) (omega arith) (omega arith)

  -- by the two tests
  pub requeued-is : requeued q (pool_rep p) words (length y) b ≡ queue_rep (ps ++ needed_pools b y ++ queued_pool (merge p (joining b y))) q
  unfolding requeued needed_pools joining
  requeued-is = go (ltb (2 * b) (length y)) (ltb b (length y)) refl refl
    where
      pools : Bool → Bool → List (List Range)
      pools t u = ps ++ cond t (take half y ∷ drop half y ∷ []) (cond u (y ∷ []) []) ++ queued_pool (merge p (cond u [] y))

      go : (t u : Bool) → ltb (2 * b) (length y) ≡ t → ltb b (length y) ≡ u → cond t by_halves (cond u in_one joined) ≡ queue_rep (pools t u) q
      go true true e f =
          by_halves_lem (ltb-true (2 * b) (length y) e)
          ∙ (λ i. queue_rep (append_assoc ps (take half y ∷ []) (drop half y ∷ []) i ++ queued_pool (sym (merge-nil p) i)) q)
      go true false e f = absurd (omega (arith, ltb-true (2 * b) (length y) e, ltb-false b (length y) f))
      go false true e f = in_one_lem (ltb-true b (length y) f) ∙ (λ i. queue_rep ((ps ++ (y ∷ [])) ++ queued_pool (sym (merge-nil p) i)) q)
      go false false e f = joined_is ∙ (λ i. queue_rep (sym (append-nil ps) i ++ queued_pool (merge p y)) q)
