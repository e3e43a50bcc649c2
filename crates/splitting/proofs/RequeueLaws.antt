-- Flush (3), the pools that are queued: the pushes one after the other are what the definition says, in each of its three cases,
-- whatever stands past the words that are pushed.
use mathlib.Core.Path.{◌≡◌, refl, sym, ap, ◌∙◌}
use mathlib.Core.List.{List}
use Prim.Native.Nat.{ℕ, ◌+◌, ◌-◌, ◌*◌, ◌/◌, ◌<◌, ◌≤◌}
use native.Mathlib.Omega.{arith}
use lib.ListN.{length, take, drop, replicate, length-drop}
use lib.Seq.{take_all, take-append-le, drop-append-le}
use borrow.Author.Tests.{le-ltb, lt-ltb}
use Rattle.lists.specs.Over.{over}
use Rattle.lists.proofs.Over.{get_d_over_in}
use Rattle.model.specs.Store.{Range}
use Rattle.model.specs.Ranges.{merge}
use Rattle.ranges.specs.Words.{ranges_at, flat}
use Rattle.ranges.proofs.WordLaws.{ranges_at-same, ranges_at-flat, length-ranges_at, length-flat}
use Rattle.ranges.proofs.MergeLaws.{length-merge}
use Rattle.queue.specs.State.{Queue, pushed}
use Rattle.worker.specs.declared.Pool.{Pool}
use Rattle.worker.specs.Pool.{ranges_in}
use Rattle.splitting.specs.Splitting.{pool_words, requeued, joined_after}
use Rattle.splitting.proofs.PoolLaws.{length-ranges}

------------------------------------------------------------------------
-- What stands past the words does not matter

-- a push reads the words of its n ranges
pushed-same : (q : Queue) (s t : List ℕ) (n : ℕ) → take (3 * n) s ≡ take (3 * n) t → pushed q s n ≡ pushed q t n
unfolding pushed
pushed-same q s t n e = rw e

module _ (p d e : List ℕ) where
  -- n ranges from place i on, among the words of p
  part_pad : (q : Queue) (i n : ℕ) → 3 * i + 3 * n ≤ length p → pushed q (drop (3 * i) (over p d)) n ≡ pushed q (drop (3 * i) (over p e)) n
  unfolding over
  part_pad q i n h =
      let x : List ℕ = drop (length p) d in
      let y : List ℕ = drop (length p) e in
      let k : 3 * n ≤ length (drop (3 * i) p) = rw (length-drop (3 * i) p) (omega arith) in
      let a = drop-append-le (3 * i) p x (omega arith) in
      let b = drop-append-le (3 * i) p y (omega arith) in
      pushed-same q _ _ n (rw (a, b, take-append-le (3 * n) (drop (3 * i) p) x k, take-append-le (3 * n) (drop (3 * i) p) y k))

  pushed-pad : (q : Queue) (n : ℕ) → 3 * n ≤ length p → pushed q (over p d) n ≡ pushed q (over p e) n
  pushed-pad q n h = part_pad q 0 n (omega arith)

  ranges_at-pad : (n : ℕ) → 3 * n ≤ length p → ranges_at (over p d) 0 n ≡ ranges_at (over p e) 0 n
  ranges_at-pad n h =
      ranges_at-same (over p d) (over p e) 0 0 n
      (λ t l. get_d_over_in p d (3 * 0 + t) 0 (omega arith) ∙ sym (get_d_over_in p e (3 * 0 + t) 0 (omega arith)))

-- past the needed ranges
pub requeued-pad : (q : Queue) (pool : Pool) (p d e : List ℕ) (stay size : ℕ) → 3 * stay ≤ length p
    → requeued q pool (over p d) stay size ≡ requeued q pool (over p e) stay size
unfolding requeued
requeued-pad q pool p d e stay size h =
    rw (
      pushed-pad p d e q ((stay + 1) / 2) (omega arith),
      part_pad p d e (pushed q (over p e) ((stay + 1) / 2)) ((stay + 1) / 2) (stay - (stay + 1) / 2) (omega arith),
      pushed-pad p d e q stay h,
      ranges_at-pad p d e stay h,
    )

-- and in the joined list
pub joined-pad : (pool : Pool) (p d e : List ℕ) (stay size : ℕ) (x : List ℕ) → 3 * stay ≤ length p
    → joined_after pool (over p d) stay size x ≡ joined_after pool (over p e) stay size x
joined-pad pool p d e stay size x h = rw (ranges_at-pad p d e stay h)

------------------------------------------------------------------------
-- The three cases

-- the rest of a list as a part up to its end
rest_part : (s : List ℕ) (k n : ℕ) → length s ≤ n → take (n - k) (drop k s) ≡ drop k s
rest_part s k n h = take_all (n - k) (drop k s) (rw (length-drop k s) (omega arith))

module _ (q : Queue) (pool : Pool) (words local local₀ joined₀ : List ℕ) (stay size : ℕ)
    (e : local ≡ over (flat (ranges_in pool)) local₀) where
  -- the queue after it, and what is left in the memory for the local pool's words and for the joined list
  abbrev pub Requeued : Queue → List ℕ → Type 0
  Requeued q' joined =
      (q' ≡ requeued q pool words stay size) × ((local ≡ over (flat (ranges_in pool)) local₀) × (joined ≡ joined_after pool words stay size joined₀))

  -- the local pool's words: three a range
  own : length (flat (ranges_in pool)) ≡ 3 * pool.len
  own = length-flat (ranges_in pool) ∙ ap (λ (n : ℕ). 3 * n) (length-ranges pool 0 pool.len)

  own_pushed : (q' : Queue) → pushed q' local pool.len ≡ pushed q' (pool_words pool) pool.len
  own_pushed q' = rw e (pushed-pad (flat (ranges_in pool)) local₀ (replicate 192 0) q' pool.len (omega (arith, own)))

  -- its ranges are read back
  own_read : (d : List ℕ) → ranges_at (over (flat (ranges_in pool)) d) 0 pool.len ≡ ranges_in pool
  unfolding over
  own_read d =
      ap (ranges_at (over (flat (ranges_in pool)) d) 0) (sym (length-ranges pool 0 pool.len))
      ∙ ranges_at-flat (ranges_in pool) (drop (length (flat (ranges_in pool))) d)

  -- more than twice the batch size: two pools, the first with half of them, rounded up
  pub two_pools : (q₁ q₂ q₃ : Queue) (n : ℕ) → length words ≤ n → 2 * size < stay → q₁ ≡ pushed q words ((stay + 1) / 2)
      → q₂ ≡ pushed q₁ (take (n - 3 * ((stay + 1) / 2)) (drop (3 * ((stay + 1) / 2)) words)) (stay - (stay + 1) / 2)
      → q₃ ≡ pushed q₂ local pool.len → Requeued q₃ joined₀
  unfolding requeued
  two_pools q₁ q₂ q₃ n l h a b c =
      let t : size < stay = omega arith in
      rw (lt-ltb (2 * size) stay h, lt-ltb size stay t)
      (c ∙ own_pushed q₂ ∙ rw (b, rest_part words (3 * ((stay + 1) / 2)) n l, a), (e, refl))

  -- more than the batch size: one pool
  pub one_pool : (q₁ q₂ : Queue) → stay ≤ 2 * size → size < stay → q₁ ≡ pushed q words stay → q₂ ≡ pushed q₁ local pool.len
      → Requeued q₂ joined₀
  unfolding requeued
  one_pool q₁ q₂ g h a b =
      rw (le-ltb (2 * size) stay g, lt-ltb size stay h) (b ∙ own_pushed q₁ ∙ rw a, (e, refl))

  -- else they are merged into the local pool
  pub one_merged : (q₁ : Queue) (joined : List ℕ) → stay ≤ 2 * size → stay ≤ size
      → joined ≡ over (flat (merge (ranges_at local 0 pool.len) (ranges_at words 0 stay))) joined₀
      → q₁ ≡ pushed q joined (pool.len + stay) → Requeued q₁ joined
  unfolding requeued
  one_merged q₁ joined g h a b =
      let l : List Range = merge (ranges_in pool) (ranges_at words 0 stay) in
      let r : ranges_at local 0 pool.len ≡ ranges_in pool = rw e (own_read local₀) in
      let j : joined ≡ over (flat l) joined₀ = a ∙ rw r in
      let all = length-merge (ranges_in pool) (ranges_at words 0 stay) in
      let k : 3 * (pool.len + stay) ≤ length (flat l) =
      omega (arith, length-flat l, all, length-ranges pool 0 pool.len, length-ranges_at words 0 stay) in
      rw (le-ltb (2 * size) stay g, le-ltb size stay h)
      (b ∙ rw (j, own_read (replicate 192 0)) (pushed-pad (flat l) joined₀ (replicate 960 0) q (pool.len + stay) k), (e, j))
