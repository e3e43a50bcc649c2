-- Flush (3): the split and the pools queued, put together, as what it answers and leaves, whatever the space that it works in held.
use mathlib.Core.Path.{◌≡◌, refl, ap, ◌∙◌}
use mathlib.Core.Bool.{Bool, true, false, cond, not}
use mathlib.Core.List.{List, [], ◌∷◌, reverse}
use Prim.Native.Nat.{ℕ, suc, ◌+◌, ◌-◌, ◌*◌, ◌≤◌}
use native.Mathlib.Omega.{arith}
use lib.ListN.{length, take, replicate}
use Rattle.lists.specs.Over.{over}
use Rattle.model.specs.Store.{Range}
use Rattle.model.specs.Ranges.{needed, filter, needed_of, needless_of}
use Rattle.ranges.specs.Words.{ranges_at, flat}
use Rattle.ranges.proofs.WordLaws.{length-ranges_at, length-flat}
use Rattle.worker.specs.declared.Pool.{Pool}
use Rattle.worker.specs.Pool.{ranges_in}
use Rattle.queue.specs.State.{Queue}
use Rattle.arrays.specs.Arrays.{short}
use Rattle.flush.specs.Flush.{part_of, with_part, times_of}
use Rattle.splitting.specs.Splitting.{requeued, joined_after, may_cut, needless_by, needed_by}
use Rattle.splitting.specs.Splitting.{split_left, split_queue, split_merged, split_needed, split_local, split_joined}
use Rattle.splitting.proofs.RequeueLaws.{requeued-pad, joined-pad}

-- the needed and the needless ranges are all ranges
parts : (p : Range → Bool) (l : List Range) → length (filter p l) + length (filter (λ ρ. not (p ρ)) l) ≡ length l
unfolding filter
parts p [] = refl
parts p (x ∷ l) =
    let h = parts p l in
    let y = filter p l in
    let n = filter (λ ρ. not (p ρ)) l in
    elim (p x) as (λ b. length (cond b (x ∷ y) y) + length (cond (not b) (x ∷ n) n) ≡ suc (length l))
    [ true ↦ omega arith | false ↦ omega arith ]

-- so as many are needed as are not needless
needed-long : (ts s : List ℕ) (n k : ℕ) → k ≡ length (needless_of ts (ranges_at s 0 n)) → 3 * (n - k) ≤ length (flat (needed_of ts (ranges_at s 0 n)))
needed-long ts s n k e =
    let h = parts (needed ts) (ranges_at s 0 n) in
    let all = length-ranges_at s 0 n in
    rw (length-flat (needed_of ts (ranges_at s 0 n))) (omega (arith, h, all, e))

------------------------------------------------------------------------
-- What it answers and leaves

module _ (q : Queue) (merged times needed₀ local₀ joined₀ : List ℕ) (w m t b : ℕ) (pool : Pool) where
  -- how many ranges are left to free, the queue, the merged lists, and the space for the needed ranges, the local pool and the joined list
  abbrev pub Split : ℕ → Queue → List ℕ → List ℕ → List ℕ → List ℕ → Type 0
  Split left q' merged' needed' local' joined' =
      (left ≡ split_left merged w m times t pool)
      × ((q' ≡ split_queue q merged w m times t b pool)
      × ((merged' ≡ split_merged merged w m times t pool)
      × ((needed' ≡ split_needed merged w m times t pool needed₀)
      × ((local' ≡ split_local w m t pool local₀)
      × (joined' ≡ split_joined merged w m times t b pool joined₀)))))

  -- the counts allow none
  pub split_none : may_cut w m t pool.len ≡ false → Split 0 q merged needed₀ local₀ joined₀
  unfolding split_left split_queue split_merged split_needed split_local split_joined
  split_none n = rw n (refl, (refl, (refl, (refl, (refl, refl)))))

  pub split_some : (k : ℕ) (q' : Queue) (merged' needed' local' joined' : List ℕ) → may_cut w m t pool.len ≡ true
      → k ≡ length (needless_by merged w m times t)
      → merged' ≡ with_part merged w (over (flat (reverse (needless_by merged w m times t))) (part_of merged w))
      → needed' ≡ over (flat (needed_by merged w m times t)) needed₀
      → q' ≡ requeued q pool needed' (m - k) b
      → local' ≡ over (flat (ranges_in pool)) local₀
      → joined' ≡ joined_after pool needed' (m - k) b joined₀
      → Split (short k) q' merged' needed' local' joined'
  unfolding split_left split_queue split_merged split_needed split_local split_joined
  split_some k q' merged' needed' local' joined' y ek em en eq el ej =
      let words : List ℕ = flat (needed_by merged w m times t) in
      let zeros : List ℕ = replicate 768 0 in
      let h : 3 * (m - k) ≤ length words = needed-long (take t (times_of times w)) (part_of merged w) m k ek in
      let queued : q' ≡ requeued q pool (over words zeros) (m - k) b =
      eq ∙ ap (λ (l : List ℕ). requeued q pool l (m - k) b) en ∙ requeued-pad q pool words needed₀ zeros (m - k) b h in
      let joined : joined' ≡ joined_after pool (over words zeros) (m - k) b joined₀ =
      ej ∙ ap (λ (l : List ℕ). joined_after pool l (m - k) b joined₀) en ∙ joined-pad pool words needed₀ zeros (m - k) b joined₀ h in
      rw (y, ← ek) (refl, (queued, (em, (en, (el, joined)))))
