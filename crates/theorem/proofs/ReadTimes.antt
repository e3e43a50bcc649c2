-- What a flush reads in one step (H5.17, H13.2): the time of the next worker, or behind the last worker those of all marks.
use mathlib.Core.Path.{◌≡◌, sym, ap, ◌∙◌}
use mathlib.Core.Logic.{◌⊎◌, inl, inr}
use mathlib.Core.Bool.{true, false}
use mathlib.Core.List.{List, [], ◌∷◌}
use Prim.Native.Nat.{ℕ, zero, suc, ◌+◌, ◌≤◌, ◌<◌}
use native.Mathlib.Omega.{arith}
use lib.Dec.{ltb}
use lib.ListN.{length, get_or}
use borrow.Author.Tests as Tests
use Rattle.model.specs.Store.{absent, mark_count, Store, worker_at, holders, held}
use Rattle.model.specs.Steps.{read_times}
use Rattle.model.proofs.Basic.{cond_both}
use Rattle.theorem.proofs.Invariant.{held-worker, held-mark}

-- a list of the times of holders, from holder k on
abbrev pub ReadAs : Store → ℕ → List ℕ → Type 0
ReadAs s k l =
    ((k + length l + mark_count ≤ holders s) ⊎ (k + length l ≡ holders s)) × ((i : ℕ) → i < length l → get_or l i absent ≡ held s (k + i))

abbrev pub Reads : Store → ℕ → Type 0
Reads s k = ReadAs s k (read_times s k)

pub reads : (s : Store) (k : ℕ) → length s.marks ≡ mark_count → k ≤ s.site.P → Reads s k
unfolding read_times
reads s k lm b = cond_both (ReadAs s k) (ltb k s.site.P) _ _ worker marks
  where
    worker : ltb k s.site.P ≡ true → ReadAs s k ((worker_at s k).announced ∷ [])
    worker u = (inl (omega (arith, Tests.ltb-true k s.site.P u)), go)
      where
        go : (i : ℕ) → i < 1 → get_or ((worker_at s k).announced ∷ []) i absent ≡ held s (k + i)
        go zero z = sym (held-worker s k (Tests.ltb-true k s.site.P u)) ∙ ap (held s) (let e : k ≡ k + 0 = omega arith in e)
        go (suc i) z = absurd (omega (arith, z))

    marks : ltb k s.site.P ≡ false → ReadAs s k s.marks
    marks u =
        let e : k ≡ s.site.P = omega (arith, Tests.ltb-false k s.site.P u) in
        (inr (omega (arith, e, lm)), λ i z. sym (held-mark s i) ∙ ap (λ (j : ℕ). held s (j + i)) (sym e))
