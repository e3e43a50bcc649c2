-- The loop that writes the last lines, each exactly.
use mathlib.Core.Path.{◌≡◌, subst, ◌∙◌}
use mathlib.Core.List.{List}
use Prim.Native.Nat.{ℕ, ◌+◌, ◌≤◌, ◌<◌}
use native.Mathlib.Omega.{arith}
use lib.ListN.{length, get_or}
use Rattle.lines.specs.Digits.{Spelled}
use Rattle.lines.specs.Written.{LineAppended, Partly}
use Rattle.lines.proofs.Filling.{partly-line}

module _ (first : ℕ) (kinds numbers : List ℕ) (most : ℕ) (out₀ : List ℕ) (begun from : ℕ) where
  -- before turn k: what was written in part still is, and the places spell the next number
  pub record Ending (out places : List ℕ) (start at k : ℕ) : Type 0 where
    pub kept : length out ≡ length out₀
    pub number : Spelled (first + k) places start
    pub partly : (d : List ℕ) → Partly d first kinds numbers most out₀ begun from → Partly d first kinds numbers most out at k

  pub ending_turn :
      {out places : List ℕ} {start at k : ℕ} {out' places' : List ℕ} {start' at' : ℕ}
      → Ending out places start at k
      → k < most
      → length out' ≡ length out
      → ((n : ℕ) → Spelled n places start → LineAppended n (get_or kinds k 0) (get_or numbers k 0) at out out' at')
      → ((x : ℕ) → Spelled x places start → Spelled (x + 1) places' start')
      → Ending out' places' start' at' (k + 1)
  ending_turn {k = k} {places' = places'} {start' = start'} f h l w u =
      let m : first + k + 1 ≡ first + (k + 1) = omega arith in
      record {
        kept = l ∙ f.kept;
        number = subst (λ (x : ℕ). Spelled x places' start') m (u (first + k) f.number);
        partly = λ d p. partly-line d first kinds numbers most (f.partly d p) h l (w (first + k) f.number);
      }

  pub ending_end : {out places : List ℕ} {start at k : ℕ} → Ending out places start at k → most ≤ k
      → (d : List ℕ) → Partly d first kinds numbers most out₀ begun from → Partly d first kinds numbers most out at most
  ending_end {out} {places} {start} {at} {k} f h d p =
      let q = f.partly d p in
      let e : k ≡ most = omega (arith, q.within) in
      subst (λ (x : ℕ). Partly d first kinds numbers most out at x) e q
