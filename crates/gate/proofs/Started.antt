-- The start of a worker by the place where its operation begins.
use mathlib.Core.Path.{◌≡◌, refl, sym, ap, ◌∙◌}
use mathlib.Core.Bool.{Bool, true, false, cond}
use Prim.Native.Nat.{ℕ, ◌<◌, ◌≤◌}
use lib.Dec.{eqb}
use borrow.Author.Tests.{lt-ltb, le-ltb}
use Rattle.std.proofs.Common.{Result, Ok, Err}
use Rattle.model.specs.Record.{Operation}
use Rattle.model.specs.Apply.{Seen}
use Rattle.worker.specs.declared.Doing.{Doing}
use Rattle.gate.specs.declared.Gate.{Gate}
use Rattle.gate.specs.declared.Gate.TheVariants.{Start}
use Rattle.gate.specs.Gate.{placed, started, begin_gate}

-- worker w starts at the place, or the refusal stays
abbrev pub start_at : ℕ → Result Doing ℕ → Result Gate ℕ
start_at w (Ok d) = Ok (Start w d)
start_at w (Err k) = Err k

start_by : (b : Bool) (w k : ℕ) (d : Doing) → start_at w (cond b (Ok d) (Err k)) ≡ cond b (Ok (Start w d)) (Err k)
start_by true w k d = refl
start_by false w k d = refl

module _ (p w i : ℕ) (y : Seen) (o : Operation) (e : i ≡ w) where
  -- a worker below p starts where its operation begins,
  pub begun : i < p → {x : Result Doing ℕ} → x ≡ placed y w o → start_at w x ≡ begin_gate p y w o
  unfolding placed started begin_gate
  begun h f = rw (f, ← e, lt-ltb _ _ h) (start_by _ _ _ _)

  -- and another is refused
  pub not-below : p ≤ i → Err 3 ≡ begin_gate p y w o
  unfolding begin_gate
  not-below h = rw (← e, le-ltb _ _ h)
