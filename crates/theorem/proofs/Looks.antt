-- The operations that are shown something and change no plain register: get, read, marked read and total.
use mathlib.Core.Path.{◌≡◌, refl}
use mathlib.Core.Bool.{true}
use Prim.Native.Nat.{ℕ}
use Rattle.model.specs.Record.{Operation, Read, Get, Total, MarkedRead}
use Rattle.model.specs.Demand.{Plain, feed, at_end, showing}

pub record Looks (c : Operation) : Type 0 where
  pub end : at_end c ≡ true
  pub shown : showing c ≡ true
  pub feeds : (p : Plain) (w : ℕ) → feed p w c ≡ p

pub looks_read : (r : ℕ) → Looks (Read r)
unfolding at_end feed
looks_read r = record { end = refl; shown = refl; feeds = λ p w. refl }

pub looks_get : (r : ℕ) → Looks (Get r)
unfolding at_end feed
looks_get r = record { end = refl; shown = refl; feeds = λ p w. refl }

pub looks_marked : (r m : ℕ) → Looks (MarkedRead r m)
unfolding at_end feed
looks_marked r m = record { end = refl; shown = refl; feeds = λ p w. refl }

pub looks_total : (g : ℕ) → Looks (Total g)
unfolding at_end feed
looks_total g = record { end = refl; shown = refl; feeds = λ p w. refl }
