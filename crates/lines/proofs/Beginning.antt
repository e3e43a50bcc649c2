-- The loop that writes all lines but the last, with bytes spilled after them.
use mathlib.Core.Path.{◌≡◌, refl, subst}
use mathlib.Core.Bool.{Bool, true, false, ◌&&◌, ◌||◌}
use mathlib.Core.List.{List}
use Prim.Native.Nat.{ℕ, ◌+◌, ◌-◌, ◌/◌, ◌%◌, ◌≤◌, ◌<◌, min}
use native.Mathlib.Omega.{arith}
use borrow.Author.Tests.{ltb-true, ltb-false, leb-true}
use lib.Dec.{ltb, leb}
use lib.ListN.{length, take, drop}
use Rattle.lines.specs.Digits.{Spelled, tens_of}
use Rattle.lines.specs.Written.{Appended, Partly, OneTen}
use Rattle.lines.proofs.Counting.{Counting, counting_next}
use Rattle.lines.proofs.Filling.{partly_start}

both : (s t : Bool) → (s && t) ≡ true → (s ≡ true) × (t ≡ true)
both true t e = (refl, e)
both false true e = (e, refl)
both false false e = (e, e)

neither : (s t : Bool) → (s || t) ≡ false → (s ≡ false) × (t ≡ false)
neither true true e = (e, e)
neither true false e = (e, refl)
neither false t e = (refl, e)

-- there are lines to begin, and none has too great a number
pub record Suits (most long first : ℕ) : Type 0 where
  pub some : 3 ≤ most
  pub count : most ≤ 4294967295
  pub room : 840 ≤ long
  pub number : first ≤ 4294967295

pub suits : (most long first : ℕ)
    → ((ltb most 3 || ltb 4294967295 most) || (ltb long 840 || ltb 4294967295 first)) ≡ false → Suits most long first
suits most long first e =
    let f = neither (ltb most 3 || ltb 4294967295 most) (ltb long 840 || ltb 4294967295 first) e in
    let g = neither (ltb most 3) (ltb 4294967295 most) f.0 in
    let h = neither (ltb long 840) (ltb 4294967295 first) f.1 in
    record {
      some = ltb-false most 3 g.0;
      count = ltb-false 4294967295 most g.1;
      room = ltb-false long 840 h.0;
      number = ltb-false 4294967295 first h.1;
    }

module _ (out₀ : List ℕ) (first : ℕ) (kinds numbers : List ℕ) (most stop limit : ℕ) where
  -- before turn k: k lines are written, and the next number is kept
  pub record Beginning (out places : List ℕ) (start : ℕ) (head : List ℕ) (n last at k : ℕ) : Type 0 where
    pub suits : Suits most (length out₀) first
    pub stops : stop + 2 ≤ most
    pub limits : limit + 840 ≤ length out₀
    pub partly : Partly out₀ first kinds numbers most out at k
    pub counting : k < stop → Counting (first + k) places start head n last

  pub beginning_start : {places : List ℕ} {start : ℕ} {head : List ℕ} {n : ℕ} → Suits most (length out₀) first
      → stop + 2 ≤ most → limit + 840 ≤ length out₀ → Spelled (first / 10) places start → take n head ≡ tens_of (first / 10)
      → Beginning out₀ places start head n (48 + first % 10) 0 0
  beginning_start {places} {start} {head} {n} s g h t u =
      let e : first ≡ first + 0 = omega arith in
      record {
        suits = s;
        stops = g;
        limits = h;
        partly = partly_start out₀ first kinds numbers most;
        counting = λ x. subst (λ (x : ℕ). Counting x places start head n (48 + first % 10)) e (record { tens = t; shown = u; digit = refl });
      }

  module _ {out places : List ℕ} {start : ℕ} {head : List ℕ} {n last at k : ℕ} (b : Beginning out places start head n last at k) where
    -- what the loop's test tells
    pub record Goes : Type 0 where
      pub before : k < stop
      pub few : k + 2 < most
      pub room : at + 840 ≤ length out
      pub short : n ≤ 8

    abbrev Test : Type 0
    Test = ((ltb k stop && leb at limit) && leb n 8) ≡ true

    pub goes : Test → Goes
    goes e =
        let f = both (ltb k stop && leb at limit) (leb n 8) e in
        let g = both (ltb k stop) (leb at limit) f.0 in
        record {
          before = ltb-true k stop g.0;
          few = omega (arith, ltb-true k stop g.0, b.stops);
          room = omega (arith, leb-true at limit g.1, b.limits, b.partly.kept);
          short = leb-true n 8 f.1;
        }

    -- the digit that is kept is the number's last
    pub digit-of : Test → last ≡ 48 + (first + k) % 10
    digit-of e = (b.counting (goes e).before).digit

    -- the lines up to `end` are of one ten
    module _ {end : ℕ} (e : Test) (f : end ≡ min stop (k + (58 - last))) where
      pub ends : (k < end) × (end ≤ stop) × (last + (end - k) ≤ 58)
      ends = omega (arith, f, digit-of e, (goes e).before)

      pub one-ten : OneTen first most (length out₀) (take n head) last at k end
      one-ten =
          let g = goes e in
          record {
            shown = (b.counting g.before).shown;
            digit = digit-of e;
            ten = ends.2;
            more = omega (arith, ends.1, b.stops);
            room = omega (arith, ends.0, ends.2, digit-of e, g.room, b.partly.kept);
          }

      pub beginning-next : {out' places' head' : List ℕ} {start' n' at' : ℕ} → Partly out₀ first kinds numbers most out' at' end
          → ((q : ℕ) → Spelled q places start → Spelled (q + 1) places' start')
          → Appended (drop start' places') 0 head head' n' → Beginning out' places' start' head' n' 48 at' end
      beginning-next p u v =
          let x : first + k < 10000000000000000000 = omega (arith, b.suits.number, b.suits.count, b.partly.within) in
          record {
            suits = b.suits;
            stops = b.stops;
            limits = b.limits;
            partly = p;
            counting = λ h. counting_next (b.counting (goes e).before) (omega (arith, f, h)) x u v;
          }
