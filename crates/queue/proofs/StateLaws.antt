-- When a pool may be pushed and pools may be taken: the tests as facts, and the facts as tests. What was merged and moved is what is taken.
use mathlib.Core.Path.{◌≡◌, refl, sym, ◌∙◌}
use mathlib.Core.Bool.{Bool, true, false, ◌&&◌}
use mathlib.Core.List.{List}
use Prim.Native.Nat.{ℕ, ◌+◌, ◌≤◌, ◌<◌}
use native.Mathlib.Omega.{arith}
use lib.Dec.{leb}
use borrow.Author.Tests.{leb-true, lt-ltb, le-leb}
use Rattle.lists.specs.Over.{over}
use Rattle.model.specs.Ranges.{merge}
use Rattle.ranges.specs.Words.{ranges_at, flat}
use Rattle.ranges.proofs.WordLaws.{length-ranges_at}
use Rattle.ranges.proofs.MergeLaws.{length-merge}
use Rattle.values.specs.declared.Window.{Window}
use Rattle.queue.specs.State.{Queue, lies, room, first_length, second_length, first_ranges, may_take, taken, moved_on, rest, Took}

-- two tests that both hold
both : (a b : Bool) → a && b ≡ true → (a ≡ true) × (b ≡ true)
both true b e = (refl, e)
both false b e = let z : ◌≡◌ {A = ℕ} 0 1 = cc in absurd (omega arith)

-- a window that lies in the memory
pub record LiesIn (w : Window) : Type 0 where
  pub first : w.first ≤ 2048
  pub pools : w.pools ≤ 2048
  pub from : w.from ≤ 2048
  pub queued : w.queued ≤ 2048

module _ (w : Window) where
  pub lies-facts : lies w ≡ true → LiesIn w
  unfolding lies
  lies-facts e =
      let l = both (leb w.first 2048 && leb w.pools 2048) (leb w.from 2048 && leb w.queued 2048) e in
      let a = both (leb w.first 2048) (leb w.pools 2048) l.0 in
      let b = both (leb w.from 2048) (leb w.queued 2048) l.1 in
      record {
        first = leb-true w.first 2048 a.0;
        pools = leb-true w.pools 2048 a.1;
        from = leb-true w.from 2048 b.0;
        queued = leb-true w.queued 2048 b.1;
      }

  pub lies-yes : LiesIn w → lies w ≡ true
  unfolding lies
  lies-yes l = rw (le-leb w.first 2048 l.first, le-leb w.pools 2048 l.pools, le-leb w.from 2048 l.from, le-leb w.queued 2048 l.queued)

  pub room-yes : (n : ℕ) → LiesIn w → 0 < n → w.pools < 2048 → w.queued + n ≤ 2048 → room w n ≡ true
  unfolding room
  room-yes n l a b c = rw (lies-yes l, lt-ltb 0 n a, lt-ltb w.pools 2048 b, le-leb (w.queued + n) 2048 c)

module _ (q : Queue) where
  abbrev w : Window
  w = q.window

  pub may_facts : may_take q ≡ true → (lies w ≡ true) × (first_ranges q ≤ w.queued) × (first_ranges q ≤ 256)
  unfolding may_take
  may_facts e =
      let l = both (lies w) (leb (first_ranges q) w.queued && leb (first_ranges q) 256) e in
      let k = both (leb (first_ranges q) w.queued) (leb (first_ranges q) 256) l.1 in
      (l.0, leb-true (first_ranges q) w.queued k.0, leb-true (first_ranges q) 256 k.1)

  pub may_yes : LiesIn w → first_ranges q ≤ w.queued → first_ranges q ≤ 256 → may_take q ≡ true
  unfolding may_take
  may_yes l c d = rw (lies-yes w l, le-leb (first_ranges q) w.queued c, le-leb (first_ranges q) 256 d)

  -- where pools may be taken, the two that were merged and the window moved on are what is taken and what is left
  pub took : (left : Queue) (merged₀ merged : List ℕ) (a b : ℕ) → may_take q ≡ true → a ≡ first_length q → b ≡ second_length q
      → merged ≡ over (flat (merge (ranges_at q.queue w.from a) (ranges_at q.queue (w.from + a) b))) merged₀
      → left ≡ moved_on q (a + b) → Took q left merged₀ merged (a + b)
  unfolding taken rest
  took left merged₀ merged a b may ea eb m el =
      record {
        counted = rw (may, ← ea, ← eb) (sym (length-merge (ranges_at q.queue w.from a) (ranges_at q.queue (w.from + a) b)
            ∙ rw (length-ranges_at q.queue w.from a, length-ranges_at q.queue (w.from + a) b)));
        written = rw (may, ← ea, ← eb) m;
        left = rw (may, ← ea, ← eb) el;
      }
