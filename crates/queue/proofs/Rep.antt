-- The queue's memory as the model's queue: a pool pushed is one more at the model's end, and what is taken are the model's first two pools.
-- Memory that holds the pools ps has their words and lengths at its front, so that each fact is one on the two lists of entries.
use mathlib.Core.Path.{◌≡◌, refl, sym, ap, ◌∙◌}
use mathlib.Core.Bool.{Bool, true, false, cond, and-false}
use mathlib.Core.List.{List, [], ◌∷◌, ◌++◌, map, map-append, append-nil, append_assoc}
use Prim.Native.Nat.{ℕ, zero, suc, ◌+◌, ◌-◌, ◌*◌, ◌≤◌, ◌<◌, min}
use native.Mathlib.Omega.{arith}
use lib.Dec.{leb}
use lib.ListN.{length, take, drop, get_or, set, length-append, length-take, length-drop, length-map, take-append-drop}
use lib.Seq.{drop_at, drop-drop}
use borrow.Author.Tests.{leb-true, le-leb, lt-leb}
use Rattle.lists.specs.Over.{over, over_at, shifted}
use Rattle.lists.proofs.Over.{take-over}
use Rattle.model.specs.Store.{Range}
use Rattle.model.specs.Ranges.{merge, first_two, queued_pool}
use Rattle.model.specs.Demand.{All}
use Rattle.model.proofs.Basic.{cond_both}
use Rattle.ranges.specs.Words.{ranges_at, flat}
use Rattle.ranges.proofs.WordLaws.{length-flat, ranges_at-drop, ranges_at-flat}
use Rattle.ranges.proofs.MergeLaws.{merge-nil, length-merge}
use Rattle.values.specs.declared.Window.{Window}
use Rattle.queue.specs.State.{Queue, Begins, lies, room, pushed, first_ranges, may_take, taken, moved_on, rest}
use Rattle.queue.specs.Rep.{joined_ranges, window_at, queue_rep, with_window, window_after}
use Rattle.queue.proofs.MemoryLaws.{over_at-more, over_at-one, over_at-again, drop-over_at, held-behind, held_moved}
use Rattle.queue.proofs.StateLaws.{LiesIn, room-yes, may_yes}

------------------------------------------------------------------------
-- Pools and ranges, one after the other

pub flat_append : (l m : List Range) → flat (l ++ m) ≡ flat l ++ flat m
flat_append [] m = refl
flat_append (ρ ∷ l) m = rw (flat_append l m)

pub joined-append : (ps qs : List (List Range)) → joined_ranges (ps ++ qs) ≡ joined_ranges ps ++ joined_ranges qs
joined-append [] qs = refl
joined-append (p ∷ ps) qs = rw (joined-append ps qs) (sym (append_assoc p (joined_ranges ps) (joined_ranges qs)))

-- the ranges l that stand behind those of a
pub ranges_at-behind : (a l : List Range) (d : List ℕ) → ranges_at (flat a ++ (flat l ++ d)) (length a) (length l) ≡ l
ranges_at-behind a l d =
    sym (ranges_at-drop (flat a ++ (flat l ++ d)) (length a) (length l))
    ∙ rw (drop_at (flat a) (flat l ++ d) (3 * length a) (length-flat a)) (ranges_at-flat l d)

-- the ranges written to memory are read back, and so is a part of them
pub ranges_at-over : (l : List Range) (d : List ℕ) → ranges_at (over (flat l) d) 0 (length l) ≡ l
unfolding over
ranges_at-over l d = ranges_at-flat l (drop (length (flat l)) d)

pub ranges_at-over_part : (a l b : List Range) (d : List ℕ) → ranges_at (over (flat (a ++ (l ++ b))) d) (length a) (length l) ≡ l
unfolding over
ranges_at-over_part a l b d =
    let x : List ℕ = drop (length (flat (a ++ (l ++ b)))) d in
    let e : flat (a ++ (l ++ b)) ++ x ≡ flat a ++ (flat l ++ (flat b ++ x)) =
    rw (flat_append a (l ++ b), flat_append l b, append_assoc, append_assoc) in
    rw e (ranges_at-behind a l (flat b ++ x))

-- behind place i they are at place i + j
pub ranges_at-behind_drop : (d : List ℕ) (i j n : ℕ) → ranges_at (drop (3 * i) d) j n ≡ ranges_at d (i + j) n
ranges_at-behind_drop d i j n =
    let e : 3 * i + 3 * j ≡ 3 * (i + j) = omega arith in
    sym (ranges_at-drop (drop (3 * i) d) j n)
    ∙ ap (λ (l : List ℕ). ranges_at l 0 n) (drop-drop (3 * j) (3 * i) d ∙ rw e)
    ∙ ranges_at-drop d (i + j) n

------------------------------------------------------------------------
-- The first two pools

-- the first two lengths
first_two_lem : (ps : List (List Range)) → get_or (map length ps) 0 0 + get_or (map length ps) 1 0 ≡ length (joined_ranges (take 2 ps))
first_two_lem [] = refl
first_two_lem (p ∷ []) = simp length-append
first_two_lem (p ∷ r ∷ ps) = simp length-append (omega arith)

pub length-first_two : (ps : List (List Range)) → length (first_two ps) ≡ length (joined_ranges (take 2 ps))
unfolding first_two
length-first_two [] = refl
length-first_two (p ∷ []) = simp length-append (omega arith)
length-first_two (p ∷ r ∷ ps) = length-merge p r ∙ simp length-append (omega arith)

-- the pools' words are where their lengths say
merged_two : (ps : List (List Range)) (d : List ℕ)
    → merge (ranges_at (over (flat (joined_ranges ps)) d) 0 (get_or (map length ps) 0 0))
    (ranges_at (over (flat (joined_ranges ps)) d) (get_or (map length ps) 0 0) (get_or (map length ps) 1 0)) ≡ first_two ps
unfolding first_two merge
merged_two [] d = refl
merged_two (p ∷ []) d = merge-nil (ranges_at (over (flat (p ++ [])) d) 0 (length p)) ∙ ranges_at-over_part [] p [] d
merged_two (p ∷ r ∷ ps) d =
    let w : List ℕ = over (flat (p ++ (r ++ joined_ranges ps))) d in
    let a : ranges_at w 0 (length p) ≡ p = ranges_at-over_part [] p (r ++ joined_ranges ps) d in
    let b : ranges_at w (length p) (length r) ≡ r = ranges_at-over_part p r (joined_ranges ps) d in
    rw (a, b)

joined-split : (ps : List (List Range)) → joined_ranges ps ≡ joined_ranges (take 2 ps) ++ joined_ranges (drop 2 ps)
joined-split ps = ap joined_ranges (sym (take-append-drop 2 ps)) ∙ joined-append (take 2 ps) (drop 2 ps)

length-joined : (ps : List (List Range)) → length (joined_ranges ps) ≡ length (joined_ranges (take 2 ps)) + length (joined_ranges (drop 2 ps))
length-joined ps = ap length (joined-split ps) ∙ length-append (joined_ranges (take 2 ps)) (joined_ranges (drop 2 ps))

lengths_split : (ps : List (List Range)) → map length ps ≡ map length (take 2 ps) ++ map length (drop 2 ps)
lengths_split ps = ap (map length) (sym (take-append-drop 2 ps)) ∙ map-append length (take 2 ps) (drop 2 ps)

-- they are those that are gone where they were taken
first_gone : (ps : List (List Range)) → take (length ps - length (drop 2 ps)) ps ≡ take 2 ps
first_gone [] = refl
first_gone (p ∷ []) = refl
first_gone (p ∷ r ∷ ps) = let e : suc (suc (length ps)) - length ps ≡ 2 = omega arith in rw e

------------------------------------------------------------------------
-- Memory that holds pools

-- two queues are the same where their parts are
same_queue : {q q' : Queue} → q.queue ≡ q'.queue → q.lens ≡ q'.lens → q.window ≡ q'.window → q ≡ q'
same_queue a b c = λ i. record { queue = a i; lens = b i; window = c i }

-- two windows are the same where their numbers are
same_window : {w w' : Window} → w.first ≡ w'.first → w.pools ≡ w'.pools → w.from ≡ w'.from → w.queued ≡ w'.queued → w ≡ w'
same_window a b c d = λ i. record { first = a i; pools = b i; from = c i; queued = d i }

-- a window that begins elsewhere, with two pools of r ranges less
abbrev moved_window : ℕ → ℕ → Window → ℕ → Window
moved_window first from w r = record { first = first; pools = w.pools - 2; from = from; queued = w.queued - r }

-- the two pieces of memory have the lengths that their types give
pub record Sized (q : Queue) : Type 0 where
  pub queue : length q.queue ≡ 12288
  pub lens : length q.lens ≡ 4096

-- the window begins inside both
pub words_inside : (q : Queue) → Sized q → Begins q.window → 3 * q.window.from ≤ length q.queue
words_inside q z b = omega (arith, z.queue, b.from)

pub lengths_inside : (q : Queue) → Sized q → Begins q.window → q.window.first ≤ length q.lens
lengths_inside q z b = omega (arith, z.lens, b.first, b.from)

-- memory over which pools were written holds them
pub rep_holds : (ps : List (List Range)) (q₀ q : Queue) → Sized q₀ → Begins q₀.window → q ≡ queue_rep ps q₀ → q ≡ queue_rep ps q
rep_holds ps q₀ q z b e =
    e
    ∙ same_queue (sym (over_at-again (3 * q₀.window.from) (flat (joined_ranges ps)) q₀.queue (words_inside q₀ z b)))
    (sym (over_at-again q₀.window.first (map length ps) q₀.lens (lengths_inside q₀ z b))) refl
    ∙ ap (queue_rep ps) (sym e)

------------------------------------------------------------------------
-- The window

-- no pool was taken
pub window_kept : (ps qs : List (List Range)) (w : Window) → length ps ≤ length qs → window_after ps qs w ≡ window_at qs w.first w.from
unfolding window_after
window_kept ps qs w h = rw (le-leb (length ps) (length qs) h)

-- the first two were taken
window_taken : (ps : List (List Range)) (w : Window) → Begins w → window_after ps (drop 2 ps) w
    ≡ cond (leb (w.from + length (joined_ranges (take 2 ps))) 2048)
    (window_at (drop 2 ps) (w.first + length (take 2 ps)) (w.from + length (joined_ranges (take 2 ps)))) (window_at (drop 2 ps) 0 0)
unfolding window_after
window_taken [] w b =
    let e : w.from + 0 ≡ w.from = omega arith in
    let f : w.first + 0 ≡ w.first = omega arith in
    rw (e, f, le-leb w.from 2048 b.from)
window_taken (p ∷ ps) w b =
    rw (lt-leb (length (p ∷ ps)) (length (drop 2 (p ∷ ps))) (omega (arith, length-drop 2 (p ∷ ps))), first_gone (p ∷ ps))

-- pools that are not empty are not more than their ranges
pools_ranges : (ps : List (List Range)) → All (λ l. 1 ≤ length l) ps → length ps ≤ length (joined_ranges ps)
pools_ranges [] t = omega arith
pools_ranges (p ∷ ps) t = omega (arith, t.0, pools_ranges ps t.1, length-append p (joined_ranges ps))

all_take : (P : List Range → Type 0) (n : ℕ) (ps : List (List Range)) → All P ps → All P (take n ps)
all_take P zero ps t = tt
all_take P (suc n) [] t = tt
all_take P (suc n) (p ∷ ps) t = (t.0, all_take P n ps t.1)

-- it begins in the first half of the memory
pub begins_after : (ps qs : List (List Range)) (w : Window) → All (λ l. 1 ≤ length l) ps → Begins w → Begins (window_after ps qs w)
unfolding window_after
begins_after ps qs w t b =
    let gone : List (List Range) = take (length ps - length qs) ps in
    cond_both Begins (leb (length ps) (length qs)) _ _ (λ e. record { first = b.first; from = b.from })
    (λ e. cond_both Begins (leb (w.from + length (joined_ranges gone)) 2048) _ _
    (λ f. record {
      first = omega (arith, b.first, pools_ranges gone (all_take (λ l. 1 ≤ length l) (length ps - length qs) ps t));
      from = leb-true (w.from + length (joined_ranges gone)) 2048 f;
    })
    (λ f. record { first = omega arith; from = omega arith }))

------------------------------------------------------------------------
-- A pool more

-- an empty pool is not queued
pub push_none : (q : Queue) (src : List ℕ) → pushed q src 0 ≡ q
unfolding room pushed
push_none q src = rw (and-false (lies q.window))

-- a pool pushed is the model's last. The memory q may have come from q₀ by other changes.
pub push_rep_over : (ps : List (List Range)) (q₀ q : Queue) (src : List ℕ) (n : ℕ) (l : List Range) → Sized q₀ → Begins q₀.window
    → q ≡ queue_rep ps q₀ → length l ≡ n → take (3 * n) src ≡ flat l → 0 < n → length ps < 2048 → length (joined_ranges ps) + n ≤ 2048
    → pushed q src n ≡ queue_rep (ps ++ (l ∷ [])) q₀
unfolding pushed
push_rep_over ps q₀ q src n l z b e f g pos hp hr =
    let w : Window = q₀.window in
    let j : List Range = joined_ranges ps in
    let more : joined_ranges (ps ++ (l ∷ [])) ≡ j ++ l = joined-append ps (l ∷ []) ∙ ap (λ (r : List Range). j ++ r) (append-nil l) in
    let words : over_at (3 * (w.from + length j)) (take (3 * n) src) (over_at (3 * w.from) (flat j) q₀.queue)
    ≡ over_at (3 * w.from) (flat (joined_ranges (ps ++ (l ∷ [])))) q₀.queue =
    rw (g, more, flat_append j l) (over_at-more (3 * w.from) (3 * (w.from + length j)) (flat j) (flat l) q₀.queue (words_inside q₀ z b)
    (omega (arith, length-flat j))) in
    let lengths : set (over_at w.first (map length ps) q₀.lens) (w.first + length ps) n
    ≡ over_at w.first (map length (ps ++ (l ∷ []))) q₀.lens =
    rw (map-append length ps (l ∷ []), f) (over_at-one w.first (w.first + length ps) (map length ps) q₀.lens n
    (omega (arith, length-map ps length)) (omega (arith, z.lens, b.first, b.from))) in
    let ranges : length j + n ≡ length (joined_ranges (ps ++ (l ∷ []))) = rw (more, length-append j l, f) in
    let lies : LiesIn (window_at ps w.first w.from) =
    record { first = omega (arith, b.first, b.from); pools = omega arith; from = b.from; queued = omega arith } in
    ap (λ (r : Queue). pushed r src n) e ∙ rw (room-yes (window_at ps w.first w.from) n lies pos hp hr)
    (same_queue words lengths (same_window refl (sym (length-append ps (l ∷ []))) refl ranges))

-- H5.23: a pool is queued if it is not empty
pub push_queued : (ps : List (List Range)) (q₀ q : Queue) (src : List ℕ) (l : List Range) → Sized q₀ → Begins q₀.window
    → q ≡ queue_rep ps q₀ → take (3 * length l) src ≡ flat l → length ps < 2048 → length (joined_ranges ps) + length l ≤ 2048
    → pushed q src (length l) ≡ queue_rep (ps ++ queued_pool l) q₀
unfolding queued_pool
push_queued ps q₀ q src [] z b e g hp hr = push_none q src ∙ e ∙ ap (λ (r : List (List Range)). queue_rep r q₀) (sym (append-nil ps))
push_queued ps q₀ q src (ρ ∷ l) z b e g hp hr = push_rep_over ps q₀ q src (length (ρ ∷ l)) (ρ ∷ l) z b e refl g (omega arith) hp hr

------------------------------------------------------------------------
-- Up to two pools less

module _ (ps : List (List Range)) (q : Queue) (z : Sized q) (b : Begins q.window) (e : q ≡ queue_rep ps q) where
  abbrev w : Window
  w = q.window

  pools_held : w.pools ≡ length ps
  pools_held = ap (λ (r : Queue). r.window.pools) e

  queued_held : w.queued ≡ length (joined_ranges (take 2 ps)) + length (joined_ranges (drop 2 ps))
  queued_held = ap (λ (r : Queue). r.window.queued) e ∙ length-joined ps

  -- what stands behind the window's beginning
  pub lens_held : drop w.first q.lens ≡ over (map length ps) (drop w.first q.lens)
  lens_held =
      ap (drop w.first) (ap (λ (r : Queue). r.lens) e) ∙ drop-over_at w.first (map length ps) q.lens (lengths_inside q z b)

  pub words-held : drop (3 * w.from) q.queue ≡ over (flat (joined_ranges ps)) (drop (3 * w.from) q.queue)
  words-held =
      ap (drop (3 * w.from)) (ap (λ (r : Queue). r.queue) e)
      ∙ drop-over_at (3 * w.from) (flat (joined_ranges ps)) q.queue (words_inside q z b)

  lengths_held : take w.pools (drop w.first q.lens) ≡ map length ps
  lengths_held =
      rw pools_held (ap (take (length ps)) lens_held ∙ take-over (map length ps) (drop w.first q.lens) (length ps) (length-map ps length))

  ranges_held : first_ranges q ≡ length (joined_ranges (take 2 ps))
  ranges_held = rw lengths_held (first_two_lem ps)

  may_take-rep : length ps ≤ 2048 → length (joined_ranges ps) ≤ 2048 → length (first_two ps) ≤ 256 → may_take q ≡ true
  may_take-rep hp hr ht =
      let p = pools_held in
      let t = queued_held in
      let r = ranges_held in
      may_yes q (record { first = omega (arith, b.first, b.from); pools = omega arith; from = b.from; queued = omega (arith, length-joined ps) })
      (omega arith) (omega (arith, length-first_two ps))

  taken-rep : may_take q ≡ true → taken q ≡ first_two ps
  unfolding taken
  taken-rep may =
      let d : List ℕ = drop (3 * w.from) q.queue in
      let la : ℕ = get_or (map length ps) 0 0 in
      let lb : ℕ = get_or (map length ps) 1 0 in
      rw (may, lengths_held) (rw (← ranges_at-drop q.queue w.from la, ← ranges_at-behind_drop q.queue w.from la lb)
      (ap (λ (l : List ℕ). merge (ranges_at l 0 la) (ranges_at l la lb)) words-held ∙ merged_two ps d))

  abbrev j : List Range
  j = joined_ranges (take 2 ps)

  abbrev k : List Range
  k = joined_ranges (drop 2 ps)

  words-in_two : q.queue ≡ over_at (3 * w.from) (flat j ++ flat k) q.queue
  words-in_two =
      ap (λ (r : Queue). r.queue) e ∙ ap (λ (l : List ℕ). over_at (3 * w.from) l q.queue) (ap flat (joined-split ps) ∙ flat_append j k)

  lengths_in_two : q.lens ≡ over_at w.first (map length (take 2 ps) ++ map length (drop 2 ps)) q.lens
  lengths_in_two = ap (λ (r : Queue). r.lens) e ∙ ap (λ (l : List ℕ). over_at w.first l q.lens) (lengths_split ps)

  -- what is left after r ranges of two pools, by whether the window moves to the front
  left_by_lem : (t : Bool) → cond t
      (record { queue = q.queue; lens = q.lens; window = moved_window (w.first + min 2 w.pools) (w.from + length j) w (length j) })
      (record {
        queue = shifted q.queue (3 * (w.from + length j)) (3 * (w.from + w.queued));
        lens = shifted q.lens (w.first + min 2 w.pools) (w.first + w.pools);
        window = moved_window 0 0 w (length j);
      })
      ≡ queue_rep (drop 2 ps) (with_window q
      (cond t (window_at (drop 2 ps) (w.first + length (take 2 ps)) (w.from + length j)) (window_at (drop 2 ps) 0 0)))
  left_by_lem true =
      let at : 3 * w.from + length (flat j) ≡ 3 * (w.from + length j) = omega (arith, length-flat j) in
      let lens-at : w.first + length (map length (take 2 ps)) ≡ w.first + length (take 2 ps) = rw (length-map (take 2 ps) length) in
      same_queue
      (held-behind q.queue (flat j) (flat k) (3 * w.from) (words_inside q z b) words-in_two
      ∙ ap (λ (i : ℕ). over_at i (flat k) q.queue) at)
      (held-behind q.lens (map length (take 2 ps)) (map length (drop 2 ps)) w.first (lengths_inside q z b) lengths_in_two
      ∙ ap (λ (i : ℕ). over_at i (map length (drop 2 ps)) q.lens) lens-at)
      (same_window (omega (arith, length-take 2 ps, pools_held)) (omega (arith, length-drop 2 ps, pools_held)) refl (omega (arith, queued_held)))
  left_by_lem false =
      let at : 3 * (w.from + length j) ≡ 3 * w.from + length (flat j) = omega (arith, length-flat j) in
      let lens-at : w.first + min 2 w.pools ≡ w.first + length (map length (take 2 ps)) =
      omega (arith, length-map (take 2 ps) length, length-take 2 ps, pools_held) in
      same_queue
      (ap (λ (i : ℕ). shifted q.queue i (3 * (w.from + w.queued))) at
      ∙ held_moved q.queue (flat j) (flat k) (3 * w.from) (words_inside q z b) words-in_two (3 * (w.from + w.queued))
      (omega (arith, length-flat j, length-flat k, queued_held)))
      (ap (λ (i : ℕ). shifted q.lens i (w.first + w.pools)) lens-at
      ∙ held_moved q.lens (map length (take 2 ps)) (map length (drop 2 ps)) w.first (lengths_inside q z b) lengths_in_two (w.first + w.pools)
      (omega (arith, length-map (take 2 ps) length, length-map (drop 2 ps) length, length-take 2 ps, length-drop 2 ps, pools_held)))
      (same_window refl (omega (arith, length-drop 2 ps, pools_held)) refl (omega (arith, queued_held)))

  rest-rep : may_take q ≡ true → rest q ≡ queue_rep (drop 2 ps) (with_window q (window_after ps (drop 2 ps) w))
  unfolding rest moved_on
  rest-rep may = rw (may, ranges_held, window_taken ps w b) (left_by_lem (leb (w.from + length j) 2048))

  -- H5.15: what is taken is the model's, and so is what is left
  pub take_rep : length ps ≤ 2048 → length (joined_ranges ps) ≤ 2048 → length (first_two ps) ≤ 256
      → (taken q ≡ first_two ps) × (rest q ≡ queue_rep (drop 2 ps) (with_window q (window_after ps (drop 2 ps) w)))
  take_rep hp hr ht = let may = may_take-rep hp hr ht in (taken-rep may, rest-rep may)
