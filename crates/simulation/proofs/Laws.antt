-- How the parts of memory in which a store lies are read and changed.
use mathlib.Core.Path.{◌≡◌, refl, sym, ap, ◌∙◌}
use mathlib.Core.List.{List, [], ◌∷◌, ◌++◌, map, reverse, reverse-cons, append_assoc}
use Prim.Native.Nat.{ℕ, zero, suc, ◌+◌, ◌-◌, ◌*◌, ◌≤◌, ◌<◌}
use native.Mathlib.Nat.{le_of_suc-le-suc, not-suc-le-zero}
use native.Mathlib.Omega.{arith}
use native.Mathlib.Nat.{mul_comm, suc-mul, mul-le-mul_right}
use lib.ListN.{length, get_or, set, take, drop, replicate, length-append, length-take, length-drop, length-set, length-map, length-reverse}
use lib.ListN.{take-append-drop}
use lib.Seq.{take-append-le, drop-append-le, take-set-lt, drop-set-lt, length-take-le, set-append_left, take_all, drop-append-add, drop_at}
use lib.Seq.{take_at, take-add, drop-drop, get_or_at, set-get_or}
use borrow.Author.Tests.{lt-ltb}
use Rattle.lists.specs.Over.{over, over_at}
use Rattle.lists.proofs.Over.{over-push, get_d_over_in}
use Rattle.lists.proofs.Parts.{over_at-over}
use Rattle.model.proofs.Basic.{get_d_map}
use Rattle.model.specs.Store as Model
use Rattle.model.specs.Store.{Store, absent, slot₀, start_worker, worker_at, with_worker}
use Rattle.worker.specs.declared.Worker.{Worker}
use Rattle.worker.specs.Rep.{worker_rep}
use Rattle.slots.specs.declared.Slot.{Slot}
use Rattle.slots.specs.Slots.{slot_rep, vacant_slot}
use Rattle.state.specs.declared.Hub.{Hub}
use Rattle.state.specs.State.{empty_hub, nobody, worker_in, with_workers_in, with_worker_in, with_times_in, with_reading_in}
use Rattle.step.specs.Step.{newest_at}
use Rattle.simulation.specs.Memory.{read_of, reads_over, hub_rep, times_over, parts_over}

------------------------------------------------------------------------
-- Memory whose front is replaced

module _ {A : Type 0} where
  -- an entry of the front changed
  pub over-set : (p d : List A) (i : ℕ) (v : A) → i < length p → set (over p d) i v ≡ over (set p i v) d
  unfolding over
  over-set p d i v h = set-append_left p (drop (length p) d) i v h ∙ rw (length-set p i v)

  -- memory that holds a front holds a front part of it
  pub over-front : (p q d : List A) → d ≡ over (p ++ q) d → d ≡ over p d
  unfolding over
  over-front p q d e =
      let x : List A = drop (length (p ++ q)) d in
      let s : d ≡ p ++ (q ++ x) = e ∙ append_assoc p q x in
      let r : drop (length p) d ≡ q ++ x = ap (drop (length p)) s ∙ drop_at p (q ++ x) (length p) refl in
      s ∙ ap (λ (l : List A). p ++ l) (sym r)

  -- replacing a front shortens nothing
  pub over-long : (p d : List A) → length d ≤ length (over p d)
  unfolding over
  over-long p d = rw (length-append p (drop (length p) d), length-drop (length p) d) (omega arith)

  -- memory that holds a front is as long as it is
  pub front_long : (p d : List A) → d ≡ over p d → length p ≤ length d
  unfolding over
  front_long p d e = omega (arith, ap length e, length-append p (drop (length p) d))

  -- the first n entries, where the front is no longer
  pub over-take : (n : ℕ) (p d : List A) → length p ≤ n → take n (over p d) ≡ over p (take n d)
  unfolding over
  over-take n [] d h = refl
  over-take zero (x ∷ p) d h = absurd (not-suc-le-zero h)
  over-take (suc n) (x ∷ p) [] h = take_all (suc n) (x ∷ (p ++ [])) (omega (arith, length-append p []))
  over-take (suc n) (x ∷ p) (y ∷ d) h = ap (λ (l : List A). x ∷ l) (over-take n p d (le_of_suc-le-suc h))

  -- and the others
  pub over-drop : (n : ℕ) (p d : List A) → length p ≤ n → drop n (over p d) ≡ drop n d
  unfolding over
  over-drop n p d h =
      let e : n ≡ length p + (n - length p) = omega arith in
      rw e (drop-append-add p (drop (length p) d) (n - length p) ∙ drop-drop (n - length p) (length p) d)

  -- two lists are equal by their first n entries and the others
  pub both_parts : (n : ℕ) (a b : List A) → take n a ≡ take n b → drop n a ≡ drop n b → a ≡ b
  both_parts n a b e f = sym (take-append-drop n a) ∙ (λ i. e i ++ f i) ∙ take-append-drop n b

  -- inside a list it does not matter what stands past its end
  pub get_d_inside : (l : List A) (i : ℕ) (y z : A) → i < length l → get_or l i y ≡ get_or l i z
  get_d_inside [] i y z h = absurd (not-suc-le-zero h)
  get_d_inside (x ∷ l) zero y z h = refl
  get_d_inside (x ∷ l) (suc i) y z h = get_d_inside l i y z (le_of_suc-le-suc h)

pub map-take : {A B : Type 0} (f : A → B) (n : ℕ) (l : List A) → map f (take n l) ≡ take n (map f l)
map-take f zero l = refl
map-take f (suc n) [] = refl
map-take f (suc n) (x ∷ l) = ap (λ r. f x ∷ r) (map-take f n l)

pub map-set : {A B : Type 0} (f : A → B) (l : List A) (i : ℕ) (v : A) → map f (set l i v) ≡ set (map f l) i (f v)
map-set f [] i v = refl
map-set f (x ∷ l) zero v = refl
map-set f (x ∷ l) (suc i) v = ap (λ r. f x ∷ r) (map-set f l i v)

-- the model's list in memory, an entry changed
mapped-set : {A B : Type 0} (f : A → B) (l : List A) (d : List B) (i : ℕ) (v : A) → i < length l
    → set (over (map f l) d) i (f v) ≡ over (map f (set l i v)) d
mapped-set {A} {B} f l d i v h = over-set (map f l) d i (f v) (rw (length-map l f) h) ∙ ap (λ (r : List B). over r d) (sym (map-set f l i v))

------------------------------------------------------------------------
-- The hub by value

-- a worker's record is the model's worker in memory
pub worker_in_lem : (s : Store) (w : ℕ) → length s.workers ≡ s.site.P → s.site.P ≤ 16 → w < s.site.P
    → worker_in (hub_rep s empty_hub) w ≡ worker_rep (worker_at s w)
worker_in_lem s w e b h =
    let k : w < length s.workers = omega arith in
    get_d_over_in (map worker_rep s.workers) (replicate 16 (worker_rep start_worker)) w nobody (rw (length-map s.workers worker_rep) k)
    ∙ get_d_map worker_rep s.workers w start_worker nobody k

-- what stands for a worker among what is read of marks
pub read_at : (s : Store) (w : ℕ) → length s.workers ≡ s.site.P → w < s.site.P → get_or (reads_over s.workers) w 0 ≡ read_of (worker_at s w)
read_at s w e h =
    let k : w < length s.workers = omega arith in
    get_d_over_in (map read_of s.workers) (replicate 16 0) w 0 (rw (length-map s.workers read_of) k) ∙ get_d_map read_of s.workers w start_worker 0 k

pub reads-set : (s : Store) (w : ℕ) (x : Model.Worker) → length s.workers ≡ s.site.P → w < s.site.P
    → set (reads_over s.workers) w (read_of x) ≡ reads_over (set s.workers w x)
reads-set s w x e h = mapped-set read_of s.workers (replicate 16 0) w x (omega arith)

-- where it stays the same, all stays
pub reads_kept : (s : Store) (w : ℕ) (x : Model.Worker) → length s.workers ≡ s.site.P → w < s.site.P → read_of x ≡ read_of (worker_at s w)
    → reads_over s.workers ≡ reads_over (set s.workers w x)
reads_kept s w x e h q =
    sym (set-get_or (reads_over s.workers) w 0) ∙ ap (set (reads_over s.workers) w) (read_at s w e h ∙ sym q) ∙ reads-set s w x e h

-- a worker's record replaced, and what stands for it among what is read of marks, is the model's worker replaced
pub worker_set : (s : Store) (k : Hub) (w : ℕ) (x : Model.Worker) → length s.workers ≡ s.site.P → s.site.P ≤ 16 → w < s.site.P
    → with_reading_in (with_worker_in (hub_rep s k) w (worker_rep x)) (reads_over (set s.workers w x))
    ≡ with_times_in (hub_rep (with_worker s w x) k) (times_over s.workers k.times)
worker_set s k w x e b h =
    ap (λ (l : List Worker). with_reading_in (with_workers_in (hub_rep s k) l) (reads_over (set s.workers w x)))
    (mapped-set worker_rep s.workers (replicate 16 (worker_rep start_worker)) w x (omega arith))

-- and where it reads as before, only its record is
pub worker_same : (s : Store) (k : Hub) (w : ℕ) (x : Model.Worker) → length s.workers ≡ s.site.P → s.site.P ≤ 16 → w < s.site.P
    → read_of x ≡ read_of (worker_at s w)
    → with_worker_in (hub_rep s k) w (worker_rep x) ≡ with_times_in (hub_rep (with_worker s w x) k) (times_over s.workers k.times)
worker_same s k w x e b h q =
    ap (with_reading_in (with_worker_in (hub_rep s k) w (worker_rep x))) (reads_kept s w x e h q) ∙ worker_set s k w x e b h

------------------------------------------------------------------------
-- The row of slots

pub slot-at : (l : List Model.Slot) (d : List Slot) (c : ℕ) → c < length l → get_or (over (map slot_rep l) d) c vacant_slot ≡ slot_rep (get_or l c slot₀)
slot-at l d c h = get_d_over_in (map slot_rep l) d c vacant_slot (rw (length-map l slot_rep) h) ∙ get_d_map slot_rep l c slot₀ vacant_slot h

pub slot_set : (l : List Model.Slot) (d : List Slot) (c : ℕ) (v : Model.Slot) → c < length l
    → set (over (map slot_rep l) d) c (slot_rep v) ≡ over (map slot_rep (set l c v)) d
slot_set l d c v h = mapped-set slot_rep l d c v h

-- a row in which the slots lie is as long as they are
pub slots_long : (l : List Model.Slot) (d : List Slot) → d ≡ over (map slot_rep l) d → length l ≤ length d
slots_long l d e = omega (arith, front_long (map slot_rep l) d e, length-map l slot_rep)

------------------------------------------------------------------------
-- Newest versions and free slots

pub newest_at_lem : (l d : List ℕ) (r : ℕ) → r < length l → r < 256 → newest_at (over l d) r ≡ get_or l r absent
newest_at_lem l d r h k = rw (lt-ltb r 256 k) (get_d_over_in l d r 0 h ∙ get_d_inside l r 0 absent h)

pub newest_set : (l d : List ℕ) (r c : ℕ) → r < length l → set (over l d) r c ≡ over (set l r c) d
newest_set l d r c h = over-set l d r c h

-- the slot that is taken next stands last
pub free_top : (f : ℕ) (l d : List ℕ) → get_or (over (reverse (f ∷ l)) d) (length l) 0 ≡ f
free_top f l d =
    get_d_over_in (reverse (f ∷ l)) d (length l) 0 (omega (arith, length-reverse (f ∷ l)))
    ∙ ap (λ (r : List ℕ). get_or r (length l) 0) (reverse-cons f l)
    ∙ get_or_at (reverse l) f [] 0 (length l) (length-reverse l)

-- a slot less: what lies there still lies there
pub free_pop : (f : ℕ) (l d : List ℕ) → d ≡ over (reverse (f ∷ l)) d → d ≡ over (reverse l) d
free_pop f l d e = over-front (reverse l) (f ∷ []) d (e ∙ ap (λ (r : List ℕ). over r d) (reverse-cons f l))

-- a slot more
pub free_push : (c : ℕ) (l d : List ℕ) → length l < length d → d ≡ over (reverse l) d → set d (length l) c ≡ over (reverse (c ∷ l)) d
free_push c l d h e =
    ap (λ (r : List ℕ). set r (length l) c) e
    ∙ over-push (reverse l) d (length l) c (length-reverse l) h
    ∙ ap (λ (r : List ℕ). over r d) (sym (reverse-cons c l))

------------------------------------------------------------------------
-- Workers' parts of memory

-- an entry behind the first a
set-behind : (a k : ℕ) (d : List ℕ) (v : ℕ) → a ≤ length d → set d (a + k) v ≡ take a d ++ set (drop a d) k v
set-behind zero k d v h = let z : 0 + k ≡ k = omega arith in rw z
set-behind (suc a) k [] v h = absurd (omega arith)
set-behind (suc a) k (x ∷ d) v h =
    let z : suc a + k ≡ suc (a + k) = omega arith in
    rw z (ap (λ (l : List ℕ). x ∷ l) (set-behind a k d v (omega arith)))

-- entries replaced behind the first a, and in the front part of a list
over_at-behind : (a i : ℕ) (p d : List ℕ) → over_at (a + i) p d ≡ take a d ++ over_at i p (drop a d)
unfolding over_at
over_at-behind a i p d =
    let z : a + i + length p ≡ a + (i + length p) = omega arith in
    (λ j. take-add a i d j ++ p ++ (ap (λ (k : ℕ). drop k d) z ∙ sym (drop-drop (i + length p) a d)) j)
    ∙ ap (λ (l : List ℕ). l ++ drop (i + length p) (drop a d)) (append_assoc (take a d) (take i (drop a d)) p)
    ∙ append_assoc (take a d) (take i (drop a d) ++ p) (drop (i + length p) (drop a d))

over_at-append : (k : ℕ) (v x y : List ℕ) → k + length v ≤ length x → over_at k v (x ++ y) ≡ over_at k v x ++ y
unfolding over_at
over_at-append k v x y h =
    (λ j. take-append-le k x y (omega arith) j ++ v ++ drop-append-le (k + length v) x y h j)
    ∙ sym (append_assoc (take k x ++ v) (drop (k + length v) x) y)

module _ (n : ℕ) (f : Model.Worker → List ℕ) where
  -- worker w's part, and the memory with that part replaced
  abbrev part : List ℕ → ℕ → List ℕ
  part d w = take n (drop (n * w) d)

  abbrev within : List ℕ → ℕ → List ℕ → List ℕ
  within d w p = take (n * w) d ++ (p ++ drop (n * w + n) d)

  -- one worker more
  pub next-size : (w : ℕ) → n * suc w ≡ n + n * w
  next-size w = omega (arith, mul_comm n (suc w), suc-mul w n, mul_comm n w)

  first_size : n * 0 ≡ 0
  first_size = omega arith

  first_end : 0 + n ≡ n
  first_end = omega arith

  -- writing the lists shortens nothing
  merged_long : (ws : List Model.Worker) (d : List ℕ) → length d ≤ length (parts_over n f ws d)
  unfolding parts_over
  merged_long [] d = omega arith
  merged_long (x ∷ l) d =
      let a : List ℕ = over (f x) (take n d) in
      let b : List ℕ = parts_over n f l (drop n d) in
      omega (
        arith,
        length-append a b,
        over-long (f x) (take n d),
        merged_long l (drop n d),
        length-take n d,
        length-drop n d,
      )

  -- memory that holds the lists holds the first in its first part and the others in the rest
  merged_parts : (x : Model.Worker) (l : List Model.Worker) (d : List ℕ) → n ≤ length d → d ≡ parts_over n f (x ∷ l) d
      → (take n d ≡ over (f x) (take n d)) × (drop n d ≡ parts_over n f l (drop n d))
  unfolding parts_over
  merged_parts x l d h e =
      let a : List ℕ = over (f x) (take n d) in
      let b : List ℕ = parts_over n f l (drop n d) in
      let long : length a ≡ n =
      omega (
        arith,
        ap length e,
        length-append a b,
        over-long (f x) (take n d),
        merged_long l (drop n d),
        length-take n d,
        length-drop n d,
      ) in
      (ap (take n) e ∙ take_at a b n long, ap (drop n) e ∙ drop_at a b n long)

  -- a worker's part, counted from the second worker on
  next-part : (w : ℕ) (d : List ℕ) → drop (n * suc w) d ≡ drop (n * w) (drop n d)
  next-part w d =
      let z = next-size w in
      rw z (sym (drop-drop (n * w) n d))

  parts-before : (w : ℕ) (d : List ℕ) → take (n * suc w) d ≡ take n d ++ take (n * w) (drop n d)
  parts-before w d =
      let z = next-size w in
      rw z (take-add n (n * w) d)

  parts-after : (w : ℕ) (d : List ℕ) → drop (n * suc w + n) d ≡ drop (n * w + n) (drop n d)
  parts-after w d =
      let z : n * suc w + n ≡ n + (n * w + n) = omega (arith, next-size w) in
      rw z (sym (drop-drop (n * w + n) n d))

  -- the list of worker w in its part, another one put there, and a front part of it left
  pub part-of : (ws : List Model.Worker) (d : List ℕ) (w : ℕ) → n * length ws ≤ length d → w < length ws
      → d ≡ parts_over n f ws d → part d w ≡ over (f (get_or ws w start_worker)) (part d w)
  part-of [] d w r h i = absurd (not-suc-le-zero h)
  part-of (y ∷ l) d zero r h i = rw first_size (merged_parts y l d (omega (arith, next-size (length l))) i).0
  part-of (y ∷ l) d (suc w) r h i =
      rw (next-part w d)
      (part-of l (drop n d) w (rw (length-drop n d) (omega (arith, next-size (length l)))) (le_of_suc-le-suc h) (merged_parts y l d (omega (arith, next-size (length l))) i).1)

  pub part_set : (ws : List Model.Worker) (d : List ℕ) (w : ℕ) (x : Model.Worker) → n * length ws ≤ length d → w < length ws
      → d ≡ parts_over n f ws d → within d w (over (f x) (part d w)) ≡ parts_over n f (set ws w x) d
  unfolding parts_over
  part_set [] d w x r h i = absurd (not-suc-le-zero h)
  part_set (y ∷ l) d zero x r h i =
      rw (first_size, first_end) (ap (λ (z : List ℕ). over (f x) (take n d) ++ z) (merged_parts y l d (omega (arith, next-size (length l))) i).1)
  part_set (y ∷ l) d (suc w) x r h i =
      let front : List ℕ = take n d in
      let t : List ℕ = drop n d in
      let p = merged_parts y l d (omega (arith, next-size (length l))) i in
      let e : within t w (over (f x) (part t w)) ≡ parts_over n f (set l w x) t =
      part_set l t w x (rw (length-drop n d) (omega (arith, next-size (length l)))) (le_of_suc-le-suc h) p.1 in
      rw (parts-before w d, next-part w d, parts-after w d)
      (append_assoc front (take (n * w) t) (over (f x) (part t w) ++ drop (n * w + n) t)
      ∙ ap (λ (z : List ℕ). front ++ z) e
      ∙ ap (λ (z : List ℕ). z ++ parts_over n f (set l w x) t) p.0)

  pub part_kept : (ws : List Model.Worker) (d : List ℕ) (w : ℕ) (x : Model.Worker) (l : List ℕ) → n * length ws ≤ length d → w < length ws
      → f (get_or ws w start_worker) ≡ f x ++ l
      → d ≡ parts_over n f ws d → d ≡ parts_over n f (set ws w x) d
  unfolding parts_over
  part_kept [] d w x q r h k i = absurd (not-suc-le-zero h)
  part_kept (y ∷ l) d zero x q r h k i =
      let front : List ℕ = take n d in
      let p = merged_parts y l d (omega (arith, next-size (length l))) i in
      let a : front ≡ over (f x) front = over-front (f x) q front (p.0 ∙ ap (λ (z : List ℕ). over z front) k) in
      sym (take-append-drop n d) ∙ ap (λ (z : List ℕ). z ++ drop n d) a ∙ ap (λ (z : List ℕ). over (f x) front ++ z) p.1
  part_kept (y ∷ l) d (suc w) x q r h k i =
      let front : List ℕ = take n d in
      let t : List ℕ = drop n d in
      let p = merged_parts y l d (omega (arith, next-size (length l))) i in
      let e : t ≡ parts_over n f (set l w x) t =
      part_kept l t w x q (rw (length-drop n d) (omega (arith, next-size (length l)))) (le_of_suc-le-suc h) k p.1 in
      sym (take-append-drop n d) ∙ ap (λ (z : List ℕ). z ++ t) p.0 ∙ ap (λ (z : List ℕ). over (f y) front ++ z) e

  -- one entry more in it
  pub part_more : (ws : List Model.Worker) (d : List ℕ) (w : ℕ) (x : Model.Worker) (v : ℕ) → n * length ws ≤ length d → w < length ws
      → length (f (get_or ws w start_worker)) < n → f x ≡ f (get_or ws w start_worker) ++ (v ∷ [])
      → d ≡ parts_over n f ws d → set d (n * w + length (f (get_or ws w start_worker))) v ≡ parts_over n f (set ws w x) d
  part_more ws d w x v r h k e i =
      let l : List ℕ = f (get_or ws w start_worker) in
      let a : ℕ = n * w in
      let b : List ℕ = drop a d in
      let inside : a + n ≤ length d = omega (arith, r, mul-le-mul_right n h, mul_comm n (length ws), suc-mul w n, mul_comm n w) in
      let long : length (take a d) ≡ a = length-take-le a d (omega arith) in
      let held : take n b ≡ over l (take n b) = part-of ws d w r h i in
      let more : set (take n b) (length l) v ≡ over (l ++ (v ∷ [])) (take n b) =
      ap (λ (z : List ℕ). set z (length l) v) held
      ∙ over-push l (take n b) (length l) v refl (rw (length-take-le n b (rw (length-drop a d) (omega arith))) k) in
      set-behind a (length l) d v (omega arith)
      ∙ ap (λ (z : List ℕ). take a d ++ z)
      (sym (take-append-drop n (set b (length l) v))
      ∙ (λ j. take-set-lt n b (length l) v k j ++ drop-set-lt n b (length l) v k j)
      ∙ (λ j. (more ∙ ap (λ (z : List ℕ). over z (take n b)) (sym e)) j ++ drop-drop n a d j))
      ∙ part_set ws d w x r h i

  -- a list more in it
  pub part_joined : (ws : List Model.Worker) (d : List ℕ) (w : ℕ) (x : Model.Worker) (v : List ℕ) → n * length ws ≤ length d → w < length ws
      → length (f (get_or ws w start_worker)) + length v ≤ n → f x ≡ f (get_or ws w start_worker) ++ v
      → d ≡ parts_over n f ws d → over_at (n * w + length (f (get_or ws w start_worker))) v d ≡ parts_over n f (set ws w x) d
  part_joined ws d w x v r h k e i =
      let l : List ℕ = f (get_or ws w start_worker) in
      let a : ℕ = n * w in
      let b : List ℕ = drop a d in
      let inside : a + n ≤ length d = omega (arith, r, mul-le-mul_right n h, mul_comm n (length ws), suc-mul w n, mul_comm n w) in
      let long : length (take n b) ≡ n = length-take-le n b (rw (length-drop a d) (omega arith)) in
      let held : take n b ≡ over l (take n b) = part-of ws d w r h i in
      over_at-behind a (length l) v d
      ∙ ap (λ (z : List ℕ). take a d ++ z)
      (ap (over_at (length l) v) (sym (take-append-drop n b))
      ∙ over_at-append (length l) v (take n b) (drop n b) (rw long k)
      ∙ (λ j. (ap (over_at (length l) v) held ∙ over_at-over l v (take n b) (length l) refl ∙ ap (λ (z : List ℕ). over z (take n b)) (sym e)) j
      ++ drop-drop n a d j))
      ∙ part_set ws d w x r h i

  -- changes of workers' places that change no list
  pub merged_map : (g : Model.Worker → Model.Worker) → ((x : Model.Worker) → f (g x) ≡ f x)
      → (ws : List Model.Worker) (d : List ℕ) → parts_over n f (map g ws) d ≡ parts_over n f ws d
  unfolding parts_over
  merged_map g e [] d = refl
  merged_map g e (x ∷ ws) d = rw (e x, merged_map g e ws (drop n d))
