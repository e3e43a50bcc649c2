-- What an accepted setup writes is the model's fresh store: each loop's result is the store's list at the front of the memory that it fills,
-- by induction on how far the loop has come.
use Rattle.std.specs.Prelude.{None}
use mathlib.Core.Path.{◌≡◌, refl, sym, ap, ◌∙◌}
use mathlib.Core.Bool.{Bool, true, false, cond}
use mathlib.Core.List.{List, [], ◌∷◌, ◌++◌, map, reverse, reverse-cons}
use mathlib.Core.Option.{none}
use Prim.Native.Nat.{ℕ, zero, suc, ◌+◌, ◌-◌, ◌/◌, ◌%◌, ◌≤◌, ◌<◌}
use native.Mathlib.Nat.{mod-eq_of_lt}
use native.Mathlib.Omega.{arith}
use lib.Dec.{ltb, eqb, leb-zero, leb-suc-zero, leb-suc-suc}
use lib.ListN.{length, get_or, set, take, drop, replicate, length-map, length-reverse, take-append-drop}
use lib.Seq.{take-suc, length-take-le, take_all}
use Rattle.lists.specs.Over.{over}
use Rattle.lists.proofs.Over.{over-nil, over-push, get_d_over_past}
use Rattle.model.specs.Store as Model
use Rattle.model.specs.Store.{absent, slot₀, start_worker, up_from}
use Rattle.model.specs.Batch.{batch_of}
use Rattle.model.specs.Record.{Sizes, rows_of, list_fits}
use Rattle.model.specs.Apply.{first_slots, fresh}
use Rattle.model.specs.Versions.{alone}
use Rattle.model.proofs.Basic.{get_d_map, map_app, and_both}
use Rattle.model.proofs.Totals.{few_rows}
use Rattle.worker.specs.declared.Worker.{Worker}
use Rattle.worker.specs.Rep.{times_read, worker_rep}
use Rattle.values.specs.Meaning.{Content}
use Rattle.slots.specs.declared.Slot.{Slot}
use Rattle.slots.specs.Slots.{slot_rep, slot_of, vacant_slot, made_slot, made_to}
use Rattle.state.specs.declared.Hub.{Hub}
use Rattle.state.specs.State.{tabled_site, bare_hub, fresh_hub, site_made, standing}
use Rattle.arrays.specs.Arrays.{short, fill_to}
use Rattle.simulation.specs.Memory.{parts_over, read_of, site_rep, hub_rep, hand_words, in_hand_words, merged_over}
use Rattle.simulation.proofs.Contents.{content_back}
use Rattle.simulation.proofs.Laid.{site_path, hub_path}
use Rattle.simulation.proofs.Rights.{standing-length, standing-over}

------------------------------------------------------------------------
-- Numbers in order

pub up_length : (a n : ℕ) → length (up_from a n) ≡ n
unfolding up_from
up_length a zero = refl
up_length a (suc n) = ap suc (up_length (a + 1) n)

pub up_last : (a n : ℕ) → up_from a (suc n) ≡ up_from a n ++ ((a + n) ∷ [])
unfolding up_from
up_last a zero = ap (λ (k : ℕ). k ∷ []) (let e : a ≡ a + 0 = omega arith in e)
up_last a (suc n) =
    ap (λ (l : List ℕ). a ∷ l) (up_last (a + 1) n)
    ∙ ap (λ (k : ℕ). a ∷ (up_from (a + 1) n ++ (k ∷ []))) (let e : a + 1 + n ≡ a + suc n = omega arith in e)

-- the slots of the registers' versions
pub newest_made : (d : List ℕ) (v : ℕ) → v ≤ length d → v ≤ 65536 → fill_to d short v ≡ over (up_from 0 v) d
unfolding fill_to up_from
newest_made d zero h k = sym (over-nil d)
newest_made d (suc v) h k =
    ap (λ (l : List ℕ). set l v (short v)) (newest_made d v (omega arith) (omega arith))
    ∙ ap (λ (i : ℕ). set (over (up_from 0 v) d) v i) (mod-eq_of_lt (omega arith))
    ∙ over-push (up_from 0 v) d v v (up_length 0 v) (omega arith)
    ∙ ap (λ (l : List ℕ). over l d) (ap (λ (i : ℕ). up_from 0 v ++ (i ∷ [])) (let e : v ≡ 0 + v = omega arith in e) ∙ sym (up_last 0 v))

-- the free slots, the one that is taken first last
pub free_made : (d : List ℕ) (n k v : ℕ) → v + k ≡ n → k ≤ length d → n ≤ 65536 → fill_to d (λ j. short (n - 1 - j)) k ≡ over (reverse (up_from v k)) d
unfolding fill_to up_from
free_made d n zero v e h b = sym (over-nil d)
free_made d n (suc k) v e h b =
    let i : n - 1 - k ≡ v = omega arith in
    ap (λ (l : List ℕ). set l k (short (n - 1 - k))) (free_made d n k (v + 1) (omega arith) (omega arith) b)
    ∙ ap (λ (x : ℕ). set (over (reverse (up_from (v + 1) k)) d) k x) (ap short i ∙ mod-eq_of_lt (omega arith))
    ∙ over-push (reverse (up_from (v + 1) k)) d k v (length-reverse (up_from (v + 1) k) ∙ up_length (v + 1) k) (omega arith)
    ∙ ap (λ (l : List ℕ). over l d) (sym (reverse-cons v (up_from (v + 1) k)))

------------------------------------------------------------------------
-- The row of slots

-- what a setup of v registers makes of slot i, in the model
abbrev made_of : ℕ → ℕ → Model.Slot → Model.Slot
made_of i v z =
    cond (ltb i v) (record { value = none; low = 0; high = absent; older = absent; newer = absent }) (alone z)

first_last : (v : ℕ) (l : List Model.Slot) (z : Model.Slot) → first_slots v (l ++ (z ∷ [])) ≡ first_slots v l ++ (made_of (length l) v z ∷ [])
unfolding first_slots
first_last zero [] z = refl
first_last (suc v) [] z = rw (leb-suc-suc 0 v, leb-zero v)
first_last zero (y ∷ l) z =
    ap (λ (r : List Model.Slot). alone y ∷ r) (first_last zero l z ∙ rw (leb-suc-zero (length l), leb-suc-zero (suc (length l))))
first_last (suc v) (y ∷ l) z = rw (first_last v l z, leb-suc-suc (suc (length l)) v)

-- the same slot in memory
same_made : (i v : ℕ) (y : Slot) → slot_rep (made_of i v (slot_of y)) ≡ made_slot i v y
same_made i v y = go (ltb i v)
  where
    go : (t : Bool) → slot_rep (cond t (record { value = none; low = 0; high = absent; older = absent; newer = absent }) (alone (slot_of y)))
        ≡ cond t (record { value = None; low = 0; high = absent; older = absent; newer = absent })
        (record { value = y.value; low = y.low; high = y.high; older = absent; newer = absent })
    go true = refl
    go false =
        ap (λ (c : Content). record { value = c; low = y.low; high = y.high; older = absent; newer = absent }) (content_back y.value)

pub first_length_lem : (v : ℕ) (l : List Model.Slot) → length (first_slots v l) ≡ length l
unfolding first_slots
first_length_lem v [] = refl
first_length_lem zero (z ∷ l) = ap suc (first_length_lem zero l)
first_length_lem (suc v) (z ∷ l) = ap suc (first_length_lem v l)

-- the first k slots as the model makes them
abbrev first_row : List Slot → ℕ → ℕ → List Slot
first_row l v k = map slot_rep (first_slots v (take k (map slot_of l)))

row_length : (l : List Slot) (v k : ℕ) → k ≤ length l → length (first_row l v k) ≡ k
row_length l v k h =
    length-map (first_slots v (take k (map slot_of l))) slot_rep
    ∙ first_length_lem v (take k (map slot_of l))
    ∙ length-take-le k (map slot_of l) (omega (arith, length-map l slot_of))

row_last : (l : List Slot) (v k : ℕ) → k < length l → first_row l v (suc k) ≡ first_row l v k ++ (made_slot k v (get_or l k vacant_slot) ∷ [])
row_last l v k h =
    let row : List Model.Slot = map slot_of l in
    let z : Model.Slot = get_or row k slot₀ in
    let long : k < length row = omega (arith, length-map l slot_of) in
    let e : z ≡ slot_of (get_or l k vacant_slot) = get_d_map slot_of l k vacant_slot slot₀ h in
    let n : length (take k row) ≡ k = length-take-le k row (omega arith) in
    ap (λ (r : List Model.Slot). map slot_rep (first_slots v r)) (take-suc row k slot₀ long)
    ∙ ap (map slot_rep) (first_last v (take k row) z)
    ∙ map_app slot_rep (first_slots v (take k row)) (made_of (length (take k row)) v z ∷ [])
    ∙ ap (λ (i : ℕ). first_row l v k ++ (slot_rep (made_of i v z) ∷ [])) n
    ∙ ap (λ (y : Model.Slot). first_row l v k ++ (slot_rep (made_of k v y) ∷ [])) e
    ∙ ap (λ (y : Slot). first_row l v k ++ (y ∷ [])) (same_made k v (get_or l k vacant_slot))

pub slots_made : (l : List Slot) (v k : ℕ) → k ≤ length l → made_to l v k ≡ over (map slot_rep (first_slots v (take k (map slot_of l)))) l
unfolding made_to first_slots
slots_made l v zero h = sym (over-nil l)
slots_made l v (suc k) h =
    ap (λ (r : List Slot). set r k (made_slot k v (get_or r k vacant_slot))) (slots_made l v k (omega arith))
    ∙ ap (λ (y : Slot). set (over (first_row l v k) l) k (made_slot k v y))
    (get_d_over_past (first_row l v k) l k vacant_slot (omega (arith, row_length l v k (omega arith))))
    ∙ over-push (first_row l v k) l k (made_slot k v (get_or l k vacant_slot)) (row_length l v k (omega arith)) h
    ∙ ap (λ (r : List Slot). over r l) (sym (row_last l v k h))

------------------------------------------------------------------------
-- The hub by value, and the lists in hand

map-replicate : {A B : Type 0} (f : A → B) (n : ℕ) (x : A) → map f (replicate n x) ≡ replicate n (f x)
map-replicate f zero x = refl
map-replicate f (suc n) x = ap (λ l. f x ∷ l) (map-replicate f n x)

over-replicate : {A : Type 0} (x : A) (k n : ℕ) → k ≤ n → over (replicate k x) (replicate n x) ≡ replicate n x
unfolding over
over-replicate x zero n h = refl
over-replicate x (suc k) zero h = absurd (omega arith)
over-replicate x (suc k) (suc n) h = ap (λ l. x ∷ l) (over-replicate x k n (omega arith))

-- no worker has a list in its part
pub parts-made : (n : ℕ) (f : Model.Worker → List ℕ) → f start_worker ≡ [] → (p : ℕ) (d : List ℕ) → d ≡ parts_over n f (replicate p start_worker) d
unfolding parts_over
parts-made n f e zero d = refl
parts-made n f e (suc p) d =
    sym (take-append-drop n d)
    ∙ ap (λ (l : List ℕ). l ++ drop n d) (sym (over-nil (take n d)))
    ∙ (λ i. over (sym e i) (take n d) ++ parts-made n f e p (drop n d) i)

-- the rows of a list
rows-length : (list : List ℕ) → length (rows_of list) ≡ length list / 4
unfolding rows_of
rows-length list = length-map (up_from 0 (length list / 4)) _ ∙ up_length 0 (length list / 4)

pub rows_few : (v : ℕ) (list : List ℕ) → list_fits v list ≡ true → length (rows_of list) ≤ 1024
unfolding list_fits
rows_few v list e =
    let a = and_both (eqb (length list % 4) 0) _ e in
    omega (arith, few_rows v 0 0 (rows_of list) a.1 (omega arith) (omega arith))

-- with the table that stands in the hub by value before it
pub site_made_lem : (z : Sizes) (list : List ℕ) (k : Hub) → length (rows_of list) ≤ 1024 → length k.site.rights ≡ 64
    → site_made k list z.P z.V' z.N
    ≡ site_rep (record { P = z.P; V' = z.V'; N = z.N; B = batch_of z.P; rows = rows_of list; table = standing k }) (tabled_site 0 k.site.rights)
site_made_lem z list k few long =
    site_path refl refl refl refl (sym (rows-length list)) (ap (λ (l : List ℕ). over l (replicate 1024 0)) (take_all 1024 (rows_of list) few))
    (sym (standing-length k long)) (sym (standing-over k))

pub hub_made : (z : Sizes) (list : List ℕ) (row : List Model.Slot) (k : Hub) → z.P ≤ 16 → length (rows_of list) ≤ 1024
    → length k.site.rights ≡ 64
    → fresh_hub (site_made k list z.P z.V' z.N) z.clock
    ≡ hub_rep (fresh (batch_of z.P) z (rows_of list) (standing k) row) (bare_hub k.site.rights)
unfolding fresh
hub_made z list row k h few long =
    hub_path (site_made_lem z list k few long) refl (sym (up_length z.V' (z.N - z.V'))) refl
    (parts-made 28 (λ x. times_read x.doing) refl z.P (replicate 448 0)) refl
    (sym
    (ap (λ (l : List ℕ). over l (replicate 16 0)) (map-replicate read_of z.P start_worker)
    ∙ over-replicate 0 z.P 16 h))
    (sym
    (ap (λ (l : List Worker). over l (replicate 16 (worker_rep start_worker))) (map-replicate worker_rep z.P start_worker)
    ∙ over-replicate (worker_rep start_worker) z.P 16 h))

-- no worker has a list in hand
pub merged_made : (p : ℕ) (d : List ℕ) → d ≡ merged_over (replicate p start_worker) d
unfolding hand_words
merged_made p d = parts-made 768 (λ x. in_hand_words x.doing) refl p d
