-- Flush (4): the readers that stand on the version that is unlinked. The code moves them in all sixteen records and with slots of sixteen
-- bits, the model in the P workers. A reader that moves stands below N afterwards, so that its slot is the same in both, and the records
-- beyond the P workers are idle.
use mathlib.Core.Path.{◌≡◌, refl, sym, ap, ap₂, subst, ◌∙◌}
use mathlib.Core.Logic.{⊎_elim}
use mathlib.Core.Bool.{Bool, true, false, cond}
use mathlib.Core.List.{List, [], ◌∷◌, ◌++◌, map, map-append}
use Prim.Native.Nat.{ℕ, zero, suc, ◌≤◌, ◌<◌}
use native.Mathlib.Omega.{arith}
use lib.Dec.{eqb}
use lib.ListN.{length, get_or, drop, replicate, length-map}
use Rattle.lists.specs.Over.{over}
use Rattle.model.specs.Store as Model
use Rattle.model.specs.Store.{Store, start_worker, with_doing}
use Rattle.model.specs.Steps.{move_off, worker_off}
use Rattle.model.specs.About.{Nowhere, about}
use Rattle.theorem.proofs.View.{off_cases}
use Rattle.arrays.specs.Arrays.{short}
use Rattle.worker.specs.declared.Worker.{Worker}
use Rattle.worker.specs.declared.Doing.TheVariants as D
use Rattle.worker.specs.declared.Goal.{Goal}
use Rattle.worker.specs.Rep.{times_read, goal_rep, doing_rep, worker_rep}
use Rattle.standing.specs.Standing.{off_to}
use Rattle.state.specs.State.{at_place}
use Rattle.marks.specs.Marks.{read_by}
use Rattle.simulation.specs.Memory.{read_of, reads_over, hand_words, in_hand_words}
use Rattle.simulation.specs.Shell.{off_worker}
use Rattle.simulation.proofs.Facts.{stance_rep, same_facts}
use Rattle.simulation.proofs.Sound.{PlaceIn}

-- the place of a reader on slot v afterwards
moved : (n o v : ℕ) (g : Goal) (t : Bool) → n ≤ 2048 → cond t o v < n
    → cond t (D.ReadStand g (short o)) (D.ReadStand g v) ≡ D.ReadStand g (cond t o v)
moved n o v g true h k = ap (D.ReadStand g) (omega arith)
moved n o v g false h k = refl

map-drop : {A B : Type 0} (f : A → B) (n : ℕ) (l : List A) → map f (drop n l) ≡ drop n (map f l)
map-drop f zero l = refl
map-drop f (suc n) [] = refl
map-drop f (suc n) (x ∷ l) = map-drop f n l

map-over : {A B : Type 0} (f : A → B) (p d : List A) → map f (over p d) ≡ over (map f p) (map f d)
unfolding over
map-over {B = B} f p d = map-append f p (drop (length p) d) ∙ rw (length-map p f) (ap (λ (l : List B). map f p ++ l) (map-drop f (length p) d))

-- readers move from slot c to slot o, in a store with at most 2048 slots
module _ (s : Store) (c o : ℕ) (small : s.site.N ≤ 2048) where
  -- the worker x at the place d: its record is the model's, and the list in its hand is the one it had
  abbrev Off : ℕ → Model.Worker → Model.Doing → Type 0
  Off t x d =
      (PlaceIn s t (move_off c o d) → off_worker c (short o) (worker_rep (with_doing x d)) ≡ worker_rep (with_doing x (move_off c o d)))
      × (in_hand_words (move_off c o d) ≡ in_hand_words d)

  off : (t : ℕ) (x : Model.Worker) (d : Model.Doing) → Off t x d
  unfolding move_off hand_words
  off t x d = ⊎_elim stands apart (off_cases d)
    where
      stands : (g : Model.Goal) × (v : ℕ) × (d ≡ Model.ReadStand g v) → Off t x d
      stands u =
          let g = u.0 in
          let v = u.1 in
          subst (Off t x) (sym u.2) (
            λ p. ap (at_place (worker_rep (with_doing x (Model.ReadStand g v)))) (moved s.site.N o v (goal_rep g) (eqb v c) small p.1),
            refl,
          )

      apart : ((about d).stance ≡ Nowhere) × ((a b : ℕ) → move_off a b d ≡ d) → Off t x d
      apart u =
          let k = u.1 c o in (
            λ p. rw k (ap (λ y. at_place (worker_rep (with_doing x d)) (off_to c (short o) (doing_rep d) y)) ((same_facts d).1 ∙ ap stance_rep u.0)),
            ap in_hand_words k,
          )

  pub off_list : (x : Model.Worker) → in_hand_words (worker_off c o x).doing ≡ in_hand_words x.doing
  unfolding worker_off
  off_list x = (off 0 x x.doing).1

  pub off_times : (x : Model.Worker) → times_read (worker_off c o x).doing ≡ times_read x.doing
  unfolding worker_off move_off
  off_times x =
      ⊎_elim (λ u. subst (λ (d : Model.Doing). times_read (move_off c o d) ≡ times_read d) (sym u.2) refl) (λ u. ap times_read (u.1 c o))
      (off_cases x.doing)

  pub off_reads : (x : Model.Worker) → read_of (worker_off c o x) ≡ read_of x
  unfolding worker_off move_off
  off_reads x =
      ⊎_elim (λ u. subst (λ (d : Model.Doing). read_by (doing_rep (move_off c o d)) ≡ read_by (doing_rep d)) (sym u.2) refl)
      (λ u. ap (λ (d : Model.Doing). read_by (doing_rep d)) (u.1 c o)) (off_cases x.doing)

  -- which marks are read
  pub off_all_reads : (ws : List Model.Worker) → reads_over (map (worker_off c o) ws) ≡ reads_over ws
  off_all_reads ws = ap (λ (l : List ℕ). over l (replicate 16 0)) (go ws)
    where
      go : (l : List Model.Worker) → map read_of (map (worker_off c o) l) ≡ map read_of l
      go [] = refl
      go (x ∷ l) = λ i. off_reads x i ∷ go l i

  -- all workers stand where a sound store's do
  abbrev pub Placed : List Model.Worker → Type 0
  Placed ws = (v : ℕ) → v < length ws → (t : ℕ) × PlaceIn s t (worker_off c o (get_or ws v start_worker)).doing

  off_workers : (ws : List Model.Worker) → Placed ws → map (off_worker c (short o)) (map worker_rep ws) ≡ map worker_rep (map (worker_off c o) ws)
  unfolding worker_off
  off_workers [] p = refl
  off_workers (x ∷ ws) p =
      let y = p 0 (omega arith) in
      ap₂ (λ (a : Worker) (l : List Worker). a ∷ l) ((off y.0 x x.doing).0 y.1) (off_workers ws (λ v k. p (suc v) (omega arith)))

  -- the sixteen records
  pub off_records : (ws : List Model.Worker) → Placed ws
      → map (off_worker c (short o)) (over (map worker_rep ws) (replicate 16 (worker_rep start_worker)))
      ≡ over (map worker_rep (map (worker_off c o) ws)) (replicate 16 (worker_rep start_worker))
  off_records ws p =
      map-over (off_worker c (short o)) (map worker_rep ws) (replicate 16 (worker_rep start_worker))
      ∙ ap (λ (l : List Worker). over l (replicate 16 (worker_rep start_worker))) (off_workers ws p)
