-- A table that is given does to memory what the model does: where it is accepted, the hub by value is an empty one with its rows, which stand at the
-- front of their array, so that a setup finds them.
use mathlib.Core.Path.{◌≡◌, refl, sym, ap, ◌∙◌, subst}
use mathlib.Core.Bool.{Bool, true, false, true≢false, cond, ◌&&◌}
use mathlib.Core.List.{List, [], map}
use Prim.Native.Nat.{ℕ, ◌/◌, ◌%◌}
use lib.Dec.{leb, eqb}
use lib.ListN.{length, take, length-map}
use Rattle.lists.specs.Over.{over}
use Rattle.lists.proofs.Over.{take-over}
use Rattle.model.specs.Store as Model
use Rattle.model.specs.Store.{blank, up, up_from}
use Rattle.model.specs.Rights.{each_of, right_fits, table_stands, table_of, table_fits}
use Rattle.model.specs.Answer as Answers
use Rattle.model.specs.Apply.{give_table}
use Rattle.values.specs.declared.Answer.{Answer}
use Rattle.values.specs.declared.Answer.TheVariants.{Ok, No}
use Rattle.values.specs.Meaning.{answer_of}
use Rattle.ready_sizes.proofs.Sizes.{and_both}
use Rattle.ready_sizes.specs.Sizes.{sizes_fit}
use Rattle.ready.specs.Ready.{scans_fit, ready_of}
use Rattle.slots.specs.Slots.{slot_of}
use Rattle.state.specs.State.{standing, table_sound}
use Rattle.simulation.specs.Memory.{Memory, with_hub, Result, answered}
use Rattle.simulation.specs.Left.{Sized, Left, ready}
use Rattle.simulation.specs.Holds.{Holds}
use Rattle.simulation.specs.Tables.{with_table, table_given, Gives, emptied_in}
use Rattle.simulation.proofs.Laid.{cond_yes}
use Rattle.simulation.proofs.Fresh.{up_length}
use Rattle.simulation.proofs.Assembly.{left_ready}

module _ (m : Memory) (bytes : List ℕ) where
  length-table : length (table_of bytes) ≡ length bytes / 8
  unfolding table_of
  length-table = length-map (up_from 0 (length bytes / 8)) _ ∙ up_length 0 (length bytes / 8)

  -- the rows of an accepted table stand
  stands : table_fits bytes ≡ true → standing (with_table m.hub bytes) ≡ table_of bytes
  unfolding table_fits table_stands
  stands e =
      let a = (and_both (eqb (length bytes % 8) 0) (leb (length (table_of bytes)) 64 && each_of right_fits (table_of bytes)) e).1 in
      let b = and_both (leb (length (table_of bytes)) 64) (each_of right_fits (table_of bytes)) a in
      let kept : take (length bytes / 8) (over (table_of bytes) m.hub.site.rights) ≡ table_of bytes =
      take-over (table_of bytes) m.hub.site.rights (length bytes / 8) length-table in
      let sound : table_sound (with_table m.hub bytes) ≡ true = rw (kept, ← length-table, b.0) b.1 in
      cond_yes (table_sound (with_table m.hub bytes)) _ _ sound ∙ kept

  -- what the model makes of it
  AsModel : Model.Hub → Result → Type 0
  AsModel h r = (answer_of r.answer ≡ (give_table h bytes).answer) × Holds (give_table h bytes).hub r.memory

  -- what is left and answered where the memory does not count as set up
  abbrev unless-up : Result
  unless-up = cond (table_fits bytes) (answered (with_hub m (with_table m.hub bytes)) Ok) (answered m (No 24))

  fresh-given : (x : Model.Lent) → Holds (blank x) m → AsModel (blank x) unless-up
  unfolding give_table AsModel ready ready_of scans_fit sizes_fit
  fresh-given x H = by (table_fits bytes) refl
    where
      by : (t : Bool) → table_fits bytes ≡ t
          → AsModel (blank x) (cond t (answered (with_hub m (with_table m.hub bytes)) Ok) (answered m (No 24)))
      by true e = rw e (refl, (refl, λ i. record { row = (H.1 i).row; table = sym (stands e) i }))
      by false e = rw e (refl, H)

  given : (h : Model.Hub) → Holds h m → Sized m → AsModel h (table_given m bytes)
  unfolding table_given give_table AsModel
  given (up s) L Z = subst (λ (t : Bool). AsModel (up s) (cond t (answered m (No 9)) unless-up)) (sym (left_ready m L Z)) (refl, L)
  given (blank x) H Z = subst (λ (t : Bool). AsModel (blank x) (cond t (answered m (No 9)) unless-up)) (sym H.0) (fresh-given x H)

pub table : (h : Model.Hub) (m m' : Memory) (bytes : List ℕ) (y : Answer) → Holds h m → Sized m → Gives m bytes y m'
    → (answer_of y ≡ (give_table h bytes).answer) × Holds (give_table h bytes).hub m'
unfolding AsModel
table h m m' bytes y H Z G =
    let a = given m bytes h H Z in
    (ap answer_of G.answer ∙ a.0, subst (Holds (give_table h bytes).hub) (sym G.memory) a.1)

-- on memory that records left it is late
pub late : (s : Model.Store) (m m' : Memory) (bytes : List ℕ) (y : Answer) → Left s m → Sized m → Gives m bytes y m'
    → (answer_of y ≡ Answers.No 9) × (m' ≡ m)
unfolding table_given
late s m m' bytes y L Z G =
    let r : table_given m bytes ≡ answered m (No 9) = cond_yes (ready m) (answered m (No 9)) _ (left_ready m L Z) in
    (ap answer_of (G.answer ∙ ap (λ (q : Result). q.answer) r), G.memory ∙ ap (λ (q : Result). q.memory) r)

-- one that is refused changes nothing
pub refused_kept : (m m' : Memory) (bytes : List ℕ) (y : Answer) → Gives m bytes y m' → (Answers.said (answer_of y)).ok ≡ false → m' ≡ m
unfolding table_given
refused_kept m m' bytes y G n = by (ready m) (table_fits bytes) G.memory G.answer
  where
    by : (t u : Bool) → let q : Result = cond t (answered m (No 9)) (cond u (answered (with_hub m (with_table m.hub bytes)) Ok) (answered m (No 24))) in
        m' ≡ q.memory → y ≡ q.answer → m' ≡ m
    by true u e a = e
    by false true e a = absurd (true≢false (sym (ap (λ (z : Answer). (Answers.said (answer_of z)).ok) a) ∙ n))
    by false false e a = e

pub empty : (m : Memory) → Holds (blank (record { row = map slot_of m.slots; table = [] })) (emptied_in m)
unfolding ready ready_of scans_fit sizes_fit each_of
empty m = (refl, refl)
