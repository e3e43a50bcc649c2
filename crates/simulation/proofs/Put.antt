-- Put (1) and (2) are the model's. With no free slot put (1) is refused, and nothing changes but the worker's place; else the slot taken is the
-- model's first free one, linked above the stamped newest version. Put (2) stamps the register if the covered version's high is open.
use mathlib.Core.Path.{◌≡◌, refl, ap, ◌∙◌}
use mathlib.Core.Bool.{Bool, true, false}
use mathlib.Core.List.{List, [], ◌∷◌, map, reverse}
use Prim.Native.Nat.{ℕ, suc, ◌-◌, ◌≤◌, ◌<◌}
use native.Mathlib.Omega.{arith}
use lib.Dec.{eqb, eqb-suc-zero}
use lib.ListN.{length, get_or, set}
use borrow.Author.Tests.{lt-ltb, le-leb}
use Rattle.lists.specs.Over.{over}
use Rattle.model.specs.Store as Model
use Rattle.model.specs.Store.{Store, absent, worker_at, slot_at, newest_of, with_doing}
use Rattle.model.specs.Versions.{stamp_slots, stamp, link_slots}
use Rattle.model.specs.Steps.{step_at, put_publish, put_stamp}
use Rattle.model.proofs.Basic.{occurrences-head}
use Rattle.theorem.proofs.Slots.{stamp-length}
use Rattle.values.specs.declared.Answer.TheVariants.{Going, No}
use Rattle.slots.specs.declared.Slot.{Slot}
use Rattle.slots.specs.Slots.{slot_rep}
use Rattle.arrays.specs.Arrays.{short}
use Rattle.versions.specs.Versions.{stamped_in, linked_in}
use Rattle.worker.specs.declared.Doing.TheVariants.{PutStamp}
use Rattle.worker.specs.Rep.{reading_rep, announced_rep}
use Rattle.step.specs.declared.Next.TheVariants.{Taken}
use Rattle.announcing.specs.Announcing.{outcome_of}
use Rattle.step.specs.Step.{newest_at, next_free, put_publish_step, put_stamp_step, step_of}
use Rattle.simulation.specs.Memory.{Memory, hand_words, write}
use Rattle.simulation.specs.Left.{Sized}
use Rattle.simulation.proofs.Laws.{newest_set, free_top, free_pop}
use Rattle.simulation.proofs.Sound.{Sound}
use Rattle.simulation.proofs.Simulates.{Simulates}
use Rattle.simulation.proofs.Laid as Laid
use Rattle.simulation.proofs.Laid.{cond_no, slots_is, free_is, place_at}
use Rattle.simulation.proofs.Rows.{linked_row}
use Rattle.simulation.proofs.Taken.{taken-sim}
use Rattle.simulation.proofs.Found.{short-is, step_is, slot_is, newest_is, newest-short, stamp-row}
use Rattle.simulation.proofs.Kept.{kept_sim}

------------------------------------------------------------------------
-- Put (1) of x to register r

module _ (s : Store) (m : Memory) (w r : ℕ) (x : Model.Reading)
    (S : Sound s) (Z : Sized m) (laid : m ≡ write s m) (wb : w < s.site.P) (e : (worker_at s w).doing ≡ Model.PutPublish r x) where
  abbrev d : Model.Doing
  d = Model.PutPublish r x

  abbrev n : ℕ
  n = newest_of s r

  inside : r < s.site.V'
  inside = place_at s S w wb d e

  -- refusal 14
  none : s.free ≡ [] → Simulates s m w d
  unfolding step_of put_publish_step step_at put_publish hand_words
  none p =
      kept_sim s m w d S Z laid wb e Model.Idle (worker_at s w).announced s.clock s.slots (No 14)
      (rw (ap (λ (l : List ℕ). eqb (length l) 0) p)) (slots_is s m laid) (ap (put_publish s w r x) p) refl refl

  -- slot f is taken
  module _ (f : ℕ) (free : List ℕ) (p : s.free ≡ f ∷ free) where
    inside-f : f < s.site.N
    inside-f = S.free f (rw p (occurrences-head f free))

    held : m.free ≡ over (reverse (f ∷ free)) m.free
    held = rw p at (free_is s m laid)

    abbrev g : ℕ
    g = next_free m.free (length s.free)

    next-is : g ≡ f
    next-is =
        let k : ℕ = length free in
        let few : suc k ≤ 2048 = omega (arith, S.bounds.total, S.bounds.slots, ap length p) in
        let z : suc k - 1 ≡ k = omega arith in
        rw (p, lt-ltb 0 (suc k) (omega arith), le-leb (suc k) 2048 few, z)
        (ap (λ (l : List ℕ). get_or l k 0) held ∙ free_top f free m.free)

    abbrev i : ℕ
    i = newest_at m.newest r

    abbrev l : List Model.Slot
    l = stamp_slots s.slots n s.clock

    row_is : linked_in (stamped_in m.slots i s.clock) i g (reading_rep x) ≡ over (map slot_rep (link_slots l n f x)) m.slots
    row_is =
        let long : length l ≡ s.site.N = stamp-length s.slots n s.clock ∙ S.bounds.slots.2 in
        ap (λ (q : List Slot). linked_in q i g (reading_rep x)) (stamp-row s m S laid r inside)
        ∙ ap (λ (j : ℕ). linked_in (over (map slot_rep l) m.slots) j g (reading_rep x)) (newest_is s m S laid r inside)
        ∙ ap (λ (j : ℕ). linked_in (over (map slot_rep l) m.slots) n j (reading_rep x)) next-is
        ∙ linked_row l m.slots n f x (omega (arith, S.newest r inside)) (omega (arith, inside-f))

    newest-put : set m.newest r (short g) ≡ over (set s.newest r f) m.newest
    newest-put =
        ap (λ (j : ℕ). set m.newest r (short j)) next-is
        ∙ ap (set m.newest r) (short-is f (omega (arith, S.bounds.slots.1, inside-f)))
        ∙ ap (λ (q : List ℕ). set q r f) (Laid.newest_is s m laid)
        ∙ newest_set s.newest m.newest r f (omega (arith, S.bounds.registers.2, inside))

    some : Simulates s m w d
    unfolding step_of put_publish_step step_at put_publish stamp hand_words
    some =
        let less : length s.free - 1 ≡ length free = omega (arith, ap length p) in
        let more : eqb (length s.free) 0 ≡ false = ap (λ (q : List ℕ). eqb (length q) 0) p ∙ eqb-suc-zero (length free) in
        taken-sim s m w d S Z laid wb e (with_doing (worker_at s w) (Model.PutStamp r n)) s.clock (link_slots l n f x)
        (set s.newest r f) free Going
        (record {
          code =
              step_is s m S laid w d
              ∙ cond_no (eqb (length s.free) 0) _ _ more
              ∙ λ j. record {
                next =
                    Taken (outcome_of (PutStamp r (newest-short s m S laid r inside j)) (announced_rep (worker_at s w).announced) s.clock
                    (less j) Going);
                row = row_is j;
                newest = newest-put j;
              };
          model = ap (put_publish s w r x) p;
          pool = refl;
          times = refl;
          words = refl;
          free_kept = free_pop f free m.free held;
        })

  pub put-publish_sim : Simulates s m w (Model.PutPublish r x)
  put-publish_sim = by s.free refl
    where
      by : (l : List ℕ) → s.free ≡ l → Simulates s m w d
      by [] p = none p
      by (f ∷ l) p = some f l p

------------------------------------------------------------------------
-- Put (2) to register r, with the covered version in slot c

module _ (s : Store) (m : Memory) (w r c : ℕ) (S : Sound s) (Z : Sized m) (laid : m ≡ write s m) (wb : w < s.site.P) where
  pub put-stamp_sim : (worker_at s w).doing ≡ Model.PutStamp r c → Simulates s m w (Model.PutStamp r c)
  unfolding step_of put_stamp_step step_at put_stamp stamp hand_words
  put-stamp_sim e = by (eqb (slot_at s c).high absent) refl
    where
      known : (r < s.site.V') × (c < s.site.N)
      known = place_at s S w wb (Model.PutStamp r c) e

      by : (unset : Bool) → eqb (slot_at s c).high absent ≡ unset → Simulates s m w (Model.PutStamp r c)
      by true z =
          kept_sim s m w (Model.PutStamp r c) S Z laid wb e (Model.PutHandIn r c) (worker_at s w).announced s.clock
          (stamp_slots s.slots (newest_of s r) s.clock) Going (rw (slot_is s m S laid c known.1, z)) (stamp-row s m S laid r known.0)
          (rw z) refl refl
      by false z =
          kept_sim s m w (Model.PutStamp r c) S Z laid wb e (Model.PutHandIn r c) (worker_at s w).announced s.clock s.slots Going
          (rw (slot_is s m S laid c known.1, z)) (slots_is s m laid) (rw z) refl refl
