-- What the code finds in memory in which a sound store lies: the numbers of the hub by value, a register's newest version, a slot and a worker's
-- time are the model's, and so is the row in which a register's newest version is stamped.
use mathlib.Core.Path.{◌≡◌, ap, ◌∙◌}
use mathlib.Core.Logic.{⊎_elim}
use mathlib.Core.List.{List, map}
use Prim.Native.Nat.{ℕ, ◌<◌}
use native.Mathlib.Omega.{arith}
use lib.ListN.{length}
use Rattle.lists.specs.Over.{over}
use Rattle.model.specs.Store as Model
use Rattle.model.specs.Store.{Store, absent, last_clock, worker_at, slot_at, newest_of}
use Rattle.model.specs.Versions.{stamp_slots}
use Rattle.slots.specs.declared.Slot.{Slot}
use Rattle.slots.specs.Slots.{slot_rep}
use Rattle.arrays.specs.Arrays.{short}
use Rattle.versions.specs.Versions.{slot_at_in, stamped_in}
use Rattle.worker.specs.Rep.{doing_rep, announced_rep, time_of}
use Rattle.worker.proofs.Rep.{announced_at}
use Rattle.state.specs.declared.Hub.{Hub}
use Rattle.step.specs.Step.{Stepped, newest_at, step_of}
use Rattle.simulation.specs.Memory.{Memory, read_of, write}
use Rattle.simulation.specs.Shell.{rows_kept, marks_read, step_at_in}
use Rattle.simulation.proofs.Laws.{newest_at_lem}
use Rattle.simulation.proofs.Sound.{Sound}
use Rattle.simulation.proofs.Simulates.{record_at}
use Rattle.simulation.proofs.Laid as Laid
use Rattle.simulation.proofs.Laid.{hub_is, slots_is}
use Rattle.simulation.proofs.Rows.{stamped_row}

-- the step of worker w at the place d, with the store's numbers
abbrev pub step_found : Store → Memory → ℕ → Model.Doing → Stepped
step_found s m w d =
    step_of (doing_rep d) (announced_rep (worker_at s w).announced) s.clock (length s.free) s.site.P m.slots m.newest m.free
    (rows_kept m.hub) s.marks (map read_of s.workers)

pub short-is : (x : ℕ) → x < 65536 → short x ≡ x
short-is x h = omega arith

module _ (s : Store) (m : Memory) (S : Sound s) (laid : m ≡ write s m) where
  pub step_is : (w : ℕ) (d : Model.Doing) → step_at_in m (record_at s w d) (doing_rep d) ≡ step_found s m w d
  step_is w d =
      ap (λ (h : Hub). step_of (doing_rep d) (announced_rep (worker_at s w).announced) h.clock h.free h.site.p m.slots m.newest m.free
      (rows_kept m.hub) m.hub.marks (marks_read m.hub))
      (hub_is s m laid)
      ∙ (λ i. step_of (doing_rep d) (announced_rep (worker_at s w).announced) s.clock (length s.free) s.site.P m.slots m.newest m.free
      (rows_kept m.hub) (Laid.marks_is s m laid i) (Laid.reads-is s m laid S.bounds.workers.2 i))

module _ (s : Store) (m : Memory) (S : Sound s) (laid : m ≡ write s m) where
  pub slot_is : (c : ℕ) → c < s.site.N → slot_at_in m.slots c ≡ slot_rep (slot_at s c)
  slot_is c h = Laid.slot_is s m laid c (omega (arith, S.bounds.slots.2))

  module _ (r : ℕ) (h : r < s.site.V') where
    -- the slot of register r's newest version, and as a number of sixteen bits
    pub newest_is : newest_at m.newest r ≡ newest_of s r
    newest_is =
        let n = S.bounds.registers in
        ap (λ (l : List ℕ). newest_at l r) (Laid.newest_is s m laid) ∙ newest_at_lem s.newest m.newest r (omega arith) (omega arith)

    pub newest-short : short (newest_at m.newest r) ≡ newest_of s r
    newest-short = ap short newest_is ∙ short-is (newest_of s r) (omega (arith, S.newest r h, S.bounds.slots.1))

    -- the row in which it is stamped
    pub stamp-row : stamped_in m.slots (newest_at m.newest r) s.clock
        ≡ over (map slot_rep (stamp_slots s.slots (newest_of s r) s.clock)) m.slots
    stamp-row =
        let n = S.bounds.slots in
        ap (λ (i : ℕ). stamped_in m.slots i s.clock) newest_is
        ∙ ap (λ (l : List Slot). stamped_in l (newest_of s r) s.clock) (slots_is s m laid)
        ∙ stamped_row s.slots m.slots (newest_of s r) s.clock (omega (arith, S.newest r h)) (λ z. omega (arith, (S.unstamped r h z).0))

-- a worker's time is read as the model's
pub time_is : (s : Store) (w : ℕ) → Sound s → w < s.site.P → time_of (announced_rep (worker_at s w).announced) ≡ (worker_at s w).announced
time_is s w S wb =
    let t : ℕ = (worker_at s w).announced in
    ⊎_elim (λ (e : t ≡ absent). rw e) (λ (h : t < last_clock). ap time_of (announced_at t (omega arith))) (S.announced w wb)
