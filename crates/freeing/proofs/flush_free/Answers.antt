-- The slot is what `next_to_free` ensures, and the calls that unlink it and push it on the free slots ensure the rest.
use mathlib.Core.Path.{◌≡◌}
use mathlib.Core.List.{List}
use Prim.Native.Nat.{ℕ}
use lib.ListN.{set}
use Rattle.slots.specs.declared.Slot.{Slot}
use Rattle.arrays.specs.Arrays.{short}
use Rattle.versions.specs.Versions.{row_of, slot_at_in, unlinked_in}
use Rattle.freeing.specs.Freeing.{next_to_free, one_more, freed_step, freed_row, freed_free}
use Rattle.freeing.proofs.flush_free.Goals as goal

-- the slot, its version and how many are free by their names
freed : (l : List Slot) (free merged : List ℕ) (w m n i k : ℕ) (v : Slot) (l' : List Slot) (free' : List ℕ) → i ≡ next_to_free merged w m
    → v ≡ slot_at_in l i → k ≡ one_more n → l' ≡ unlinked_in l i → free' ≡ set free n (short i)
    → (record { slot = short i; older = short v.older; free = k } ≡ freed_step l merged w m n)
    × ((l' ≡ freed_row l merged w m) × (free' ≡ freed_free free merged w m n))
unfolding freed_step freed_row freed_free
freed l free merged w m n i k v l' free' ei ev ek el ef = (rw (ek, ev, ei), (rw ei at el, rw ei at ef))

pub returns : goal.returns
returns c =
    let a = c.args in
    let r = freed (row_of a.row.now) a.free.now a.merged.now a.w a.m a.n _ _ _ _ _ c.next_to_free-i.ensures c.load-v.ensures
    c.one_more.ensures c.unlink.ensures c.set_short.ensures in
    record { value = r.0; row_after = r.1.0; free_after = r.1.1 }
