-- Flush (4): the slot that is freed, and what becomes of the row and of the free slots.
use Rattle.std.specs.Prelude.{cond, List, ℕ, ◌+◌, ◌-◌, ◌*◌, ltb, get_or, set}
use Rattle.slots.specs.declared.Slot.{Slot}
use Rattle.arrays.specs.Arrays.{short}
use Rattle.pools.specs.Placed.{one_more_to}
use Rattle.versions.specs.Versions.{slot_at_in, unlinked_in}
use Rattle.freeing.specs.declared.Freed.{Freed}

-- the range that is freed next stands last in worker w's part, of m
abbrev pub next_to_free : List ℕ → ℕ → ℕ → ℕ
next_to_free merged w m = cond (ltb (256 * w + (m - 1)) 4096) (get_or merged (3 * (256 * w + (m - 1))) 0) 0

-- one slot more is free; there are 2048 at the most
abbrev pub one_more : ℕ → ℕ
one_more n = one_more_to 2048 n

-- H5.28: the slot that is freed, its older neighbour, and how many are free then
unfoldable pub freed_step : List Slot → List ℕ → ℕ → ℕ → ℕ → Freed
freed_step l merged w m n =
    record { slot = short (next_to_free merged w m); older = short (slot_at_in l (next_to_free merged w m)).older; free = one_more n }

-- H5.25, H5.26: the row with that slot unlinked
unfoldable pub freed_row : List Slot → List ℕ → ℕ → ℕ → List Slot
freed_row l merged w m = unlinked_in l (next_to_free merged w m)

-- H5.28: the free slots with that slot after the others; it is taken first
unfoldable pub freed_free : List ℕ → List ℕ → ℕ → ℕ → ℕ → List ℕ
freed_free free merged w m n = set free n (short (next_to_free merged w m))
