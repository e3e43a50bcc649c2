-- A part of lent memory that is lent on and written whole, also behind entries that were replaced.
use mathlib.Core.Path.{◌≡◌, refl}
use mathlib.Core.List.{List, ◌++◌, append_assoc}
use Prim.Native.Nat.{ℕ}
use borrow.Rule.Slice.PartMut.{put_mid}
use lib.ListN.{length, drop, length-append}
use lib.Seq.{take-append_seam, drop-append-add, drop-drop}
use Rattle.lists.specs.Over.{over, over_at}

module _ {A : Type 0} where
  -- the k entries from place i on, where the part holds p now
  pub put_mid-over_at : (i k : ℕ) (s part p : List A) → part ≡ p → k ≡ length p → put_mid i k s part ≡ over_at i p s
  unfolding over_at
  put_mid-over_at i k s part p e h = rw (e, h, drop-drop, append_assoc) refl

  -- entries copied behind those that were replaced
  pub over_at-over : (p w d : List A) (i : ℕ) → length p ≡ i → over_at i w (over p d) ≡ over (p ++ w) d
  unfolding over over_at
  over_at-over p w d i e =
      rw (
        ← e,
        take-append_seam p (drop (length p) d),
        drop-append-add p (drop (length p) d) (length w),
        drop-drop (length w) (length p) d,
        length-append p w,
      )
