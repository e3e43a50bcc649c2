-- Sixteen bytes that are written into the lent buffer.
use mathlib.Core.Path.{◌≡◌, refl, ap}
use mathlib.Core.List.{List, ◌++◌, append_assoc}
use Prim.Native.Nat.{ℕ, zero, suc, ◌+◌, ◌-◌, ◌/◌, ◌<◌}
use native.Mathlib.Nat.{mod-eq_of_lt}
use native.Mathlib.Omega.{arith}
use lib.ListN.{length, take, drop, set, replicate}
use lib.Seq.{drop-drop}
use borrow.Rule.Slice.PartMut.{put_mid}
use Rattle.model.specs.Store.{Reading}
use Rattle.model.specs.Row.{bytes_of, row_bytes}

-- a number in n bytes has n of them
pub length-bytes_of : (n x : ℕ) → length (bytes_of n x) ≡ n
length-bytes_of zero x = refl
length-bytes_of (suc n) x = ap suc (length-bytes_of n (x / 256))

-- sixteen bytes that were lent on from place i come back
pub row_back : (buf part row : List ℕ) (i : ℕ) → part ≡ row
    → take i buf ++ (part ++ drop (i + 16 - i) (drop i buf)) ≡ take i buf ++ row ++ drop (i + 16) buf
row_back buf part row i h =
    let e : i + (i + 16 - i) ≡ i + 16 = omega arith in
    rw (h, drop-drop, e, append_assoc)

-- the numbers, each stored where the last one ended
pub filled : (x : Reading) (r t : ℕ) (rs ts cs : List ℕ) → x.status < 256 → rs ≡ bytes_of 2 r → ts ≡ bytes_of 4 t → cs ≡ bytes_of 8 x.count
    → put_mid 8 8 (put_mid 4 4 (set (put_mid 0 2 (replicate 16 0) rs) 2 x.status) ts) cs ≡ row_bytes r t x
filled x r t rs ts cs h e f g = rw (e, f, g, mod-eq_of_lt h) refl
