-- The rows of the kinds: what each holds, by computing, and that the line is what they lead to.
use mathlib.Core.Path.{◌≡◌, refl, sym, ap, subst, ◌∙◌}
use mathlib.Core.Bool.{true, false, cond}
use mathlib.Core.List.{List, [], ◌∷◌, ◌++◌, append_assoc, append-nil}
use Prim.Native.Nat.{ℕ, zero, suc, ◌+◌, ◌*◌, ◌-◌, ◌/◌, ◌%◌, ◌≤◌, min}
use native.Mathlib.Omega.{arith}
use lib.Dec.{leb}
use lib.ListN.{length, take, drop, get_or, length-append, length-take}
use Rattle.model.specs.Log.{text, decimal}
use Rattle.lists.specs.Over.{over_at}
use Rattle.lines.specs.Words.{words_with, words_from, line_from, rows, up_to_number, has_number, has_status, status_part, tail_with, tail_from}
use Rattle.lines.specs.Written.{Appended, Spills}
use Rattle.model.proofs.Basic.{cond_both}
use Rattle.lines.proofs.Decimal.{length-decimal}
use Rattle.lines.proofs.Longest.{words-length}
use Rattle.lines.proofs.Spilling.{spills_none, spills_nothing, spills_then}

-- row j is that of kind k: its text and the rest of eight bytes, and in a byte how many are the text, whether a number follows and whether a status does
pub record Row (k j : ℕ) : Type 0 where
  pub rest : List ℕ
  pub few : length rest ≤ 8
  pub is : take 8 (drop (8 * j) rows) ≡ up_to_number k ++ rest
  pub size : get_or rows (80 + j) 0 % 16 ≡ length (up_to_number k)
  pub mark : leb 16 (get_or rows (80 + j) 0) ≡ has_number k
  pub status : leb 32 (get_or rows (80 + j) 0) ≡ has_status k

pub row : (k : ℕ) → Row k (min k 9)
unfolding rows up_to_number has_number has_status text
row zero = record { rest = 0 ∷ 0 ∷ 0 ∷ 0 ∷ []; few = omega arith; is = refl; size = refl; mark = refl; status = refl }
row (suc zero) = record { rest = 0 ∷ []; few = omega arith; is = refl; size = refl; mark = refl; status = refl }
row (suc (suc zero)) = record { rest = 0 ∷ []; few = omega arith; is = refl; size = refl; mark = refl; status = refl }
row (suc (suc (suc zero))) = record { rest = 0 ∷ 0 ∷ 0 ∷ 0 ∷ []; few = omega arith; is = refl; size = refl; mark = refl; status = refl }
row (suc (suc (suc (suc zero)))) = record { rest = 0 ∷ []; few = omega arith; is = refl; size = refl; mark = refl; status = refl }
row (suc (suc (suc (suc (suc zero))))) = record { rest = 0 ∷ 0 ∷ []; few = omega arith; is = refl; size = refl; mark = refl; status = refl }
row (suc (suc (suc (suc (suc (suc zero)))))) = record { rest = 0 ∷ 0 ∷ 0 ∷ 0 ∷ []; few = omega arith; is = refl; size = refl; mark = refl; status = refl }
row (suc (suc (suc (suc (suc (suc (suc zero))))))) = record { rest = []; few = omega arith; is = refl; size = refl; mark = refl; status = refl }
row (suc (suc (suc (suc (suc (suc (suc (suc zero)))))))) = record { rest = 0 ∷ 0 ∷ []; few = omega arith; is = refl; size = refl; mark = refl; status = refl }
row (suc (suc (suc (suc (suc (suc (suc (suc (suc k))))))))) =
    let l = suc (suc (suc (suc (suc (suc (suc (suc (suc k)))))))) in
    let m : 9 ≡ min l 9 = omega arith in
    subst (λ (j : ℕ). Row l j) m (record { rest = 0 ∷ 0 ∷ 0 ∷ 0 ∷ []; few = omega arith; is = refl; size = refl; mark = refl; status = refl })

module _ (t : List ℕ) (k j : ℕ) (is : t ≡ rows) (at : j ≡ min k 9) where
  here : Row k j
  here = subst (λ (n : ℕ). Row k n) (sym at) (row k)

  -- a row was written
  pub spills_row : {d e : List ℕ} {i n : ℕ} → Appended (take (8 * j + 8 - 8 * j) (drop (8 * j) t)) i d e n
      → Spills (up_to_number k) i d e (i + get_or t (80 + j) 0 % 16)
  spills_row {d} {e} {i} {n} w =
      let m : 8 * j + 8 - 8 * j ≡ 8 = omega arith in
      record {
        spilled = here.rest;
        few = here.few;
        memory = w.memory ∙ ap (λ (l : List ℕ). over_at i l d)
            (ap (λ (n : ℕ). take n (drop (8 * j) t)) m ∙ ap (λ (l : List ℕ). take 8 (drop (8 * j) l)) is ∙ here.is);
        next = ap (λ (n : ℕ). i + n) (ap (λ (l : List ℕ). get_or l (80 + j) 0 % 16) is ∙ here.size);
      }

  pub row_mark : leb 16 (get_or t (80 + j) 0) ≡ has_number k
  row_mark = ap (λ (l : List ℕ). leb 16 (get_or l (80 + j) 0)) is ∙ here.mark

  pub row_status : leb 32 (get_or t (80 + j) 0) ≡ has_status k
  row_status = ap (λ (l : List ℕ). leb 32 (get_or l (80 + j) 0)) is ∙ here.status

pub after-row : (k : ℕ) {i j : ℕ} {d e : List ℕ} → Spills (up_to_number k) i d e j → j ≤ i + 8
after-row k w =
    let r = row k in
    let n : length (take 8 (drop (8 * min k 9) rows)) ≡ length (up_to_number k ++ r.rest) = ap length r.is in
    omega (arith, w.next, n, length-take 8 (drop (8 * min k 9) rows), length-append (up_to_number k) r.rest)

-- the status, by whether there is one
pub with-status : (k s : ℕ) {d e f : List ℕ} {i j n : ℕ} → has_status k ≡ true → i ≤ length d → Appended (text " ") i d e j → Spills (decimal s) j e f n
    → Spills (status_part k s) i d f n
unfolding status_part
with-status k s h l a b = rw h (spills_then l (spills_none a) b)

pub without_status : (k s : ℕ) {d : List ℕ} {i : ℕ} → has_status k ≡ false → i ≤ length d → Spills (status_part k s) i d d i
unfolding status_part
without_status k s h l = rw h (spills_nothing l)

pub after-status : (k s : ℕ) {i j : ℕ} {d e : List ℕ} → Spills (status_part k s) i d e j → j ≤ i + 21
unfolding status_part text
after-status k s w =
    let few : length (cond (has_status k) (text " " ++ decimal s) []) ≤ 21 =
    cond_both (λ (l : List ℕ). length l ≤ 21) (has_status k) (text " " ++ decimal s) [] (λ h. omega (arith, length-decimal s)) (λ h. omega arith) in
    omega (arith, w.next, few)

-- what follows a record's number, by whether a number follows
pub with_number : (k s x : ℕ) {d e f g h : List ℕ} {i j n m o : ℕ} → has_number k ≡ true → i ≤ length d → j ≤ length e → n ≤ length f
    → Spills (up_to_number k) i d e j → Spills (decimal x) j e f n → Spills (status_part k s) n f g m → Appended (text "\n") m g h o
    → Spills (tail_with k s x) i d h o
unfolding tail_with
with_number k s x t l r q a b u c =
    rw t (spills_then l a (spills_then r b (spills_then q u (spills_none c))))

pub without_number : (k s x : ℕ) {d e : List ℕ} {i j : ℕ} → has_number k ≡ false → Spills (up_to_number k) i d e j → Spills (tail_with k s x) i d e j
unfolding tail_with
without_number k s x h a = rw (h, append-nil (up_to_number k)) a

joined : (a b c d : List ℕ) → a ++ (b ++ c ++ d) ≡ a ++ b ++ c ++ d
joined a b c d = simp append_assoc refl

with-parts : (k s x : ℕ) → tail_with k s x ≡ text " " ++ words_with k s x ++ text "\n"
unfolding up_to_number tail_with has_number has_status status_part words_with text
with-parts zero s x = refl
with-parts (suc zero) s x = refl
with-parts (suc (suc zero)) s x = refl
with-parts (suc (suc (suc zero))) s x = refl
with-parts (suc (suc (suc (suc zero)))) s x = ap (λ (l : List ℕ). text " value " ++ l) (joined (decimal x) (text " ") (decimal s) (text "\n"))
with-parts (suc (suc (suc (suc (suc zero))))) s x = refl
with-parts (suc (suc (suc (suc (suc (suc zero)))))) s x = refl
with-parts (suc (suc (suc (suc (suc (suc (suc zero))))))) s x = ap (λ (l : List ℕ). text " value -" ++ l) (joined (decimal x) (text " ") (decimal s) (text "\n"))
with-parts (suc (suc (suc (suc (suc (suc (suc (suc zero)))))))) s x = refl
with-parts (suc (suc (suc (suc (suc (suc (suc (suc (suc k))))))))) s x = refl

tail_parts : (k x : ℕ) → tail_from k x ≡ text " " ++ words_from k x ++ text "\n"
unfolding tail_from words_from
tail_parts k x = with-parts (k % 256) (k / 256) x

pub line-parts : (n k x : ℕ) → decimal n ++ tail_from k x ≡ line_from n k x
unfolding line_from
line-parts n k x =
    ap (λ (l : List ℕ). decimal n ++ l) (tail_parts k x) ∙ sym (append_assoc (decimal n) (text " " ++ words_from k x) (text "\n"))
    ∙ ap (λ (l : List ℕ). l ++ text "\n") (sym (append_assoc (decimal n) (text " ") (words_from k x)))

pub tail_length : (k x : ℕ) → length (tail_from k x) ≤ 50
unfolding text
tail_length k x = rw (tail_parts k x) (simp length-append (omega (arith, words-length k x)))

pub after_tail : (k x : ℕ) {i j : ℕ} {d e : List ℕ} → Spills (tail_from k x) i d e j → j ≤ i + 50
after_tail k x w = omega (arith, w.next, tail_length k x)

pub append-line : (n k x : ℕ) {d e : List ℕ} {i j : ℕ} → Appended (decimal n ++ tail_from k x) i d e j → Appended (line_from n k x) i d e j
append-line n k x {d} {e} {i} {j} w = subst (λ (p : List ℕ). Appended p i d e j) (line-parts n k x) w
