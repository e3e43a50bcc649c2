-- `call_owned` meets its contract: what `call` does to the first slots, which are lent to it; the others stay.
use mathlib.Core.Path.{◌≡◌, sym, ap, subst, ◌∙◌}
use mathlib.Core.List.{List, ◌++◌}
use Prim.Native.Nat.{ℕ, ◌-◌, ◌≤◌}
use native.Mathlib.Omega.{arith}
use lib.ListN.{length, take, drop}
use lib.Seq.{length-take-le, take_all, take-append_seam, drop-append_seam}
use borrow.Author.Rules.{rules}
use Rattle.model.specs.Rules.{of_totals}
use Rattle.slots.specs.declared.Slot.{Slot}
use Rattle.simulation.specs.Lent.{lent_memory}
use Rattle.calls.specs.Calls.{Performed}
use Rattle.hub.proofs.call_owned.Goals as goal

-- what is said of the first m slots of a row of at most 2048, which become zs, holds where the row is put together again
front : (P : List Slot → List Slot → Type 0) (row zs : List Slot) (m k : ℕ) → k ≡ m → m ≤ 2048 → m ≤ length row → length zs ≡ m
    → P (take 2048 (take m row)) (take 2048 zs)
    → (drop k (zs ++ drop m row) ≡ drop k row) × P (take k row) (take k (zs ++ drop m row))
front P row zs m k e small inside long p =
    let a : take 2048 (take m row) ≡ take m row = take_all 2048 (take m row) (omega (arith, length-take-le m row inside)) in
    let b : take 2048 zs ≡ zs = take_all 2048 zs (omega arith) in
    let t : take m (zs ++ drop m row) ≡ zs = ap (λ (j : ℕ). take j (zs ++ drop m row)) (sym long) ∙ take-append_seam zs (drop m row) in
    let d : drop m (zs ++ drop m row) ≡ drop m row =
    ap (λ (j : ℕ). drop j (zs ++ drop m row)) (sym long) ∙ drop-append_seam zs (drop m row) in
    let Q : ℕ → Type 0 = λ j. (drop j (zs ++ drop m row) ≡ drop j row) × P (take j row) (take j (zs ++ drop m row)) in
    subst Q (sym e) (
      d,
      subst (P (take m row)) (sym t) (subst (λ (l : List Slot). P l zs) a (subst (P (take 2048 (take m row))) b p)),
    )

pub returns : goal.returns
returns c =
    let a = c.args in
    let d = c.call-called in
    front
    (λ (l l' : List Slot). Performed a.what (lent_memory a.hub l a.lent.now) (of_totals a.given.now)
    a.bytes.now a.kinds.now a.numbers.now d.result
    (lent_memory d.result.hub l' d.new.lent) d.new.kinds d.new.numbers)
    a.row d.new.slots (c.min-n.result - 0) _ (search rules) (search rules) (search rules) (search rules) d.ensures.performed
