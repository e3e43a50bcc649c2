-- One law about the refusal that a begin meets, and one about the begin: a claim that holds of each refusal, and where every test passed, holds.
-- The tests are gone through here and nowhere else.
use mathlib.Core.Path.{◌≡◌, refl, sym, subst}
use mathlib.Core.Bool.{Bool, true, false, cond, ◌&&◌}
use mathlib.Core.Logic.{⊎_elim}
use mathlib.Core.Option.{Option, none, some}
use Prim.Native.Nat.{ℕ, ◌<◌}
use native.Mathlib.Omega.{arith}
use lib.Dec.{ltb, eqb}
use Rattle.model.specs.Store.{absent, mark_count, Store, up, mark_at, place}
use Rattle.model.specs.Marks.{MarkNeed, NoMark, EmptyMark, HeldMark, UnreadMark, mark_of, is_read, mark_refusal, number_of}
use Rattle.model.specs.Rules.{Rules}
use Rattle.model.specs.Rights.{allowed}
use Rattle.model.specs.Answer.{Ok, Applied}
use Rattle.model.specs.Record.{Operation}
use Rattle.model.specs.Apply.{refuse, terms, named_below, group_there, value_within, status_known, may_open, may_use_time}
use Rattle.model.specs.Apply.{Seen, refusal, seen, refused_by, begin}
use Rattle.model.specs.Demand.{occurrences}
use Rattle.model.specs.Refusals.{on_reading, at_step}
use Rattle.model.proofs.Basic.{eq_cases, cond_both}

-- 19, 20 and 21 are refusals on reading, and met at a step
abbrev pub OfMarks : Option ℕ → Type 0
OfMarks none = Unit {0}
OfMarks (some k) = (0 < occurrences k on_reading) × (0 < occurrences k at_step)

pub of_marks : (s : Store) (y : MarkNeed) → OfMarks (mark_refusal s y)
unfolding mark_refusal occurrences
of_marks s NoMark = tt
of_marks s (EmptyMark m) = cond_both OfMarks (ltb (mark_at s m) absent) _ _ (λ u. (omega arith, omega arith)) (λ u. tt)
of_marks s (HeldMark m) = cond_both OfMarks (ltb (mark_at s m) absent) _ _ (λ u. tt) (λ u. (omega arith, omega arith))
of_marks s (UnreadMark m) =
    cond_both OfMarks (ltb (mark_at s m) absent) _ _
    (λ u. cond_both OfMarks (is_read m s.workers) _ _ (λ v. (omega arith, omega arith)) (λ v. tt))
    (λ u. (omega arith, omega arith))

-- every test of a begin passed, before a mark is looked at
pub record Tested (limit : Option ℕ) (y : Seen) (w : ℕ) (c : Operation) : Type 0 where
  pub named : (named_below y.V' (terms y.rows c).register && named_below mark_count (mark_of (terms y.rows c).mark)) ≡ true
  pub group : group_there y.rows (terms y.rows c).group ≡ true
  pub value : value_within limit (terms y.rows c).value ≡ true
  pub status : status_known (terms y.rows c).value ≡ true
  pub right : allowed y.table y.V' w (terms y.rows c).right ≡ true
  pub idle : y.idle ≡ true
  pub opens : may_open (terms y.rows c).time y.has ≡ true
  pub time : may_use_time (terms y.rows c).time y.has ≡ true

pub refusal-by : (P : ℕ → Type 0) (limit : Option ℕ) (y : Seen) (w : ℕ) (c : Operation)
    → ((k : ℕ) → 0 < occurrences k on_reading → P k)
    → (Tested limit y w c → P (y.marked (terms y.rows c).mark)) → P (refusal limit y w c)
unfolding refusal occurrences
refusal-by P limit y w c refused passed =
    let x = terms y.rows c in
    cond_both P (named_below y.V' x.register) _ _
    (λ e₁. cond_both P (named_below mark_count (mark_of x.mark)) _ _
    (λ e₂. cond_both P (group_there y.rows x.group) _ _
    (λ e₃. cond_both P (value_within limit x.value) _ _
    (λ e₄. cond_both P (status_known x.value) _ _
    (λ e₅. cond_both P (allowed y.table y.V' w x.right) _ _
    (λ e₆. cond_both P y.idle _ _
    (λ e₇. cond_both P (may_open x.time y.has) _ _
    (λ e₈. cond_both P (may_use_time x.time y.has) _ _
    (λ e₉. passed (record { named = rw (e₁, e₂); group = e₃; value = e₄; status = e₅; right = e₆; idle = e₇; opens = e₈; time = e₉ }))
    (λ e₉. refused 13 (omega arith)))
    (λ e₈. refused 12 (omega arith)))
    (λ e₇. refused 10 (omega arith)))
    (λ e₆. refused 23 (omega arith)))
    (λ e₅. refused 25 (omega arith)))
    (λ e₄. refused 16 (omega arith)))
    (λ e₃. refused 17 (omega arith)))
    (λ e₂. refused 4 (omega arith)))
    (λ e₁. refused 4 (omega arith))

-- 0 is none of them
pub not_zero : (k : ℕ) → 0 < occurrences k on_reading → eqb k 0 ≡ false
unfolding occurrences
not_zero k n =
    ⊎_elim (λ u. absurd (let z : 0 < occurrences 0 on_reading = subst (λ (i : ℕ). 0 < occurrences i on_reading) u.0 n in omega (arith, z)))
    (λ u. u.1) (eq_cases k 0)

-- refused for a mark, or not
pub marked_by : (P : ℕ → Type 0) (y : Option ℕ) → OfMarks y → ((k : ℕ) → 0 < occurrences k on_reading → P k) → (y ≡ none → P 0) → P (number_of y)
marked_by P none a f g = g refl
marked_by P (some k) a f g = f k a.0

------------------------------------------------------------------------
-- The begin in a store

-- every test passed
pub record Passed (rules : Rules) (s : Store) (w : ℕ) (c : Operation) : Type 0 where
  pub worker : ltb w s.site.P ≡ true
  pub tests : Tested rules.limit (seen s w) w c
  pub mark : mark_refusal s (terms s.site.rows c).mark ≡ none

pub begin-by : (Q : Applied → Type 0) (rules : Rules) (s : Store) (w : ℕ) (c : Operation)
    → ((k : ℕ) → 0 < occurrences k on_reading → Q (refuse (up s) k))
    → (Passed rules s w c → Q (record { hub = up (place s w (terms s.site.rows c).first); answer = Ok })) → Q (begin rules s w c)
unfolding begin refused_by occurrences
begin-by Q rules s w c refused begun =
    let x = terms s.site.rows c in
    let next : Applied = record { hub = up (place s w x.first); answer = Ok } in
    let P : ℕ → Type 0 = λ k. Q (cond (eqb k 0) next (refuse (up s) k)) in
    let no : (k : ℕ) → 0 < occurrences k on_reading → P k =
    λ k n. subst (λ (t : Bool). Q (cond t next (refuse (up s) k))) (sym (not_zero k n)) (refused k n) in
    cond_both Q (ltb w s.site.P) _ _
    (λ e. refusal-by P rules.limit (seen s w) w c no
    (λ t. marked_by P (mark_refusal s x.mark) (of_marks s x.mark) no (λ m. begun (record { worker = e; tests = t; mark = m }))))
    (λ e. refused 3 (omega arith))
