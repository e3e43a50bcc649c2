-- What follows where a read or a total has found its version, and where a step may be refused: a claim that holds of each end holds of it.
use mathlib.Core.Path.{◌≡◌, refl}
use mathlib.Core.Bool.{true}
use mathlib.Core.Option.{Option, none, some}
use Prim.Native.Nat.{ℕ}
use lib.Dec.{leb}
use Rattle.model.specs.Totals.{goes_on, Sum}
use Rattle.model.specs.Store.{Content, Purpose, Single, Marked, Totaling, Goal, Idle, ReadEnter, Store, place, count_of}
use Rattle.model.specs.Rules.{twelve_digits}
use Rattle.model.specs.Answer.{Answer, Going, No, Stepped, said}
use Rattle.model.specs.Steps.{answer_for, signed, total_found, found, stopped_by}
use Rattle.model.specs.Demand.{FinishedAt, end_as, finishes}
use Rattle.model.proofs.Basic.{cond_both}

-- an answer that shows something: it ends its operation as finished, and frees nothing
pub record Tells (a : Answer) : Type 0 where
  pub ends : (said a).ends ≡ true
  pub refusal : (said a).refusal ≡ none
  pub freed : (said a).freed ≡ none

pub answer_for-tells : (x : Content) → Tells (answer_for x)
unfolding answer_for
answer_for-tells none = record { ends = refl; refusal = refl; freed = refl }
answer_for-tells (some x) = record { ends = refl; refusal = refl; freed = refl }

pub signed-tells : (y : Sum) → Tells (signed y)
unfolding signed
signed-tells y =
    cond_both Tells (leb y.minus y.plus) _ _
    (λ u. record { ends = refl; refusal = refl; freed = refl })
    (λ u. record { ends = refl; refusal = refl; freed = refl })

pub tells_finishes : {a : Answer} → Tells a → finishes a ≡ true
tells_finishes T = rw (T.ends, T.refusal)

pub tells_end : (i : ℕ) {a : Answer} → Tells a → end_as i a ≡ FinishedAt i a
tells_end i T = rw T.refusal

-- a refusal met at a step, or what follows where there is none
pub stopped_by_lem : (Q : Stepped → Type 0) (y : Option ℕ) (s : Store) (w : ℕ) (next : Stepped)
    → ((k : ℕ) → y ≡ some k → Q (record { store = place s w Idle; answer = No k })) → (y ≡ none → Q next) → Q (stopped_by y s w next)
unfolding stopped_by
stopped_by_lem Q none s w next f g = g refl
stopped_by_lem Q (some k) s w next f g = f k refl

pub found-by : (Q : Stepped → Type 0) (s : Store) (w : ℕ) (y : Purpose) (x : Content)
    → ((a : Answer) → Tells a → Q (record { store = place s w Idle; answer = a }))
    → Q (record { store = place s w Idle; answer = No 18 })
    → ((g : Goal) → Q (record { store = place s w (ReadEnter g); answer = Going }))
    → Q (found s w y x)
unfolding found total_found
found-by Q s w Single x shown over next = shown (answer_for x) (answer_for-tells x)
found-by Q s w (Marked m) x shown over next = shown (answer_for x) (answer_for-tells x)
found-by Q s w (Totaling g i y) x shown over next =
    cond_both Q (leb (count_of x) twelve_digits) _ _
    (λ e. cond_both Q (goes_on s.site.rows g i) _ _ (λ f. next _) (λ f. shown _ (signed-tells _)))
    (λ e. over)
