-- What the decision on a record says of the worker: an operation begins, and a step is taken, only where the memory counts as set up and of a
-- worker below p. The worker that a record names stands in its byte 1.
use mathlib.Core.Path.{◌≡◌, refl, subst}
use mathlib.Core.Bool.{Bool, true, false, cond, ◌&&◌}
use mathlib.Core.List.{List}
use Prim.Native.Nat.{ℕ, zero, suc, ◌<◌}
use native.Mathlib.Omega.{arith}
use lib.Dec.{ltb}
use lib.ListN.{length, get_or}
use borrow.Author.Tests.{ltb-true}
use Rattle.std.proofs.Common.{Result, Ok, Err}
use Rattle.model.specs.Record as Model
use Rattle.model.specs.Record.{SetUp, Begin, Step, Decoded, Asks, Refuses}
use Rattle.model.proofs.Basic.{cond_both, and_both}
use Rattle.gate.specs.declared.Gate.{Gate}
use Rattle.gate.specs.declared.Gate.TheVariants.{Make, Start, Go}
use Rattle.gate.proofs.Tests.{begin-gate_by}
use Rattle.decision.specs.Decision.{sizes_ok, gate_of}

-- what a gate says of the worker w that the record names
abbrev pub Named : Bool → ℕ → ℕ → ℕ → Result Gate ℕ → Type 0
Named up w p long (Err k) = Unit {0}
Named up w p long (Ok (Make x y n k)) = (up ≡ false) × (sizes_ok x y n k long ≡ true)
Named up w p long (Ok (Start x d)) = (up ≡ true) × (x ≡ w) × (w < p)
Named up w p long (Ok (Go x)) = (up ≡ true) × (x ≡ w) × (w < p)

named_worker : (w p long : ℕ) (g : Result Gate ℕ) → (w < p → Named true w p long g) → (t : Bool) → ltb w p ≡ t → Named true w p long (cond t g (Err 3))
named_worker w p long g f true e = f (ltb-true w p e)
named_worker w p long g f false e = tt

-- the worker, if a record names one, is u
abbrev pub Names : Decoded → ℕ → Type 0
Names (Refuses k) u = Unit {0}
Names (Asks (SetUp z)) u = Unit {0}
Names (Asks (Begin w o)) u = w ≡ u
Names (Asks (Step w)) u = w ≡ u

pub named : (r : Decoded) (u : ℕ) → Names r u → (up : Bool) (p v long : ℕ) (idle has : Bool) (list rows marks reading table : List ℕ)
    → Named up u p long (gate_of r up p v long idle has list rows marks reading table)
unfolding gate_of
named (Refuses k) u e up p v long idle has list rows marks reading table = tt
named (Asks (SetUp z)) u e true p v long idle has list rows marks reading table = tt
named (Asks (SetUp z)) u e false p v long idle has list rows marks reading table =
    let sizes = sizes_ok z.P z.V' z.N z.clock long in
    let fits = Model.list_fits z.V' list in
    cond_both (Named false u p long) (sizes && fits) _ _ (λ f. (refl, (and_both sizes fits f).0)) (λ f. tt)
named (Asks (Begin w o)) u e false p v long idle has list rows marks reading table = tt
named (Asks (Begin w o)) u e true p v long idle has list rows marks reading table =
    subst (λ (i : ℕ). Named true i p long (gate_of (Asks (Begin w o)) true p v long idle has list rows marks reading table)) e
    (begin-gate_by (Named true w p long) p v w o idle has rows marks reading table (λ k n. tt) (λ h. (refl, refl, ltb-true w p h)))
named (Asks (Step w)) u e false p v long idle has list rows marks reading table = tt
named (Asks (Step w)) u e true p v long idle has list rows marks reading table =
    subst (λ (i : ℕ). Named true i p long (gate_of (Asks (Step w)) true p v long idle has list rows marks reading table)) e
    (named_worker w p long (Ok (Go w)) (λ h. (refl, refl, h)) (ltb w p) refl)

------------------------------------------------------------------------
-- The worker that a record names stands in its byte 1 (H3.3)

command_names : (b : List ℕ) (k : ℕ) → Names (Asks (Model.command_of b k)) (get_or b 1 0)
unfolding Model.command_of
command_names b zero = tt
command_names b (suc zero) = omega arith
command_names b (suc (suc zero)) = omega arith
command_names b (suc (suc (suc zero))) = omega arith
command_names b (suc (suc (suc (suc zero)))) = omega arith
command_names b (suc (suc (suc (suc (suc zero))))) = omega arith
command_names b (suc (suc (suc (suc (suc (suc zero)))))) = omega arith
command_names b (suc (suc (suc (suc (suc (suc (suc zero))))))) = omega arith
command_names b (suc (suc (suc (suc (suc (suc (suc (suc zero)))))))) = omega arith
command_names b (suc (suc (suc (suc (suc (suc (suc (suc (suc zero))))))))) = omega arith
command_names b (suc (suc (suc (suc (suc (suc (suc (suc (suc (suc zero)))))))))) = omega arith
command_names b (suc (suc (suc (suc (suc (suc (suc (suc (suc (suc (suc n))))))))))) = omega arith

pub decode-names : (b : List ℕ) → Names (Model.decode b) (get_or b 1 0)
unfolding Model.decode
decode-names b =
    let c = Model.command_of b (get_or b 0 0) in
    let P : Decoded → Type 0 = λ x. Names x (get_or b 1 0) in
    cond_both P (ltb (length b) 16) _ _ (λ e. tt)
    (λ e. cond_both P (ltb 11 (get_or b 0 0)) _ _ (λ f. tt)
    (λ f. cond_both P (Model.unused_zero b c) _ _ (λ g. command_names b (get_or b 0 0)) (λ g. tt)))
