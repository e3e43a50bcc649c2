-- What a test that was passed says: memory that counts as set up has at most sixteen workers, and a setup that is accepted has its sizes in
-- their ranges.
use Rattle.std.specs.Prelude.{◌≡◌, ℕ, ◌≤◌, Bool, true, false, cond, ◌&&◌, leb, List}
use mathlib.Core.Path.{refl}
use native.Mathlib.Omega.{arith}
use Rattle.model.specs.Record.{Sizes}
use Rattle.model.specs.Apply.{in_ranges}
use Rattle.theorem.proofs.Setup.{in_ranges_lem}
use Rattle.state.specs.declared.Hub.{Hub}
use Rattle.state.specs.State.{table_sound}
use Rattle.decision.specs.Decision.{sizes_ok}
use Rattle.ready_sizes.specs.Sizes.{sizes_fit}
use Rattle.ready.specs.Ready.{scans_fit, ready_of}
use Rattle.ready_sizes.proofs.Sizes.{sizes_tell}

both : (a b : Bool) → a && b ≡ true → (a ≡ true) × (b ≡ true)
both true b e = (refl, e)
both false b e = let z : ◌≡◌ {A = ℕ} 0 1 = cc in absurd (omega arith)

passed : (t : Bool) (y : Bool) → cond t y false ≡ true → t ≡ true
passed true y e = refl
passed false y e = e

pub ready-few : (h : Hub) (newest free queue lens merged : List ℕ) (linked : Bool) (long : ℕ)
    → ready_of h newest free queue lens merged linked long ≡ true → h.site.p ≤ 16
unfolding ready_of scans_fit
ready-few h newest free queue lens merged linked long e =
    let scans = (both (scans_fit h newest free queue lens merged linked long) (table_sound h) e).0 in
    (sizes_tell h long (passed (sizes_fit h long) _ scans)).p.1

pub sizes_few : (p v n k long : ℕ) → sizes_ok p v n k long ≡ true → (p ≤ 16) × (n ≤ 2048) × (v ≤ n)
sizes_few p v n k long e =
    let z : Sizes = record { P = p; V' = v; N = n; clock = k } in
    let I = in_ranges_lem z (both (in_ranges z) (leb n long) e).0 in
    (I.P≤16, I.N≤2048, I.V≤N)
