-- A worker without the right to read register r begins nothing that looks at r: 23 refuses it. So it gets the same answers in two runs that differ
-- in values put to r (proofs/TwoRunsWorker.antt). The table stays, since no record changes what a setup fixed.
use mathlib.Core.Path.{◌≡◌, refl, sym, ap, ◌∙◌, subst}
use mathlib.Core.Bool.{Bool, true, false, true≢false, ◌||◌}
use mathlib.Core.List.{List, [], ◌∷◌, ◌++◌, map}
use Prim.Native.Nat.{ℕ, ◌+◌}
use native.Mathlib.Omega.{arith}
use lib.Dec.{eqb}
use borrow.Author.Tests as Tests
use Rattle.model.specs.Store.{Content, Site, Store, Hub, blank, up}
use Rattle.model.specs.Totals.{register_of, of_group}
use Rattle.model.specs.Rights.{ToRead, each_of, may_on, may_on_each, allowed}
use Rattle.model.specs.Rules.{Rules, Ruled}
use Rattle.model.specs.Answer.{Answer, Ok, Applied}
use Rattle.model.specs.Record.{Operation, Put, Open, Read, Close, Get, Collect, Total, Mark, Release, MarkedRead, SetUp, Begin, Step}
use Rattle.model.specs.Record.{Decoded, Asks, Refuses, decode}
use Rattle.model.specs.Apply.{made_by, terms, begin, obey, apply_decoded, apply, apply_ruled}
use Rattle.model.specs.Demand.{events, Call, observe, effects, Plain, start_of, plain₀, All, rows_in}
use Rattle.model.proofs.Basic.{and_both}
use Rattle.model.proofs.Begin.{begin-by}
use Rattle.theorem.proofs.Invariant.{Inv}
use Rattle.theorem.proofs.Record.{Holds, apply-holds}
use Rattle.theorem.proofs.Setup.{Accepted, accepts, accepted_inv}
use Rattle.two_runs.specs.TwoRuns.{names, looks_in, KeepsOff, table_in, WithoutRead, SameWithoutRead}
use Rattle.two_runs.proofs.TwoRunsWorker.{same_for_worker}

-- an operation that began had the right that it needs
began : (rules : Rules) (s : Store) (w : ℕ) (c : Operation) → (begin rules s w c).answer ≡ Ok
    → allowed s.site.table s.site.V' w (terms s.site.rows c).right ≡ true
began rules s w c =
    begin-by (λ (a : Applied). a.answer ≡ Ok → allowed s.site.table s.site.V' w (terms s.site.rows c).right ≡ true) rules s w c
    (λ k n e. absurd (let z : ◌≡◌ {A = ℕ} 0 1 = cc in omega arith)) (λ P e. P.tests.right)

-- who may read some registers and not r reads others
module _ (t : List ℕ) (w r : ℕ) (not-r : may_on t w ToRead r ≡ false) where
  other : (q : ℕ) → may_on t w ToRead q ≡ true → eqb q r ≡ false
  other q may = go (eqb q r) refl
    where
      go : (b : Bool) → eqb q r ≡ b → b ≡ false
      go true e = absurd (true≢false (sym may ∙ ap (may_on t w ToRead) (Tests.eqb-true q r e) ∙ not-r))
      go false e = refl

  others : (l : List ℕ) → may_on_each t w ToRead (map register_of l) ≡ true → names r l ≡ false
  unfolding each_of names
  others [] may = refl
  others (x ∷ l) may =
      let u = and_both (may_on t w ToRead (register_of x)) (may_on_each t w ToRead (map register_of l)) may in
      ap (λ (b : Bool). b || names r l) (other (register_of x) u.0) ∙ others l u.1

  single : (q : ℕ) → may_on_each t w ToRead (q ∷ []) ≡ true → eqb q r ≡ false
  unfolding each_of
  single q may = other q (and_both (may_on t w ToRead q) true may).0

-- so what began does not look at r
off : (t : List ℕ) (v w r : ℕ) (rows : List ℕ) (c : Operation) → WithoutRead t w r → allowed t v w (terms rows c).right ≡ true → looks_in r rows c ≡ false
off [] v w r rows c not-r may = absurd not-r
off (x ∷ t) v w r rows (Put q y) not-r may = refl
off (x ∷ t) v w r rows Open not-r may = refl
off (x ∷ t) v w r rows (Read q) not-r may = single (x ∷ t) w r not-r q may
off (x ∷ t) v w r rows Close not-r may = refl
off (x ∷ t) v w r rows (Get q) not-r may = single (x ∷ t) w r not-r q may
off (x ∷ t) v w r rows Collect not-r may = refl
off (x ∷ t) v w r rows (Total g) not-r may = others (x ∷ t) w r not-r (of_group g rows) may
off (x ∷ t) v w r rows (Mark m) not-r may = refl
off (x ∷ t) v w r rows (Release m) not-r may = refl
off (x ∷ t) v w r rows (MarkedRead q m) not-r may = single (x ∷ t) w r not-r q may

-- one record
keeps : (rules : Rules) (s : Store) (w r : ℕ) (d : Decoded) → WithoutRead s.site.table w r
    → KeepsOff r s.site.rows w d (apply_decoded rules (up s) d).answer
unfolding apply_decoded obey
keeps rules s w r (Asks (SetUp z)) not-r = tt
keeps rules s w r (Asks (Begin v c)) not-r =
    λ e ok.
    off s.site.table s.site.V' w r s.site.rows c not-r
    (subst (λ (i : ℕ). allowed s.site.table s.site.V' i (terms s.site.rows c).right ≡ true) e (began rules s v c ok))
keeps rules s w r (Asks (Step v)) not-r = tt
keeps rules s w r (Refuses k) not-r = tt

-- all records
all_keep : {start : ℕ → Content} (r w : ℕ) (bs : List Ruled) (now : ℕ) (s : Store) (olds : List (List ℕ)) (h : List Call) (o : List ℕ) (p : Plain) → Inv start now s olds h o p
    → WithoutRead s.site.table w r → All (λ e. KeepsOff r s.site.rows w (decode e.bytes) e.answer) (events (up s) bs)
unfolding events apply
all_keep r w [] now s olds h o p I not-r = tt
all_keep {start} r w (b ∷ bs) now s olds h o p I not-r = (
  keeps b.rules s w r (decode b.bytes) not-r,
  subst (λ (q : Hub). All (λ e. KeepsOff r s.site.rows w (decode e.bytes) e.answer) (events q bs)) (sym A.is)
      (subst (λ (q : Site). All (λ e. KeepsOff r q.rows w (decode e.bytes) e.answer) (events (up A.store) bs)) A.site
      (all_keep r w bs (now + 1) A.store A.kept.olds (observe now d a h) (o ++ effects h d (up s) a (up A.store)) A.kept.p A.kept.inv
      (subst (λ (q : Site). WithoutRead q.table w r) (sym A.site) not-r))),
)
  where
    d : Decoded
    d = decode b.bytes

    a : Answer
    a = (apply_ruled (up s) b).answer

    A : Holds start now s d h o (apply_ruled (up s) b)
    A = apply-holds now s olds h o p I b.rules b.bytes

pub same_without_read : SameWithoutRead
same_without_read row b e r bs bs' B w not-r = same_for_worker row b e r bs bs' B w kept
  where
    A : Accepted b.rules row (apply_ruled (blank row) b).hub
    A = accepts b.rules row b.bytes e

    kept : All (λ v. KeepsOff r (rows_in (apply_ruled (blank row) b).hub) w (decode v.bytes) v.answer) (events (apply_ruled (blank row) b).hub bs)
    kept =
        subst (λ (q : Hub). WithoutRead (table_in q) w r → All (λ v. KeepsOff r (rows_in q) w (decode v.bytes) v.answer) (events q bs)) (sym A.is)
        (all_keep r w bs 0 (made_by b.rules A.sizes row) _ [] [] (plain₀ (start_of b.rules.given))
        (accepted_inv b.rules A))
        not-r
