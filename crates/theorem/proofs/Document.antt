-- The theorems under document 01's rules and under those in force. That their batch size is from 1 to 64 is in `Batch`;
-- that they differ in refusal 16 alone is seen where the tests of a begin are: the rules in force have one test more.
use mathlib.Core.Bool.{Bool, true, false, cond}
use mathlib.Core.Path.{◌≡◌, refl}
use mathlib.Core.Logic.{◌⊎◌, inl, inr}
use Prim.Native.Nat.{ℕ}
use lib.Dec.{ltb}
use Rattle.model.specs.Store.{mark_count, Hub, blank, up, place}
use Rattle.model.specs.Marks.{mark_of}
use Rattle.model.specs.Batch.{batch_of}
use Rattle.model.specs.Rules.{Given, Rules, document01, in_force, Allowed, under, all_under}
use Rattle.model.specs.Answer.{Ok, Applied}
use Rattle.model.specs.Record.{SetUp, Begin, Step, Decoded, Asks, Refuses, decode}
use Rattle.model.specs.Apply.{refuse, set_up, terms, named_below, group_there, value_within, refusal, refused_by, begin, obey, apply_decoded, apply}
use Rattle.model.specs.Document.{Theorems, Document}
use Rattle.model.proofs.Batch.{as_documented, allowed}
use Rattle.theorem.proofs.Main.{demand}
use Rattle.theorem.proofs.MonthEnd.{month_end_lem}
use Rattle.theorem.proofs.Refusals.{demand-1}
use Rattle.theorem.proofs.Reached.{sound, as_published}

theorems : (rules : Rules) → rules.batch ≡ batch_of → Theorems rules
theorems rules e =
    let a : Allowed rules = allowed rules e in
    record {
      demand-1 = demand-1 rules;
      demand-3 = λ row b ok bs. demand row (under rules b) ok (all_under rules bs);
      batches = a;
      sound = λ row b ok bs. sound row (under rules b) a ok (all_under rules bs);
      as_published = λ row b ok bs. as_published row (under rules b) a ok (all_under rules bs);
    }

-- two lists of tests that differ in one, and what is made of the number
one_test : (f : ℕ → Applied) (a b b' c d : Bool) (x₀ : Applied) (x₁ x₂ x₃ y : ℕ)
    → (cond a (f (cond b (cond b' (cond c (cond d y x₃) x₂) x₁) x₁)) x₀ ≡ f x₃)
    ⊎ (cond a (f (cond b (cond b' (cond c (cond d y x₃) x₂) x₁) x₁)) x₀ ≡ cond a (f (cond b (cond b' (cond c y x₂) x₁) x₁)) x₀)
one_test f true true true true true x₀ x₁ x₂ x₃ y = inr refl
one_test f true true true true false x₀ x₁ x₂ x₃ y = inl refl
one_test f true true true false d x₀ x₁ x₂ x₃ y = inr refl
one_test f true true false c d x₀ x₁ x₂ x₃ y = inr refl
one_test f true false b' c d x₀ x₁ x₂ x₃ y = inr refl
one_test f false b b' c d x₀ x₁ x₂ x₃ y = inr refl

only-16 : (g : Given) (h : Hub) (d : Decoded)
    → (apply_decoded (in_force g) h d ≡ refuse h 16) ⊎ (apply_decoded (in_force g) h d ≡ apply_decoded (document01 g) h d)
unfolding apply_decoded obey set_up begin refusal refused_by
only-16 g (blank row) (Asks (SetUp z)) = inr refl
only-16 g (up s) (Asks (SetUp z)) = inr refl
only-16 g (blank row) (Asks (Begin w o)) = inr refl
only-16 g (up s) (Asks (Begin w o)) =
    let x = terms s.site.rows o in
    let begun : Applied = record { hub = up (place s w x.first); answer = Ok } in
    one_test (λ k. refused_by k (up s) begun) (ltb w s.site.P) (named_below s.site.V' x.register)
    (named_below mark_count (mark_of x.mark)) (group_there s.site.rows x.group) (value_within (in_force g).limit x.value) _ _ _ _ _
only-16 g (blank row) (Asks (Step w)) = inr refl
only-16 g (up s) (Asks (Step w)) = inr refl
only-16 g h (Refuses k) = inr refl

pub document : Document
unfolding apply
document =
    record {
      in-force = λ g. theorems (in_force g) refl;
      earlier = λ g. theorems (document01 g) refl;
      changing = demand;
      month_end_lem = month_end_lem;
      batch_sizes = as_documented;
      refusal-16 = λ g h b. only-16 g h (decode b);
    }
