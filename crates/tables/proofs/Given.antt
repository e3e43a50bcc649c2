-- A table that is given: what is left and answered where the memory counts as set up, and where it does not, by what is taken of the table then.
use mathlib.Core.Path.{◌≡◌, refl, sym, ap, subst, ◌∙◌}
use mathlib.Core.Bool.{Bool, true, false, cond}
use mathlib.Core.List.{List}
use Prim.Native.Nat.{ℕ}
use lib.ListN.{length, length-map}
use Rattle.model.specs.Rights.{table_fits}
use Rattle.values.specs.declared.Answer.{Answer}
use Rattle.values.specs.declared.Answer.TheVariants.{Ok, No}
use Rattle.state.specs.declared.Hub.{Hub}
use Rattle.state.specs.declared.Lent.{Lent}
use Rattle.slots.specs.Slots.{linked_to}
use Rattle.versions.specs.Versions.{slot_in, row_of}
use Rattle.ready.specs.Ready.{ready_of}
use Rattle.called.specs.declared.Called.{Called}
use Rattle.simulation.specs.Memory.{Memory, with_hub, Result, answered}
use Rattle.simulation.specs.Lent.{lent_memory}
use Rattle.simulation.specs.Left.{ready}
use Rattle.simulation.specs.Tables.{with_table, table_given, Gives}
use Rattle.simulation.proofs.Laid.{cond_yes, cond_no}
use Rattle.tables.specs.declared.Table.{Table}
use Rattle.tables.specs.declared.Table.TheVariants.{Rights}
use Rattle.tables.specs.Tables.{GivesTable}
use Rattle.tables.specs.Taken.{RightsTaken}

-- what the test says of the memory
pub tested : (h : Hub) (row : List (List ℕ)) (l : Lent) (up linked : Bool)
    → linked ≡ linked_to (row_of row) h.site.n h.site.n → up ≡ ready_of h l.newest l.free l.queue l.lens l.merged linked (length row)
    → up ≡ ready (lent_memory h (row_of row) l)
unfolding ready
tested h row l up linked is e =
    e ∙ (λ i. ready_of h l.newest l.free l.queue l.lens l.merged (is i) (sym (length-map row slot_in) i))

module _ (m : Memory) (bytes : List ℕ) where
  -- what is left and answered where the memory does not count as set up, by whether the table is one
  abbrev unless-up : Bool → Result
  unless-up fits = cond fits (answered (with_hub m (with_table m.hub bytes)) Ok) (answered m (No 24))

  gives : (q : Result) → q ≡ table_given m bytes → Gives m bytes q.answer q.memory
  gives q e = record { memory = ap (λ (z : Result). z.memory) e; answer = ap (λ (z : Result). z.answer) e }

  -- by its parts
  left_by_lem : (fits : Bool) → with_hub m (cond fits (with_table m.hub bytes) m.hub) ≡ (unless-up fits).memory
  left_by_lem true = refl
  left_by_lem false = refl

  answered-by : (fits : Bool) → cond fits Ok (No 24) ≡ (unless-up fits).answer
  answered-by true = refl
  answered-by false = refl

  -- k is the number of that refusal
  pub late : (up : Bool) (k : ℕ) → up ≡ ready m → up ≡ true → k ≡ 9 → Gives m bytes (No k) m
  unfolding table_given
  late up k e t is =
      subst (λ (i : ℕ). Gives m bytes (No i) m) (sym is)
      (gives (answered m (No 9)) (sym (cond_yes (ready m) (answered m (No 9)) (unless-up (table_fits bytes)) (sym e ∙ t))))

  pub taken : (up : Bool) (r : Called) → up ≡ ready m → up ≡ false → RightsTaken m.hub bytes r → Gives m bytes r.answer (with_hub m r.hub)
  unfolding table_given
  taken up r e t T =
      let g = gives (unless-up (table_fits bytes)) (sym (cond_no (ready m) (answered m (No 9)) (unless-up (table_fits bytes)) (sym e ∙ t))) in
      record {
        memory = ap (with_hub m) T.hub ∙ left_by_lem (table_fits bytes) ∙ g.memory;
        answer = T.answer ∙ answered-by (table_fits bytes) ∙ g.answer;
      }

-- there is one table
pub of_table : (t : Table) (m : Memory) (bytes : List ℕ) (y : Answer) (m' : Memory) → Gives m bytes y m' → GivesTable t m bytes y m'
of_table Rights m bytes y m' g = g
