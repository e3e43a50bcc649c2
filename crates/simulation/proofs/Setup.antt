-- Memory that does not count as set up: a record is refused, or is a setup whose sizes are in range, and then the model's fresh store is
-- written over the memory.
use mathlib.Core.Path.{◌≡◌, refl, sym, ap}
use mathlib.Core.Bool.{true, false, cond, ◌&&◌}
use mathlib.Core.List.{List, []}
use Prim.Native.Nat.{ℕ, ◌-◌, ◌≤◌}
use native.Mathlib.Omega.{arith}
use lib.Dec.{leb}
use lib.ListN.{length, length-map}
use borrow.Author.Tests.{leb-true}
use Rattle.queue.proofs.MemoryLaws.{over_at-none}
use Rattle.model.specs.Store as Model
use Rattle.model.specs.Store.{blank, up}
use Rattle.model.specs.Batch.{batch_of}
use Rattle.model.specs.Rules.{Given, in_force}
use Rattle.model.specs.Answer as Answers
use Rattle.model.specs.Record as Record
use Rattle.model.specs.Record.{Sizes, rows_of, list_fits}
use Rattle.model.specs.Apply.{in_ranges, fresh, set_up, obey, apply_decoded}
use Rattle.model.proofs.Basic.{and_both}
use Rattle.theorem.proofs.Setup.{InRanges, in_ranges_lem}
use Rattle.slots.specs.Slots.{slot_of}
use Rattle.gate.specs.declared.Gate.TheVariants.{Make}
use Rattle.std.specs.Prelude.{Ok as Grants, Err as Refuse}
use Rattle.decision.specs.Decision.{sizes_ok, gate_of}
use Rattle.simulation.specs.Memory.{Memory, lent_in}
use Rattle.simulation.specs.Left.{Sized}
use Rattle.simulation.specs.Shell.{set_up_in, obey_in}
use Rattle.simulation.proofs.Laid.{memory-path}
use Rattle.simulation.proofs.Gates.{gate_by, both}
use Rattle.simulation.proofs.Refuse.{Follows, refused}
use Rattle.simulation.proofs.Fresh.{rows_few, hub_made, slots_made, newest_made, free_made, merged_made}

------------------------------------------------------------------------
-- A record that was read as r

module _ (m : Memory) (Z : Sized m) (given : Given) where
  abbrev lent : Model.Lent
  lent = lent_in m

  abbrev row : List Model.Slot
  row = lent.row

  -- an accepted setup
  made : (z : Sizes) → InRanges z → z.N ≤ length m.slots → list_fits z.V' given.totals ≡ true
      → Follows given (blank lent) m (Grants (Make z.P z.V' z.N z.clock))
      (record { hub = up (fresh (batch_of z.P) z (rows_of given.totals) lent.table row); answer = Answers.Ok })
  unfolding obey_in set_up_in fresh
  made z I long lf =
      record {
        memory =
            memory-path (hub_made z given.totals row m.hub I.P≤16 (rows_few z.V' given.totals lf) Z.rights) (slots_made m.slots z.V' z.N long)
            (newest_made m.newest z.V' (omega (arith, I.V≤256, Z.newest)) (omega (arith, I.V≤256)))
            (free_made m.free z.N (z.N - z.V') z.V' (omega (arith, I.V≤N)) (omega (arith, I.N≤2048, Z.free)) (omega (arith, I.N≤2048)))
            (over_at-none m.queue 0 []) (over_at-none m.lens 0 []) (merged_made z.P m.merged);
        answer = refl;
      }

  set-up : (z : Sizes)
      → Follows given (blank lent) m (cond (sizes_ok z.P z.V' z.N z.clock (length m.slots) && list_fits z.V' given.totals) (Grants (Make z.P z.V' z.N z.clock)) (Refuse 5))
      (set_up (in_force given) (blank lent) z)
  unfolding set_up
  set-up z =
      let long : length m.slots ≡ length row = sym (length-map m.slots slot_of) in
      both (Follows given (blank lent) m) (sizes_ok z.P z.V' z.N z.clock (length m.slots) && list_fits z.V' given.totals)
      (in_ranges z && leb z.N (length row) && list_fits z.V' given.totals) _ _ _ _
      (ap (λ (n : ℕ). in_ranges z && leb z.N n && list_fits z.V' given.totals) long)
      (λ e.
      let t = and_both (in_ranges z && leb z.N (length row)) _ e in
      let a = and_both (in_ranges z) (leb z.N (length row)) t.0 in
      made z (in_ranges_lem z a.0) (omega (arith, leb-true z.N (length row) a.1)) t.1)
      (λ e. refused (blank lent) m 5 refl)

  -- the code does what the model's hub does that is not set up and whose row is lent
  pub follows_blank : (r : Record.Decoded) (u : ℕ)
      → Follows given (blank lent) m (gate_by r u false (length m.slots) given m.hub) (apply_decoded (in_force given) (blank lent) r)
  unfolding gate_of apply_decoded obey
  follows_blank (Record.Refuses k) u = refused (blank lent) m k refl
  follows_blank (Record.Asks (Record.SetUp z)) u = set-up z
  follows_blank (Record.Asks (Record.Begin w o)) u = refused (blank lent) m 8 refl
  follows_blank (Record.Asks (Record.Step w)) u = refused (blank lent) m 8 refl
