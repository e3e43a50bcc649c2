-- Records that do what the model does, list after list: what holds of one list and of the next holds of both together, and the hub and the
-- records decide all of it. From this comes demand 3 of every part of a list that starts behind an accepted setup.
use mathlib.Core.Path.{◌≡◌, refl, sym, ap, ◌∙◌, subst}
use mathlib.Core.Logic.{inl, inr}
use mathlib.Core.Bool.{true}
use mathlib.Core.List.{List, [], ◌∷◌, ◌++◌, map, map-append}
use Prim.Native.Nat.{ℕ}
use native.Mathlib.Omega.{arith}
use lib.ListN.{get_or, drop}
use Rattle.model.specs.Store.{Lent, Store, Hub, blank, up}
use Rattle.model.specs.Rights.{table_stands}
use Rattle.model.specs.Rules.{Given, in_force, Ruled, under}
use Rattle.model.specs.Answer.{Answer, Ok}
use Rattle.model.specs.Record.{Sizes, SetUp, Decoded, Asks, decode}
use Rattle.model.specs.Apply.{set_up, obey, apply_decoded, apply, apply_ruled, hub_after}
use Rattle.model.specs.Demand.{start_of, Event, events, Exchange, exchange}
use Rattle.theorem.proofs.Main.{demand}
use Rattle.simulation.specs.Memory.{Memory, write_hub}
use Rattle.simulation.specs.Left.{LeftByRecords}
use Rattle.simulation.specs.Holds.{Holds, sent, memory_after, AsModel}
use Rattle.simulation.specs.Demands.{CodeDemand3}
use Rattle.simulation.proofs.Again.{BlankOrLeft, hub_next}

------------------------------------------------------------------------
-- Two lists of records

pub events-append : (h : Hub) (l n : List Ruled) → events h (l ++ n) ≡ events h l ++ events (hub_after h l) n
unfolding events hub_after
events-append h [] n = refl
events-append h (b ∷ l) n =
    let a = apply_ruled h b in
    ap (λ (es : List Event). record { given = b.rules.given; bytes = b.bytes; before = h; answer = a.answer; after = a.hub } ∷ es) (events-append a.hub l n)

pub hub_append : (h : Hub) (l n : List Ruled) → hub_after h (l ++ n) ≡ hub_after (hub_after h l) n
unfolding hub_after
hub_append h [] n = refl
hub_append h (b ∷ l) n = hub_append (apply_ruled h b).hub l n

memory-append : (h : Hub) (l n : List Ruled) (m : Memory) → memory_after h (l ++ n) m ≡ memory_after (hub_after h l) n (memory_after h l m)
unfolding hub_after memory_after
memory-append h [] n m = refl
memory-append h (b ∷ l) n m = memory-append (apply_ruled h b).hub l n (write_hub h (apply_ruled h b).hub m)

sent-append : (es fs : List Exchange) → sent (es ++ fs) ≡ sent es ++ sent fs
sent-append es fs = map-append (λ (e : Exchange). under (in_force e.given) e.bytes) es fs

------------------------------------------------------------------------
-- As the model has it

pub nothing_sent : (h : Hub) (m : Memory) → Holds h m → AsModel h m [] m
unfolding events hub_after memory_after
nothing_sent h m H = record { answers = refl; holds = H; memory = refl }

pub both_sent : (h : Hub) (m m₁ m₂ : Memory) (es fs : List Exchange) → AsModel h m es m₁ → AsModel (hub_after h (sent es)) m₁ fs m₂
    → AsModel h m (es ++ fs) m₂
both_sent h m m₁ m₂ es fs A B =
    let k : Hub = hub_after h (sent es) in
    let together = sent-append es fs in
    record {
      answers =
          (λ i. A.answers i ++ B.answers i)
          ∙ sym (map-append exchange (events h (sent es)) (events k (sent fs)))
          ∙ ap (map exchange) (sym (ap (events h) together ∙ events-append h (sent es) (sent fs)));
      holds = subst (λ (x : Hub). Holds x m₂) (sym (ap (hub_after h) together ∙ hub_append h (sent es) (sent fs))) B.holds;
      memory =
          B.memory
          ∙ ap (memory_after k (sent fs)) A.memory
          ∙ sym (ap (λ (l : List Ruled). memory_after h l m) together ∙ memory-append h (sent es) (sent fs) m);
    }

-- the hub, the memory and the records decide what is answered and left
pub same_sent : (h : Hub) (m m₁ m₂ : Memory) (es fs : List Exchange) → AsModel h m es m₁ → AsModel h m fs m₂ → sent es ≡ sent fs
    → (es ≡ fs) × (m₁ ≡ m₂)
same_sent h m m₁ m₂ es fs A B same = (
  A.answers ∙ ap (λ (l : List Ruled). map exchange (events h l)) same ∙ sym B.answers,
  A.memory ∙ ap (λ (l : List Ruled). memory_after h l m) same ∙ sym B.memory,
)

------------------------------------------------------------------------
-- Behind an accepted setup

-- the answers are the model's
abbrev Answered : Hub → List Exchange → Type 0
Answered h es = es ≡ map exchange (events h (sent es))

-- at an exchange in the middle
middle : (h : Hub) (es : List Exchange) (x : Exchange) (fs : List Exchange) → Answered h (es ++ (x ∷ fs))
    → (x.answer ≡ (apply (in_force x.given) (hub_after h (sent es)) x.bytes).answer)
    × Answered (apply (in_force x.given) (hub_after h (sent es)) x.bytes).hub fs
unfolding events hub_after
middle h [] x fs e = (ap (λ (l : List Exchange). (get_or l 0 x).answer) e, ap (drop 1) e)
middle h (y ∷ es) x fs e = middle (apply (in_force y.given) h y.bytes).hub es x fs (ap (drop 1) e)

hubs : (row : Lent) (h : Hub) (es : List Exchange) → table_stands row.table ≡ true → BlankOrLeft row h → BlankOrLeft row (hub_after h (sent es))
unfolding hub_after
hubs row h [] fits B = B
hubs row h (e ∷ es) fits B = hubs row (apply (in_force e.given) h e.bytes).hub es fits (hub_next e.given row h e.bytes fits B)

-- a hub that accepts a setup is not set up
accepting : (given : Given) (row : Lent) (h : Hub) (b : List ℕ) (z : Sizes) → decode b ≡ Asks (SetUp z) → (apply (in_force given) h b).answer ≡ Ok → BlankOrLeft row h
    → h ≡ blank row
unfolding apply apply_decoded obey set_up
accepting given row h b z d ok (inl e) = e
accepting given row h b z d ok (inr (s, e, L)) =
    let nine : (apply (in_force given) h b).answer ≡ Answer.No 9 =
    ap (λ (k : Hub). (apply (in_force given) k b).answer) e ∙ ap (λ (r : Decoded). (apply_decoded (in_force given) (up s) r).answer) d in
    let never : ◌≡◌ {A = ℕ} 0 1 = cc in
    absurd (omega arith)

pub behind_setup : (row : Lent) (h : Hub) (es fs : List Exchange) (given : Given) (b : List ℕ) (z : Sizes) → table_stands row.table ≡ true → BlankOrLeft row h
    → Answered h (es ++ (record { given = given; bytes = b; answer = Ok } ∷ fs)) → decode b ≡ Asks (SetUp z)
    → CodeDemand3 (apply (in_force given) (blank row) b).hub (start_of given) [] fs
unfolding events
behind_setup row h es fs given b z fits B e d =
    let M = middle h es (record { given = given; bytes = b; answer = Ok }) fs e in
    let k : Hub = hub_after h (sent es) in
    let is : k ≡ blank row = accepting given row k b z d (sym M.0) (hubs row h es fits B) in
    let ok : (apply (in_force given) (blank row) b).answer ≡ Ok = ap (λ (q : Hub). (apply (in_force given) q b).answer) (sym is) ∙ sym M.0 in
    record {
      answers = sym (subst (λ (q : Hub). Answered (apply (in_force given) q b).hub fs) is M.1);
      demand = demand row (under (in_force given) b) ok (sent fs);
    }

-- behind the setup and the records that left a store
pub behind_records : (s : Store) (L : LeftByRecords s) (es : List Exchange) → Answered (up s) es
    → CodeDemand3 (apply_ruled (blank L.row) L.setup).hub (start_of L.setup.rules.given) L.records es
behind_records s L es e =
    let h : Hub = (apply_ruled (blank L.row) L.setup).hub in
    record {
      answers =
          ap (map exchange) (events-append h L.records (sent es) ∙ ap (λ (k : Hub). events h L.records ++ events k (sent es)) L.left)
          ∙ map-append exchange (events h L.records) (events (up s) (sent es))
          ∙ ap (λ (l : List Exchange). map exchange (events h L.records) ++ l) (sym e);
      demand = demand L.row L.setup L.accepted (L.records ++ sent es);
    }
