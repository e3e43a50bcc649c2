-- What the code answers is what the model answers (`Demands`), and of the model it is known behind an accepted setup (`SameWithoutRead`). Memory that
-- records left has one behind it; where there is none, nothing but a setup is accepted, and the same one in both runs.
use mathlib.Core.Path.{◌≡◌, refl, sym, ap, ◌∙◌, subst}
use mathlib.Core.Bool.{true, ◌&&◌}
use mathlib.Core.Logic.{◌⊎◌, inl, inr, ⊎_elim}
use mathlib.Core.List.{List, [], ◌∷◌, ◌++◌, map, map-append}
use Prim.Native.Nat.{ℕ}
use lib.Dec.{leb}
use lib.ListN.{length, take}
use borrow.Author.Tests.{le-leb}
use Rattle.lists.specs.Over.{over}
use Rattle.lists.proofs.Over.{take-over}
use Rattle.model.specs.Store.{Lent, Store, Hub, blank, up}
use Rattle.model.specs.Rights.{table_stands}
use Rattle.model.specs.Rules.{Rules, twelve_digits, in_force, Ruled, under}
use Rattle.model.specs.Answer.{Ok, Applied}
use Rattle.model.specs.Record.{SetUp, Begin, Step, Decoded, Asks, Refuses, decode, list_fits}
use Rattle.model.specs.Apply.{in_ranges, fresh, set_up, obey, apply_decoded, apply, apply_ruled}
use Rattle.model.specs.Demand.{events, Exchange, exchange}
use Rattle.model.proofs.Basic.{cond_both}
use Rattle.theorem.proofs.Setup.{accepts}
use Rattle.two_runs.specs.TwoRuns.{Pairwise, Alike, SameTo, told, table_in, WithoutRead}
use Rattle.two_runs.proofs.TwoRunsWorker.{of_same}
use Rattle.two_runs.proofs.TwoRunsRights.{same_without_read}
use Rattle.state.specs.State.{table_sound, standing}
use Rattle.simulation.specs.Memory.{Memory, hub_rep}
use Rattle.simulation.specs.Left.{LeftByRecords, Left}
use Rattle.simulation.specs.Holds.{Holds, sent}
use Rattle.simulation.specs.Demands.{exchanges}
use Rattle.simulation.proofs.Sound.{sound, reached}
use Rattle.simulation.proofs.Laid.{cond_yes, hub_is}
use Rattle.simulation.proofs.Compose.{events-append}
use Rattle.simulation.proofs.Demands.{demands}
use Rattle.unseen.specs.Unseen.{Differ, Unseen}

------------------------------------------------------------------------
-- Records that differ as the model has it

alike : (r : ℕ) (e e' : Exchange) → Differ r e e' → Alike r (under (in_force e.given) e.bytes) (under (in_force e'.given) e'.bytes)
alike r e e' D =
    record {
      rules = ap in_force D.given;
      bytes =
          ⊎_elim inl
          (λ u. inr (record {
            worker = u.worker;
            first = u.first;
            second = u.second;
            puts = u.puts;
            puts' = u.puts';
            few = u.few;
            few' = u.few';
            known = u.known;
            known' = u.known';
            allowed = le-leb u.first.count twelve_digits u.few ∙ sym (le-leb u.second.count twelve_digits u.few');
          }))
          D.bytes;
    }

alike_all : (r : ℕ) (es es' : List Exchange) → Pairwise (Differ r) es es' → Pairwise (Alike r) (sent es) (sent es')
alike_all r [] [] P = tt
alike_all r [] (e' ∷ es') P = absurd P
alike_all r (e ∷ es) [] P = absurd P
alike_all r (e ∷ es) (e' ∷ es') P = (alike r e e' P.0, alike_all r es es' P.1)

alike_front : (r : ℕ) (old bs bs' : List Ruled) → Pairwise (Alike r) bs bs' → Pairwise (Alike r) (old ++ bs) (old ++ bs')
alike_front r [] bs bs' P = P
alike_front r (b ∷ old) bs bs' P = (record { rules = refl; bytes = inl refl }, alike_front r old bs bs' P)

pair_drop : {A : Type 0} (R : A → A → Type 0) (l a b : List A) → Pairwise R (l ++ a) (l ++ b) → Pairwise R a b
pair_drop R [] a b P = P
pair_drop R (x ∷ l) a b P = pair_drop R l a b P.1

------------------------------------------------------------------------
-- Of the model

-- the table of a hub that a setup left
table_kept_lem : (x : Lent) (b : Ruled) → (apply_ruled (blank x) b).answer ≡ Ok → table_in (apply_ruled (blank x) b).hub ≡ x.table
unfolding fresh
table_kept_lem x b ok = ap table_in (accepts b.rules x b.bytes ok).is

-- a store that records left
module _ (r w : ℕ) (s : Store) (L : LeftByRecords s) where
  abbrev first : Hub
  first = (apply_ruled (blank L.row) L.setup).hub

  told-behind : (bs : List Ruled) → told first (L.records ++ bs) ≡ told first L.records ++ told (up s) bs
  told-behind bs =
      ap (map exchange) (events-append first L.records bs ∙ ap (λ (k : Hub). events first L.records ++ events k bs) L.left)
      ∙ map-append exchange (events first L.records) (events (up s) bs)

  from_left : (bs bs' : List Ruled) → Pairwise (Alike r) bs bs' → WithoutRead s.site.table w r → Pairwise (SameTo w) (told (up s) bs) (told (up s) bs')
  from_left bs bs' P not =
      let own : table_in first ≡ s.site.table = table_kept_lem L.row L.setup L.accepted ∙ sym (reached L).fits.own in
      let all = same_without_read L.row L.setup L.accepted r (L.records ++ bs) (L.records ++ bs') (alike_front r L.records bs bs' P) w
      (subst (λ (t : List ℕ). WithoutRead t w r) (sym own) not) in
      pair_drop (SameTo w) (told first L.records) (told (up s) bs) (told (up s) bs')
      (subst (λ (l : List Exchange). Pairwise (SameTo w) l (told first L.records ++ told (up s) bs')) (told-behind bs)
      (subst (λ (l : List Exchange). Pairwise (SameTo w) (told first (L.records ++ bs)) l) (told-behind bs') all))

-- a hub that is not set up
module _ (r w : ℕ) (x : Lent) where
  abbrev SameOrOk : Applied → Type 0
  SameOrOk a = (a.hub ≡ blank x) ⊎ (a.answer ≡ Ok)

  same_or_ok : (rules : Rules) (d : Decoded) → SameOrOk (apply_decoded rules (blank x) d)
  unfolding apply_decoded obey set_up
  same_or_ok rules (Asks (SetUp z)) =
      cond_both SameOrOk (in_ranges z && leb z.N (length x.row) && list_fits z.V' rules.given.totals) _ _ (λ e. inr refl) (λ e. inl refl)
  same_or_ok rules (Asks (Begin v o)) = inl refl
  same_or_ok rules (Asks (Step v)) = inl refl
  same_or_ok rules (Refuses k) = inl refl

  -- two puts get 8
  same_first : (b b' : Ruled) → Alike r b b' → apply_ruled (blank x) b ≡ apply_ruled (blank x) b'
  unfolding apply apply_decoded obey
  same_first b b' B =
      ⊎_elim (λ e. λ i. apply (B.rules i) (blank x) (e i))
      (λ u. ap (apply_decoded b.rules (blank x)) u.puts ∙ sym (ap (apply_decoded b'.rules (blank x)) u.puts')) B.bytes

  from_blank : (bs bs' : List Ruled) → Pairwise (Alike r) bs bs' → WithoutRead x.table w r → Pairwise (SameTo w) (told (blank x) bs) (told (blank x) bs')
  unfolding events apply
  from_blank [] [] P not = tt
  from_blank [] (b' ∷ bs') P not = absurd P
  from_blank (b ∷ bs) [] P not = absurd P
  from_blank (b ∷ bs) (b' ∷ bs') P not = (
    record { both = of_same r w b b' P.0; equal = λ e. ap (λ (a : Applied). a.answer) same },
    subst (λ (k : Hub). Pairwise (SameTo w) (told (apply_ruled (blank x) b).hub bs) (told k bs')) (ap (λ (a : Applied). a.hub) same)
        (⊎_elim (stays (from_blank bs bs' P.1 not)) accepted (same_or_ok b.rules (decode b.bytes))),
  )
    where
      same : apply_ruled (blank x) b ≡ apply_ruled (blank x) b'
      same = same_first b b' P.0

      stays : Pairwise (SameTo w) (told (blank x) bs) (told (blank x) bs') → (apply_ruled (blank x) b).hub ≡ blank x
          → Pairwise (SameTo w) (told (apply_ruled (blank x) b).hub bs) (told (apply_ruled (blank x) b).hub bs')
      stays q e = subst (λ (k : Hub). Pairwise (SameTo w) (told k bs) (told k bs')) (sym e) q

      accepted : (apply_ruled (blank x) b).answer ≡ Ok
          → Pairwise (SameTo w) (told (apply_ruled (blank x) b).hub bs) (told (apply_ruled (blank x) b).hub bs')
      accepted ok =
          same_without_read x b ok r bs bs' P.1 w (subst (λ (t : List ℕ). WithoutRead t w r) (sym (table_kept_lem x b ok)) not)

------------------------------------------------------------------------
-- Of the code

-- the table that stands in memory that records left is the store's
stands_left : (s : Store) (m : Memory) → Left s m → standing m.hub ≡ s.site.table
unfolding table_stands
stands_left s m L =
    let t : List ℕ = s.site.table in
    let laid : m.hub ≡ hub_rep s m.hub = hub_is s m L.laid in
    let kept : take (length t) (over t m.hub.site.rights) ≡ t = take-over t m.hub.site.rights (length t) refl in
    let good : table_sound (hub_rep s m.hub) ≡ true = rw kept (sound L.store).table in
    ap standing laid ∙ cond_yes (table_sound (hub_rep s m.hub)) _ _ good ∙ kept

by_hub : (r w : ℕ) (h : Hub) (m : Memory) → Holds h m → WithoutRead (standing m.hub) w r
    → (bs bs' : List Ruled) → Pairwise (Alike r) bs bs' → Pairwise (SameTo w) (told h bs) (told h bs')
by_hub r w (blank x) m H not bs bs' P =
    from_blank r w x bs bs' P (subst (λ (t : List ℕ). WithoutRead t w r) (sym (ap (λ (y : Lent). y.table) H.1)) not)
by_hub r w (up s) m L not bs bs' P =
    from_left r w s L.store bs bs' P (subst (λ (t : List ℕ). WithoutRead t w r) (stands_left s m L) not)

pub unseen : Unseen
unseen m (h, H) cs ds C D r P w not =
    let a = (demands.demand2 h m cs H C).answers in
    let b = (demands.demand2 h m ds H D).answers in
    let all = by_hub r w h m H not (sent (exchanges cs)) (sent (exchanges ds)) (alike_all r (exchanges cs) (exchanges ds) P) in
    subst (λ (l : List Exchange). Pairwise (SameTo w) l (exchanges ds)) (sym a)
    (subst (λ (l : List Exchange). Pairwise (SameTo w) (told h (sent (exchanges cs))) l) (sym b) all)
