-- What a worker's part of the invariant asks of a step that changes the store around it.
use mathlib.Core.Path.{◌≡◌, refl, sym, ap, ◌∙◌, subst}
use mathlib.Core.Bool.{Bool, true, false}
use mathlib.Core.Logic.{◌⊎◌, inl, inr, ⊎_elim}
use mathlib.Core.List.{List, [], ◌∷◌}
use Prim.Native.Nat.{ℕ, ◌+◌, ◌≤◌, ◌<◌}
use native.Mathlib.Omega.{arith}
use lib.ListN.{length}
use Rattle.model.specs.Store.{absent, mark_count, Content, Slot, Range, TimeStep, OpenAnnounce, OpenPass, CloseWithdraw, MarkKeep}
use Rattle.model.specs.Store.{MarkRelease, Purpose, Single, Marked, Totaling, Goal, Doing, Idle, PutPublish, PutStamp, PutHandIn}
use Rattle.model.specs.Store.{FlushTake, FlushRead, FlushFree, OnTime, ReadEnter, ReadStand, GetShow}
use Rattle.model.specs.About.{about}
use Rattle.model.specs.Record.{Operation}
use Rattle.model.specs.Demand.{Call, Plain, occurrences, All, call_at}
use Rattle.model.proofs.Basic.{hit_same}
use Rattle.theorem.proofs.Slots.{nth}
use Rattle.theorem.proofs.Chain.{On, Fine, Past, Next}
use Rattle.theorem.proofs.Count.{cnt}
use Rattle.theorem.proofs.Invariant.{Ctx, top, old, chain, in_doing, Good, Settled, Asked, AskedOf, Spared, time_in, copy_for, Sourced}
use Rattle.theorem.proofs.Invariant.{Summed, TimeHolds, PlaceHolds, Running, NoneRunning, FitsTime, FitsFlush, Fits, CurrentOf}
use Rattle.theorem.proofs.Invariant.{Current}

-- what holds of the ranges of a list may be shown of each with its slot counted
pub All-cnt : {P Q : Range → Type 0} (m : List Range) → ((ρ : Range) → 0 < cnt ρ.slot m → P ρ → Q ρ) → All P m → All Q m
unfolding cnt
All-cnt [] f t = tt
All-cnt (ρ ∷ m) f t = (f ρ (omega (arith, hit_same ρ.slot)) t.0, All-cnt m (λ σ z. f σ (omega (arith, z))) t.1)

-- what holder v has now: what it, or a holder before it, had; or no time; or one that is new
abbrev pub Came : Ctx → Ctx → ℕ → Type 0
Came x x' v = ((u : ℕ) × (u ≤ v) × (x'.held v ≡ x.held u)) ⊎ ((x'.held v ≡ absent) ⊎ (x.clock ≤ x'.held v))

pub stays : (x x' : Ctx) (v : ℕ) → x'.held v ≡ x.held v → Came x x' v
stays x x' v e = inl (v, omega arith, e)

pub record Moves (x x' : Ctx) (t : ℕ) (d : Doing) : Type 0 where
  pub tick : x.clock ≤ x'.clock
  pub reg : (r : ℕ) → r < x.registers → r < x'.registers
  pub nhd : x'.holders ≡ x.holders
  pub same_rows : x'.rows ≡ x.rows
  pub good : (ρ : Range) → 0 < in_doing ρ.slot d → Good x ρ → Good x' ρ
  pub times' : (v : ℕ) → v < x.holders → Came x x' v
  pub mem : (r c : ℕ) → r < x.registers → 0 < in_doing c d → 0 < occurrences c (old x r) → 0 < occurrences c (old x' r)
  pub highs : (c : ℕ) → 0 < in_doing c d → (nth x.slots c).high ≤ x.clock → (nth x'.slots c).high ≤ x'.clock
  pub source : (g : Goal) (c : ℕ) → d ≡ ReadStand g c → time_in x' t g.purpose ≡ time_in x t g.purpose
  pub on : (g : Goal) (c : ℕ) (y : Content) (a : ℕ) → g.register < x.registers → a < x.clock → d ≡ ReadStand g c
      → On x.slots a c y (chain x g.register) → On x'.slots a c y (chain x' g.register)

-- with no other copy under a mark, a read shows the same copy
pub same_copy : (p p' : Plain) (v : ℕ) → p'.copy v ≡ p.copy v → ((m : ℕ) → p'.kept m ≡ p.kept m) → (y : Purpose) → copy_for p' v y ≡ copy_for p v y
same_copy p p' v e k Single = e
same_copy p p' v e k (Marked m) = k m
same_copy p p' v e k (Totaling g i y) = e

module _ (x x' : Ctx) where
  pub asked : (ts : List ℕ) (ρ : Range) → length ts ≤ x.holders → ((v : ℕ) → v < x.holders → Came x x' v)
      → ρ.high ≤ x.clock → Asked x ts ρ → Asked x' ts ρ
  asked ts ρ b f g a v z =
      ⊎_elim
      (λ e. ⊎_elim (λ u. inl (e.2 ∙ u)) (⊎_elim (λ u. inr (inl (subst (λ (q : ℕ). 0 < occurrences q ts) (sym e.2) u)))
      (λ u. inr (inr (omega (arith, e.2, u))))) (a e.0 (omega (arith, e.1, z))))
      (⊎_elim inl (λ u. inr (inr (omega (arith, u)))))
      (f v (omega arith))

  pub asked_of : (ts : List ℕ) → AskedOf x ts → length ts ≤ x.holders
  asked_of ts = ⊎_elim (λ u. omega (arith, u)) (λ u. omega (arith, u))

  pub spared : (ρ : Range) → x'.holders ≡ x.holders → ((v : ℕ) → v < x.holders → Came x x' v)
      → ρ.high ≤ x.clock → Spared x ρ → Spared x' ρ
  spared ρ n f g a v z i j k =
      ⊎_elim
      (λ e. a e.0 (omega (arith, n, e.1)) (omega (arith, e.2)) (omega (arith, e.2)) (omega (arith, e.2)))
      (⊎_elim (λ u. omega (arith, u)) (λ u. omega (arith, u)))
      (f v (omega (arith, n)))

  settled : x.clock ≤ x'.clock → (t : ℕ) → Settled x t → Settled x' t
  settled u t = ⊎_elim inl (λ z. inr (omega arith))

  time_map : x.clock ≤ x'.clock → (t : ℕ) (y : TimeStep) → TimeHolds x t y → TimeHolds x' t y
  time_map k t OpenAnnounce a = a
  time_map k t OpenPass a = (omega (arith, k, a.0), a.1)
  time_map k t CloseWithdraw a = omega (arith, k)
  time_map k t (MarkKeep m) a = (a.0, omega (arith, k, a.1))
  time_map k t (MarkRelease m) a = (a.0, settled k t a.1)

  sourced_map : x.clock ≤ x'.clock → (t : ℕ) (y : Purpose) → Sourced x.clock t y → Sourced x'.clock t y
  sourced_map k t Single a = omega (arith, k)
  sourced_map k t (Marked m) a = (a.0, settled k t a.1)
  sourced_map k t (Totaling g i y) a = omega (arith, k)

  pub sourced_settled : (t : ℕ) (y : Purpose) → Sourced x.clock t y → Settled x t
  sourced_settled t Single a = inr a
  sourced_settled t (Marked m) a = a.1
  sourced_settled t (Totaling g i y) a = inr a

  summed_map : (p p' : Plain) (w : ℕ) → p'.copy w ≡ p.copy w → x'.rows ≡ x.rows → (r : ℕ) (y : Purpose) → Summed x.rows p w r y
      → Summed x'.rows p' w r y
  summed_map p p' w e q r Single a = a
  summed_map p p' w e q r (Marked m) a = a
  summed_map p p' w e q r (Totaling g i y) a =
      rw q (a.0, a.1, a.2, a.3, (a.4.0, e ∙ a.4.1, a.4.2))

  -- the copy that a read at place d shows is the same
  abbrev pub SameCopy : Plain → Plain → ℕ → Doing → Type 0
  SameCopy p p' w d = (g : Goal) (c : ℕ) → d ≡ ReadStand g c → copy_for p' w g.purpose ≡ copy_for p w g.purpose

  pub doing_map : (p p' : Plain) (w t : ℕ) → p'.copy w ≡ p.copy w → (d : Doing) → SameCopy p p' w d → Moves x x' t d → PlaceHolds x p w t d
      → PlaceHolds x' p' w t d
  unfolding cnt
  doing_map p p' w t e Idle k m a = settled m.tick t a
  doing_map p p' w t e (PutPublish r y) k m a = (m.reg r a.0, settled m.tick t a.1)
  doing_map p p' w t e (PutStamp r c) k m a = (m.reg r a.0, settled m.tick t a.1, m.mem r c a.0 (omega (arith, hit_same c)) a.2)
  doing_map p p' w t e (PutHandIn r c) k m a = (
    m.reg r a.0,
    settled m.tick t a.1,
    m.mem r c a.0 (omega (arith, hit_same c)) a.2,
    m.highs c (omega (arith, hit_same c))
        a.3,
  )
  doing_map p p' w t e FlushTake k m a = settled m.tick t a
  doing_map p p' w t e (FlushRead l ts) k m a = (
    settled m.tick t a.0,
    All-cnt l (λ ρ z. m.good ρ z) a.1,
    subst (λ (n : ℕ). (length ts + mark_count ≤ n) ⊎ (length ts ≡ n)) (sym m.nhd) a.2,
    both l a.1 a.3,
  )
    where
      both : (q : List Range) → All (Good x) q → All (Asked x ts) q → All (Asked x' ts) q
      both [] g k = tt
      both (ρ ∷ q) g k = (asked ts ρ (asked_of ts a.2) m.times' g.0.2 k.0, both q g.1 k.1)
  doing_map p p' w t e (FlushFree l) k m a = (settled m.tick t a.0, All-cnt l (λ ρ z. m.good ρ z) a.1, both l a.1 a.2)
    where
      both : (q : List Range) → All (Good x) q → All (Spared x) q → All (Spared x') q
      both [] g k = tt
      both (ρ ∷ q) g k = (spared ρ m.nhd m.times' g.0.2 k.0, both q g.1 k.1)
  doing_map p p' w t e (OnTime y) k m a = time_map m.tick t y a
  doing_map p p' w t e (ReadEnter g) k m a =
      (m.reg g.register a.0, sourced_map m.tick t g.purpose a.1, summed_map p p' w e m.same_rows g.register g.purpose a.2)
  doing_map p p' w t e (ReadStand g c) k m a =
      let f = a.2 in
      let q = m.source g c refl in (
        m.reg g.register a.0,
        sourced_map m.tick t g.purpose a.1,
        (
          omega (arith, m.tick, f.0, q),
          f.1,
          k g c refl ∙ f.2,
          subst (λ (i : ℕ). On x'.slots i c (f.1 g.register) (chain x' g.register)) (sym q)
              (m.on g c (f.1 g.register) _ a.0 f.0 refl f.3),
        ),
        summed_map p p' w e m.same_rows g.register g.purpose a.3,
      )
  doing_map p p' w t e (GetShow r) k m a = (m.reg r a.0, settled m.tick t a.1)

  -- a put that is not yet stamped stays so, and one that is stays so
  abbrev pub Covers : ℕ → ℕ → Type 0
  Covers r c =
      (((nth x.slots c).high ≡ absent → ((nth x'.slots c).high ≡ absent) × ((nth x'.slots (top x' r)).value ≡ (nth x.slots (top x r)).value))
      × ((nth x.slots c).high ≤ x.clock → (nth x'.slots c).high ≤ x'.clock))

  -- an open whose time is the clock, or past, stays so
  abbrev pub Stays : ℕ → Type 0
  Stays t = (t ≡ x.clock → t ≡ x'.clock) × (t < x.clock → t < x'.clock)

  fits_time : (t : ℕ) (c : Operation) (n n' : ℕ) → n' ≡ n → (y : TimeStep) → (y ≡ OpenPass → Stays t) → FitsTime x t c y n → FitsTime x' t c y n'
  fits_time t c n n' q OpenAnnounce v a = (a.0, q ∙ a.1)
  fits_time t c n n' q OpenPass v a =
      let u = v refl in
      (a.0, ⊎_elim (λ z. inl (u.0 z.0, q ∙ z.1)) (λ z. inr (u.1 z.0, q ∙ z.1)) a.1)
  fits_time t c n n' q CloseWithdraw v a = (a.0, q ∙ a.1)
  fits_time t c n n' q (MarkKeep m) v a = (a.0, q ∙ a.1)
  fits_time t c n n' q (MarkRelease m) v a = (a.0, q ∙ a.1)

  fits_flush : (c : Operation) (n n' : ℕ) → n' ≡ n → FitsFlush c n → FitsFlush c n'
  fits_flush c n n' q = ⊎_elim (λ z. inl (z.0, q ∙ z.1)) (λ z. inr (z.0, q ∙ z.1))

  -- only a put before its second step and an open before its second look at the store
  pub fits_on : (t : ℕ) (c : Operation) (n n' : ℕ) → n' ≡ n → (d : Doing) → ((r e : ℕ) → d ≡ PutStamp r e → Covers r e)
      → (d ≡ OnTime OpenPass → Stays t) → Fits x t c d n → Fits x' t c d n'
  fits_on t c n n' q Idle v u a = a
  fits_on t c n n' q (PutPublish r y) v u a = (a.0, q ∙ a.1)
  fits_on t c n n' q (PutStamp r e) v u a =
      let f = v r e refl in
      (a.0, a.1, ⊎_elim (λ z. inl ((f.0 z.0).0, q ∙ z.1, (f.0 z.0).1 ∙ z.2)) (λ z. inr (f.1 z.0, q ∙ z.1)) a.2)
  fits_on t c n n' q (PutHandIn r e) v u a = (a.0, q ∙ a.1)
  fits_on t c n n' q FlushTake v u a = fits_flush c n n' q a
  fits_on t c n n' q (FlushRead m ts) v u a = fits_flush c n n' q a
  fits_on t c n n' q (FlushFree m) v u a = fits_flush c n n' q a
  fits_on t c n n' q (OnTime y) v u a = fits_time t c n n' q y (λ e. u (ap OnTime e)) a
  fits_on t c n n' q (ReadEnter g) v u a = (a.0, q ∙ a.1)
  fits_on t c n n' q (ReadStand g e) v u a = (a.0, q ∙ a.1)
  fits_on t c n n' q (GetShow r) v u a = (a.0, q ∙ a.1)

  pub fits_map : x'.clock ≡ x.clock → (t : ℕ) (c : Operation) (n n' : ℕ) → n' ≡ n → (d : Doing)
      → ((r e : ℕ) → d ≡ PutStamp r e → Covers r e) → Fits x t c d n → Fits x' t c d n'
  fits_map k t c n n' q d v = fits_on t c n n' q d v (λ e. ((λ z. z ∙ sym k), (λ z. omega (arith, k, z))))

-- Current, by the operation that is open, if any
pub current_map : (x x' : Ctx) (h h' : List Call) (o o' : List ℕ) (w t t' : ℕ) (d : Doing)
    → (NoneRunning h w → NoneRunning h' w)
    → ((k : ℕ) → Running h w k → Fits x t (call_at h k).operation d (occurrences k o)
    → Running h' w k × Fits x' t' (call_at h' k).operation d (occurrences k o'))
    → Current x h o w t d → Current x' h' o' w t' d
current_map x x' h h' o o' w t t' d f g a = go (about d).idle a
  where
    go : (i : Bool) → CurrentOf x h o w t d i → CurrentOf x' h' o' w t' d i
    go true u = f u
    go false u = let b = g u.0 u.1 u.2 in (u.0, b.0, b.1)

-- a register's versions, untouched
pub Fine-same : (s s' : List Slot) (t : ℕ) (x x' : Content) (l : List ℕ) → x' ≡ x
    → ((c : ℕ) → 0 < occurrences c l → ((nth s' c).low ≡ (nth s c).low) × ((nth s' c).high ≡ (nth s c).high) × ((nth s' c).value ≡ (nth s c).value))
    → Fine s t x l → Fine s' t x' l
unfolding occurrences
Fine-same s s' t x x' [] q f a = a
Fine-same s s' t x x' (c ∷ l) q f a =
    let e = f c (omega (arith, hit_same c)) in (
      e.1 ∙ a.0,
      ⊎_elim
          (λ u. inl (omega (arith, e.0, u.0), e.2 ∙ u.1 ∙ sym q, past l (λ d z. f d (omega (arith, z))) u.2))
          (λ u. inr (e.0 ∙ u.0, next l (λ d z. f d (omega (arith, z))) u.1))
          a.1,
    )
  where
    past : (m : List ℕ) → ((d : ℕ) → 0 < occurrences d m
        → ((nth s' d).low ≡ (nth s d).low) × ((nth s' d).high ≡ (nth s d).high) × ((nth s' d).value ≡ (nth s d).value)) → All (Past s t) m
        → All (Past s' t) m
    past [] g z = tt
    past (d ∷ m) g z =
        let e = g d (omega (arith, hit_same d)) in
        ((omega (arith, e.0, z.0.0), omega (arith, e.1, z.0.1)), past m (λ i y. g i (omega (arith, y))) z.1)

    next : (m : List ℕ) → ((d : ℕ) → 0 < occurrences d m
        → ((nth s' d).low ≡ (nth s d).low) × ((nth s' d).high ≡ (nth s d).high) × ((nth s' d).value ≡ (nth s d).value)) → Next s t x m → Next s' t x' m
    next [] g z = z
    next (d ∷ m) g z =
        let e = g d (omega (arith, hit_same d)) in
        (omega (arith, e.0, z.0), e.1 ∙ z.1, e.2 ∙ z.2 ∙ sym q, past m (λ i y. g i (omega (arith, y))) z.3)
