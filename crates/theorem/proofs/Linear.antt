-- The order of operations: what happens to it when an operation begins, takes effect, and ends.
use mathlib.Core.Path.{◌≡◌, refl, sym, ap, ◌∙◌, subst}
use mathlib.Core.Bool.{Bool, true, false, cond, true≢false}
use mathlib.Core.Logic.{◌≢◌, ⊎_elim}
use mathlib.Core.List.{List, [], ◌∷◌, ◌++◌, map}
use mathlib.Core.Option.{Option, none, some}
use Prim.Native.Nat.{ℕ, ◌+◌, ◌≤◌, ◌<◌}
use native.Mathlib.Omega.{arith}
use lib.Dec.{ltb, eqb}
use lib.ListN.{length, length-append, length-map, get_or-append}
use lib.Seq.{get_or-append_seam}
use borrow.Author.Tests.{eqb-true, eq-eqb}
use Rattle.model.specs.Store.{Content}
use Rattle.model.specs.Answer.{Answer, said}
use Rattle.model.specs.Record.{Operation}
use Rattle.model.specs.Demand.{Ending, Unfinished, RefusedAt, FinishedAt, Call, end_as, end_once, end_for, Plain, plain₀, feed, shows}
use Rattle.model.specs.Demand.{call₀, occurrences, All, Stands, EndsBefore, Ordered, FinishedBefore, FinishedBy, ByEnds, at_end}
use Rattle.model.specs.Demand.{Agrees, RegistersAgree, IsOrder, call_at, end_by, showing, AgreesIf}
use Rattle.model.proofs.Basic.{hit_same, hit_other, occurrences-snoc, eq_cases, lt_cases, All-append, get_d_map}

unfoldable pub after : List Call → Plain → List ℕ → Plain
after h p [] = p
after h p (i ∷ o) = after h (feed p (call_at h i).worker (call_at h i).operation) o

------------------------------------------------------------------------
-- An order looks at no more of the history than it names

pub Ordered-mono : (h h' : List Call) (o : List ℕ)
    → ((i : ℕ) → 0 < occurrences i o → (call_at h' i).begun ≡ (call_at h i).begun)
    → ((i j : ℕ) → 0 < occurrences i o → 0 < occurrences j o → EndsBefore (call_at h i).begun (call_at h' j).ending
    → EndsBefore (call_at h i).begun (call_at h j).ending)
    → Ordered h o → Ordered h' o
unfolding Ordered occurrences
Ordered-mono h h' [] b e t = tt
Ordered-mono h h' (i ∷ o) b e t = (
  both o (λ j x. x) t.0,
  Ordered-mono h h' o (λ j x. b j (omega arith)) (λ j k x y. e j k (omega arith) (omega arith)) t.1,
)
  where
    here : 0 < occurrences i (i ∷ o)
    here = omega (arith, hit_same i)

    both : (q : List ℕ) → ((j : ℕ) → 0 < occurrences j q → 0 < occurrences j o)
        → All (λ j. EndsBefore (call_at h i).begun (call_at h j).ending → ⊥) q
        → All (λ j. EndsBefore (call_at h' i).begun (call_at h' j).ending → ⊥) q
    both [] sub u = tt
    both (j ∷ q) sub u = (
      (λ z. u.0 (e i j here (omega (arith, sub j (omega (arith, hit_same j))))
          (subst (λ (k : ℕ). EndsBefore k (call_at h' j).ending) (b i here) z))),
      both q (λ k y. sub k (omega arith)) u.1,
    )

pub ByEnds-mono : (h h' : List Call) (o : List ℕ)
    → ((i : ℕ) → 0 < occurrences i o → (call_at h' i).operation ≡ (call_at h i).operation)
    → ((i : ℕ) → 0 < occurrences i o → at_end (call_at h i).operation ≡ true → (call_at h' i).ending ≡ (call_at h i).ending)
    → ByEnds h o → ByEnds h' o
unfolding ByEnds occurrences
ByEnds-mono h h' [] c e t = tt
ByEnds-mono h h' (i ∷ o) c e t =
    (all o (λ j x. x) t.0, ByEnds-mono h h' o (λ j x. c j (omega arith)) (λ j x. e j (omega arith)) t.1)
  where
    here : 0 < occurrences i (i ∷ o)
    here = omega (arith, hit_same i)

    all : (q : List ℕ) → ((j : ℕ) → 0 < occurrences j q → 0 < occurrences j o)
        → All (λ j. at_end (call_at h i).operation ≡ true → at_end (call_at h j).operation ≡ true
        → FinishedBy (call_at h i).ending (call_at h j).ending) q
        → All (λ j. at_end (call_at h' i).operation ≡ true → at_end (call_at h' j).operation ≡ true
        → FinishedBy (call_at h' i).ending (call_at h' j).ending) q
    all [] sub u = tt
    all (j ∷ q) sub u = (
      (λ x y.
          let there : 0 < occurrences j (i ∷ o) = omega (arith, sub j (omega (arith, hit_same j))) in
          let a = sym (ap at_end (c i here)) ∙ x in
          let b = sym (ap at_end (c j there)) ∙ y in
          subst (λ (q : Ending). FinishedBy q (call_at h' j).ending) (sym (e i here a))
          (subst (FinishedBy (call_at h i).ending) (sym (e j there b)) (u.0 a b))),
      all q (λ k y. sub k (omega arith)) u.1,
    )

pub after-mono : (h h' : List Call) (p : Plain) (o : List ℕ)
    → ((i : ℕ) → 0 < occurrences i o → ((call_at h' i).operation ≡ (call_at h i).operation) × ((call_at h' i).worker ≡ (call_at h i).worker))
    → after h' p o ≡ after h p o
unfolding after occurrences
after-mono h h' p [] c = refl
after-mono h h' p (i ∷ o) c =
    let e = c i (omega (arith, hit_same i)) in
    rw (e.0, e.1) (after-mono h h' (feed p (call_at h i).worker (call_at h i).operation) o (λ j x. c j (omega arith)))

pub RegistersAgree-mono : (rows : List ℕ) (h h' : List Call) (p : Plain) (o : List ℕ)
    → ((i : ℕ) → 0 < occurrences i o → ((call_at h' i).operation ≡ (call_at h i).operation) × ((call_at h' i).worker ≡ (call_at h i).worker))
    → ((i : ℕ) (s : Option Answer) → 0 < occurrences i o → Agrees (call_at h i).operation (call_at h i).ending s
    → Agrees (call_at h i).operation (call_at h' i).ending s)
    → RegistersAgree rows h p o → RegistersAgree rows h' p o
unfolding RegistersAgree occurrences
RegistersAgree-mono rows h h' p [] c a t = tt
RegistersAgree-mono rows h h' p (i ∷ o) c a t =
    let e = c i (omega (arith, hit_same i)) in
    rw (e.0, e.1) (
      a i _ (omega (arith, hit_same i)) t.0,
      RegistersAgree-mono rows h h' (feed p (call_at h i).worker (call_at h i).operation) o
          (λ j x. c j (omega arith)) (λ j s x. a j s (omega arith)) t.1,
    )

------------------------------------------------------------------------
-- One more at the end

pub Ordered-snoc : (h : List Call) (o : List ℕ) (k : ℕ)
    → ((i : ℕ) → 0 < occurrences i o → EndsBefore (call_at h i).begun (call_at h k).ending → ⊥)
    → Ordered h o → Ordered h (o ++ (k ∷ []))
unfolding Ordered occurrences
Ordered-snoc h [] k n t = (tt, tt)
Ordered-snoc h (i ∷ o) k n t =
    (All-append _ o (k ∷ []) t.0 (n i (omega (arith, hit_same i)), tt), Ordered-snoc h o k (λ j x. n j (omega arith)) t.1)

pub ByEnds-snoc : (h : List Call) (o : List ℕ) (k : ℕ)
    → ((i : ℕ) → 0 < occurrences i o → at_end (call_at h i).operation ≡ true → at_end (call_at h k).operation ≡ true
    → FinishedBy (call_at h i).ending (call_at h k).ending)
    → ByEnds h o → ByEnds h (o ++ (k ∷ []))
unfolding ByEnds occurrences
ByEnds-snoc h [] k n t = (tt, tt)
ByEnds-snoc h (i ∷ o) k n t =
    (All-append _ o (k ∷ []) t.0 (n i (omega (arith, hit_same i)), tt), ByEnds-snoc h o k (λ j x. n j (omega arith)) t.1)

pub after-snoc : (h : List Call) (p : Plain) (o : List ℕ) (k : ℕ)
    → after h p (o ++ (k ∷ [])) ≡ feed (after h p o) (call_at h k).worker (call_at h k).operation
unfolding after
after-snoc h p [] k = refl
after-snoc h p (i ∷ o) k = after-snoc h (feed p (call_at h i).worker (call_at h i).operation) o k

pub RegistersAgree-snoc : (rows : List ℕ) (h : List Call) (p : Plain) (o : List ℕ) (k : ℕ)
    → Agrees (call_at h k).operation (call_at h k).ending (shows rows (after h p o) (call_at h k).worker (call_at h k).operation)
    → RegistersAgree rows h p o → RegistersAgree rows h p (o ++ (k ∷ []))
unfolding RegistersAgree after
RegistersAgree-snoc rows h p [] k a t = (a, tt)
RegistersAgree-snoc rows h p (i ∷ o) k a t = (t.0, RegistersAgree-snoc rows h (feed p (call_at h i).worker (call_at h i).operation) o k a t.1)

------------------------------------------------------------------------
-- The order so far: of the operations h, with the plain registers p that it has come to, before record `now`, on a hub with these rows of totals

pub record Lin (rows : List ℕ) (start : ℕ → Content) (now : ℕ) (h : List Call) (o : List ℕ) (p : Plain) : Type 0 where
  pub is_order : IsOrder rows start h o
  pub early : (i : ℕ) → i < length h → (call_at h i).begun < now
  -- one that takes effect at its end has ended where it stands in the order
  pub past : (i : ℕ) → 0 < occurrences i o → at_end (call_at h i).operation ≡ true → FinishedBefore now (call_at h i).ending
  pub come : after h (plain₀ start) o ≡ p

finished_later : (now : ℕ) (e : Ending) → FinishedBefore now e → FinishedBefore (now + 1) e
finished_later now Unfinished x = x
finished_later now (RefusedAt i) x = x
finished_later now (FinishedAt i a) x = omega (arith, x)

-- nothing happened to the operations
pub lin_skip : {rows : List ℕ} {start : ℕ → Content} {now : ℕ} {h : List Call} {o : List ℕ} {p : Plain} → Lin rows start now h o p → Lin rows start (now + 1) h o p
lin_skip {now = now} {h = h} L =
    record {
      is_order = L.is_order;
      early = λ i x. omega (arith, L.early i x);
      past = λ i x y. finished_later now (call_at h i).ending (L.past i x y);
      come = L.come;
    }

agrees_unended : (c : Operation) (s : Option Answer) → Agrees c Unfinished s
agrees_unended c s = go (showing c)
  where
    go : (b : Bool) → AgreesIf b Unfinished s
    go true = tt
    go false = tt

pub agrees_refused : (c : Operation) (i : ℕ) (s : Option Answer) → Agrees c (RefusedAt i) s
agrees_refused c i s = go (showing c)
  where
    go : (b : Bool) → AgreesIf b (RefusedAt i) s
    go true = tt
    go false = tt

module _ {rows : List ℕ} {start : ℕ → Content} {now : ℕ} {h : List Call} {o : List ℕ} {p : Plain} (L : Lin rows start now h o p) where
  pub inside : (i : ℕ) → 0 < occurrences i o → i < length h
  inside i x = ⊎_elim (λ u. u.0) (λ u. absurd (omega (arith, L.is_order.within i u.0))) (lt_cases i (length h))

  -- an operation begins
  pub lin_begin : (d : Call) → d.begun ≡ now → d.ending ≡ Unfinished → Lin rows start (now + 1) (h ++ (d ∷ [])) o p
  lin_begin d b u =
      record {
        is_order =
            record {
              within = λ i x. L.is_order.within i (omega (arith, length-append h (d ∷ [])));
              stands = λ i x. ⊎_elim (old i) (new i x) (lt_cases i (length h));
              ordered =
                  Ordered-mono h h' o (λ i x. ap (λ (v : Call). v.begun) (keep i x))
                  (λ i j x y z. subst (λ (v : Call). EndsBefore (call_at h i).begun v.ending) (keep j y) z) L.is_order.ordered;
              by_ends =
                  ByEnds-mono h h' o (λ i x. ap (λ (v : Call). v.operation) (keep i x)) (λ i x y. ap (λ (v : Call). v.ending) (keep i x))
                  L.is_order.by_ends;
              registers_agree =
                  RegistersAgree-mono rows h h' (plain₀ start) o (λ i x. (ap (λ (v : Call). v.operation) (keep i x), ap (λ (v : Call). v.worker) (keep i x)))
                  (λ i s x. subst (λ (v : Call). Agrees (call_at h i).operation v.ending s) (sym (keep i x))) L.is_order.registers_agree;
            };
        early =
            λ i x. ⊎_elim (λ u. omega (arith, L.early i u.0, ap (λ (v : Call). v.begun) (get_or-append h (d ∷ []) call₀ i u.0)))
            (λ u. omega (arith, b, ap (λ (v : Call). v.begun) (last i x u.0))) (lt_cases i (length h));
        past = λ i x y.
            subst (λ (v : Call). FinishedBefore (now + 1) v.ending) (sym (keep i x))
            (finished_later now (call_at h i).ending (L.past i x (ap (λ (v : Call). at_end v.operation) (sym (keep i x)) ∙ y)));
        come = after-mono h h' (plain₀ start) o (λ i x. (ap (λ (v : Call). v.operation) (keep i x), ap (λ (v : Call). v.worker) (keep i x))) ∙ L.come;
      }
    where
      h' : List Call
      h' = h ++ (d ∷ [])

      keep : (i : ℕ) → 0 < occurrences i o → call_at h' i ≡ call_at h i
      keep i x = get_or-append h (d ∷ []) call₀ i (inside i x)

      last : (i : ℕ) → i < length h' → length h ≤ i → call_at h' i ≡ d
      last i x y =
          let e : i ≡ length h = omega (arith, length-append h (d ∷ [])) in
          subst (λ (k : ℕ). call_at h' k ≡ d) (sym e) (get_or-append_seam h d [] call₀)

      old : (i : ℕ) → (i < length h) × (ltb i (length h) ≡ true) → Stands (call_at h' i).ending (occurrences i o)
      old i x = rw (get_or-append h (d ∷ []) call₀ i x.0) (L.is_order.stands i x.0)

      new : (i : ℕ) → i < length h' → (length h ≤ i) × (ltb i (length h) ≡ false) → Stands (call_at h' i).ending (occurrences i o)
      new i x y = rw (last i x y.0, u) (omega (arith, L.is_order.within i y.0))

  -- operation k, which has not ended, takes effect: a put or an open
  pub lin_effect : (k : ℕ) → k < length h → (call_at h k).ending ≡ Unfinished → occurrences k o ≡ 0 → at_end (call_at h k).operation ≡ false
      → Lin rows start now h (o ++ (k ∷ [])) (feed p (call_at h k).worker (call_at h k).operation)
  lin_effect k x u z ne =
      record {
        is_order =
            record {
              within = λ i y. omega (arith, occurrences-snoc i o k, L.is_order.within i y, hit_other k i (omega arith));
              stands = λ i y. ⊎_elim (own i) (other i y) (eq_cases k i);
              ordered = Ordered-snoc h o k (λ i y e. subst (EndsBefore (call_at h i).begun) u e) L.is_order.ordered;
              by_ends = ByEnds-snoc h o k (λ i y a b. absurd (true≢false (sym b ∙ ne))) L.is_order.by_ends;
              registers_agree = RegistersAgree-snoc rows h (plain₀ start) o k (rw u (agrees_unended (call_at h k).operation _)) L.is_order.registers_agree;
            };
        early = L.early;
        past = λ i y a.
            ⊎_elim (λ e. absurd (true≢false (sym a ∙ ap (λ (j : ℕ). at_end (call_at h j).operation) (sym e.0) ∙ ne)))
            (λ e. L.past i (omega (arith, y, occurrences-snoc i o k, hit_other k i e.0)) a) (eq_cases k i);
        come = after-snoc h (plain₀ start) o k ∙ ap (λ (q : Plain). feed q (call_at h k).worker (call_at h k).operation) L.come;
      }
    where
      own : (i : ℕ) → (k ≡ i) × (eqb k i ≡ true) → Stands (call_at h i).ending (occurrences i (o ++ (k ∷ [])))
      own i e =
          subst (λ (j : ℕ). Stands (call_at h j).ending (occurrences j (o ++ (k ∷ [])))) e.0
          (rw u (omega (arith, occurrences-snoc k o k, hit_same k)))

      other : (i : ℕ) → i < length h → (k ≢ i) × (eqb k i ≡ false) → Stands (call_at h i).ending (occurrences i (o ++ (k ∷ [])))
      other i y e =
          let q : occurrences i (o ++ (k ∷ [])) ≡ occurrences i o = omega (arith, occurrences-snoc i o k, hit_other k i e.0) in
          rw q (L.is_order.stands i y)

pub end_once-keep : (e x : Ending) → (e ≡ Unfinished → ⊥) → end_once e x ≡ e
unfolding end_once
end_once-keep Unfinished x f = absurd (f refl)
end_once-keep (RefusedAt i) x f = refl
end_once-keep (FinishedAt i a) x f = refl

end_once-first : (e x : Ending) → e ≡ Unfinished → end_once e x ≡ x
unfolding end_once
end_once-first e x u = rw u

-- a step of worker w with answer a ends the one operation k that w has open
module _ (now w : ℕ) (a : Answer) (h : List Call) (k : ℕ) (kin : k < length h) (kw : (call_at h k).worker ≡ w) (ku : (call_at h k).ending ≡ Unfinished)
    (uniq : (i : ℕ) → i < length h → (call_at h i).worker ≡ w → (call_at h i).ending ≡ Unfinished → i ≡ k) where
  abbrev pub ended : List Call
  ended = map (end_for now w a) h

  pub ended_length : length ended ≡ length h
  ended_length = length-map h (end_for now w a)

  pub ended_nth : (i : ℕ) → i < length h → call_at ended i ≡ end_for now w a (call_at h i)
  ended_nth i x = get_d_map (end_for now w a) h i call₀ call₀ x

  pub ended_same : (i : ℕ) → i < length h → ((call_at ended i).operation ≡ (call_at h i).operation) × ((call_at ended i).worker ≡ (call_at h i).worker)
  unfolding end_for
  ended_same i x = (ap (λ (v : Call). v.operation) (ended_nth i x), ap (λ (v : Call). v.worker) (ended_nth i x))

  pub ended_begun : (i : ℕ) → i < length h → (call_at ended i).begun ≡ (call_at h i).begun
  unfolding end_for
  ended_begun i x = ap (λ (v : Call). v.begun) (ended_nth i x)

  pub ended_own : (call_at ended k).ending ≡ end_as now a
  unfolding end_for
  ended_own =
      ap (λ (v : Call). v.ending) (ended_nth k kin)
      ∙ ap (λ (t : Bool). cond t (end_once (call_at h k).ending (end_as now a)) (call_at h k).ending) (eq-eqb (call_at h k).worker w kw)
      ∙ end_once-first (call_at h k).ending (end_as now a) ku

  pub ended_other : (i : ℕ) → i < length h → k ≢ i → (call_at ended i).ending ≡ (call_at h i).ending
  unfolding end_for
  ended_other i x n = ap (λ (v : Call). v.ending) (ended_nth i x) ∙ go (eqb (call_at h i).worker w) refl
    where
      go : (t : Bool) → eqb (call_at h i).worker w ≡ t → cond t (end_once (call_at h i).ending (end_as now a)) (call_at h i).ending ≡ (call_at h i).ending
      go true e = end_once-keep (call_at h i).ending (end_as now a) (λ u. n (sym (uniq i x (eqb-true _ _ e) u)))
      go false e = refl

  late : (i : ℕ) → (call_at h i).begun < now → EndsBefore (call_at h i).begun (end_as now a) → ⊥
  late i x = go (said a).refusal
    where
      go : (y : Option ℕ) → EndsBefore (call_at h i).begun (end_by now a y) → ⊥
      go none z = omega arith
      go (some k) z = omega arith

  module _ {rows : List ℕ} {start : ℕ → Content} (o : List ℕ) (p : Plain) (L : Lin rows start now h o p) where
    earlyE : (i : ℕ) → i < length ended → (call_at ended i).begun < now + 1
    earlyE i x = let y : i < length h = omega (arith, ended_length) in omega (arith, ended_begun i y, L.early i y)

    orderedE : Ordered ended o
    orderedE =
        Ordered-mono h ended o (λ i x. ended_begun i (inside L i x))
        (λ i j x y z. ⊎_elim
        (λ e. absurd (late i (L.early i (inside L i x))
        (subst (EndsBefore (call_at h i).begun) (ap (λ (q : ℕ). (call_at ended q).ending) (sym e.0) ∙ ended_own) z)))
        (λ e. subst (EndsBefore (call_at h i).begun) (ended_other j (inside L j y) e.0) z)
        (eq_cases k j))
        L.is_order.ordered

    -- the one that ends is not in the order yet, or takes no effect at its end
    not_yet : (i : ℕ) → 0 < occurrences i o → at_end (call_at h i).operation ≡ true → k ≢ i
    not_yet i x y e = subst (FinishedBefore now) (ap (λ (j : ℕ). (call_at h j).ending) (sym e) ∙ ku) (L.past i x y)

    byEndsE : ByEnds ended o
    byEndsE =
        ByEnds-mono h ended o (λ i x. (ended_same i (inside L i x)).0) (λ i x y. ended_other i (inside L i x) (not_yet i x y)) L.is_order.by_ends

    pastE : (i : ℕ) → 0 < occurrences i o → at_end (call_at ended i).operation ≡ true → FinishedBefore now (call_at ended i).ending
    pastE i x y =
        let z = sym (ap at_end (ended_same i (inside L i x)).0) ∙ y in
        subst (FinishedBefore now) (sym (ended_other i (inside L i x) (not_yet i x z))) (L.past i x z)

    comeE : after ended (plain₀ start) o ≡ p
    comeE = after-mono h ended (plain₀ start) o (λ i x. ended_same i (inside L i x)) ∙ L.come

    -- it shows nothing, or is refused: it stands in the order as its ending says
    pub lin-end : Stands (end_as now a) (occurrences k o) → ((s : Option Answer) → Agrees (call_at h k).operation (end_as now a) s)
        → Lin rows start (now + 1) ended o p
    lin-end st ag =
        record {
          is_order =
              record {
                within = λ i x. L.is_order.within i (omega (arith, ended_length));
                stands = λ i x. let y : i < length h = omega (arith, ended_length) in
                    ⊎_elim
                    (λ e. subst (λ (q : ℕ). Stands (call_at ended q).ending (occurrences q o)) e.0
                    (subst (λ (q : Ending). Stands q (occurrences k o)) (sym ended_own) st))
                    (λ e. subst (λ (q : Ending). Stands q (occurrences i o)) (sym (ended_other i y e.0)) (L.is_order.stands i y))
                    (eq_cases k i);
                ordered = orderedE;
                by_ends = byEndsE;
                registers_agree =
                    RegistersAgree-mono rows h ended (plain₀ start) o (λ i x. ended_same i (inside L i x))
                    (λ i s x z. ⊎_elim
                    (λ e. subst (λ (q : ℕ). Agrees (call_at h q).operation (call_at ended q).ending s) e.0
                    (subst (λ (q : Ending). Agrees (call_at h k).operation q s) (sym ended_own) (ag s)))
                    (λ e. subst (λ (q : Ending). Agrees (call_at h i).operation q s) (sym (ended_other i (inside L i x) e.0)) z)
                    (eq_cases k i))
                    L.is_order.registers_agree;
              };
          early = earlyE;
          past = λ i x y. finished_later now (call_at ended i).ending (pastE i x y);
          come = comeE;
        }

    -- it takes effect at its end, and what it answers is what is shown
    pub lin-end-agree : occurrences k o ≡ 0 → Stands (end_as now a) 1
        → Agrees (call_at h k).operation (end_as now a) (shows rows p w (call_at h k).operation)
        → Lin rows start (now + 1) ended (o ++ (k ∷ [])) (feed p w (call_at h k).operation)
    lin-end-agree z st ag =
        record {
          is_order =
              record {
                within =
                    λ i x. omega (
                      arith,
                      occurrences-snoc i o k,
                      L.is_order.within i (omega (arith, ended_length)),
                      hit_other k i
                          (omega (arith, ended_length)),
                    );
                stands = λ i x. let y : i < length h = omega (arith, ended_length) in
                    ⊎_elim
                    (λ e. subst (λ (q : ℕ). Stands (call_at ended q).ending (occurrences q (o ++ (k ∷ [])))) e.0
                    (let q : occurrences k (o ++ (k ∷ [])) ≡ 1 = omega (arith, occurrences-snoc k o k, hit_same k) in rw (q, ended_own) st))
                    (λ e. let q : occurrences i (o ++ (k ∷ [])) ≡ occurrences i o = omega (arith, occurrences-snoc i o k, hit_other k i e.0) in
                    rw (q, ended_other i y e.0) (L.is_order.stands i y))
                    (eq_cases k i);
                ordered =
                    Ordered-snoc ended o k
                    (λ i x e. late i (L.early i (inside L i x))
                    (subst (EndsBefore (call_at h i).begun) ended_own
                    (subst (λ (q : ℕ). EndsBefore q (call_at ended k).ending) (ended_begun i (inside L i x)) e)))
                    orderedE;
                by_ends =
                    ByEnds-snoc ended o k (λ i x y v. subst (FinishedBy (call_at ended i).ending) (sym finishes-now) (pastE i x y)) byEndsE;
                registers_agree =
                    RegistersAgree-snoc rows ended (plain₀ start) o k
                    (rw (comeE, ended_own, (ended_same k kin).0, (ended_same k kin).1, kw) ag)
                    (RegistersAgree-mono rows h ended (plain₀ start) o (λ i x. ended_same i (inside L i x))
                    (λ i s x g. subst (λ (q : Ending). Agrees (call_at h i).operation q s)
                    (sym (ended_other i (inside L i x) (λ e. omega (arith, z, subst (λ (q : ℕ). 0 < occurrences q o) (sym e) x)))) g)
                    L.is_order.registers_agree);
              };
          early = earlyE;
          past = λ i x y.
              ⊎_elim
              (λ e. subst (FinishedBefore (now + 1)) (sym finishes-now ∙ ap (λ (j : ℕ). (call_at ended j).ending) e.0) at-now)
              (λ e. finished_later now (call_at ended i).ending (pastE i (omega (arith, x, occurrences-snoc i o k, hit_other k i e.0)) y))
              (eq_cases k i);
          come = after-snoc ended (plain₀ start) o k ∙ rw (comeE, (ended_same k kin).0, (ended_same k kin).1, kw);
        }
      where
        finished-is : (y : Option ℕ) → Stands (end_by now a y) 1 → end_by now a y ≡ FinishedAt now a
        finished-is none s = refl
        finished-is (some j) s = absurd (omega (arith, s))

        finishes-now : (call_at ended k).ending ≡ FinishedAt now a
        finishes-now = ended_own ∙ finished-is (said a).refusal st

        at-now : now < now + 1
        at-now = omega arith
