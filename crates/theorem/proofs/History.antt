-- What a record does to the history and the order: nothing, a begin, an end, or an end that shows something.
use mathlib.Core.Path.{◌≡◌, refl, sym, ap, ◌∙◌, subst}
use mathlib.Core.Bool.{true, false, cond}
use mathlib.Core.Logic.{◌≢◌, ◌⊎◌, inl, inr, ⊎_elim}
use mathlib.Core.List.{List, [], ◌∷◌, ◌++◌, map}
use mathlib.Core.Option.{Option, none, some}
use Prim.Native.Nat.{ℕ, suc, ◌+◌, ◌<◌}
use native.Mathlib.Omega.{arith}
use lib.Dec.{eqb}
use lib.ListN.{length, length-append, get_or-append}
use lib.Seq.{get_or-append_seam}
use Rattle.model.specs.Store.{Content}
use Rattle.model.specs.Answer.{Answer, said}
use Rattle.model.specs.Record.{Operation}
use Rattle.model.specs.Demand.{Ending, Unfinished, RefusedAt, FinishedAt, Call, end_as, end_once, end_for, Plain, feed, shows, call₀}
use Rattle.model.specs.Demand.{occurrences, Stands, Agrees, call_at, end_by}
use Rattle.model.proofs.Basic.{hit_other, lt_cases, eq_cases, occurrences-snoc}
use Rattle.theorem.proofs.Linear.{Lin, lin_skip, lin_begin, lin-end, lin-end-agree, end_once-keep, ended_length, ended_same, ended_own}
use Rattle.theorem.proofs.Linear.{ended_other}
use Rattle.theorem.proofs.Invariant.{Running, NoneRunning}

pub record Hist (rows : List ℕ) (start : ℕ → Content) (now w : ℕ) (h : List Call) (o : List ℕ) (p : Plain) (h' : List Call) (o' : List ℕ) (p' : Plain) : Type 0 where
  pub shut : (v : ℕ) → v ≢ w → NoneRunning h v → NoneRunning h' v
  pub running : (v : ℕ) → v ≢ w → (k : ℕ) → Running h v k
      → Running h' v k × ((call_at h' k).operation ≡ (call_at h k).operation) × (occurrences k o' ≡ occurrences k o)
  pub linear : Lin rows start now h' o' p'
  pub registers : (r : ℕ) → p'.registers r ≡ p.registers r
  pub copy : (v : ℕ) → v ≢ w → p'.copy v ≡ p.copy v

pub hist_skip : {rows : List ℕ} {start : ℕ → Content} (now w : ℕ) (h : List Call) (o : List ℕ) (p : Plain) → Lin rows start now h o p → Hist rows start (now + 1) w h o p h o p
hist_skip now w h o p L =
    record { shut = λ v n z. z; running = λ v n k z. (z, refl, refl); linear = lin_skip L; registers = λ r. refl; copy = λ v n. refl }

-- a step record of a worker that performs no operation ends none
pub ended_none : (now w : ℕ) (a : Answer) (h : List Call) → NoneRunning h w → map (end_for now w a) h ≡ h
unfolding end_for
ended_none now w a [] f = refl
ended_none now w a (c ∷ h) f =
    rw (ended_none now w a h (λ i z. f (suc i) (omega (arith, z))))
    (ap (λ (e : Ending). record { operation = c.operation; worker = c.worker; begun = c.begun; ending = e } ∷ h)
    (⊎_elim own other (eq_cases c.worker w)))
  where
    own : (c.worker ≡ w) × (eqb c.worker w ≡ true) → cond (eqb c.worker w) (end_once c.ending (end_as now a)) c.ending ≡ c.ending
    own u = rw u.1 (end_once-keep c.ending (end_as now a) (f 0 (omega arith) u.0))

    other : (c.worker ≢ w) × (eqb c.worker w ≡ false) → cond (eqb c.worker w) (end_once c.ending (end_as now a)) c.ending ≡ c.ending
    other u = rw u.1

module _ {rows : List ℕ} {start : ℕ → Content} (now w : ℕ) (h : List Call) (o : List ℕ) (p : Plain) (L : Lin rows start now h o p) where
  module _ (c : Operation) where
    abbrev new : Call
    new = record { operation = c; worker = w; begun = now; ending = Unfinished }

    abbrev h⁺ : List Call
    h⁺ = h ++ (new ∷ [])

    len⁺ : length h⁺ ≡ length h + 1
    len⁺ = length-append h (new ∷ [])

    keep⁺ : (i : ℕ) → i < length h → call_at h⁺ i ≡ call_at h i
    keep⁺ i z = get_or-append h (new ∷ []) call₀ i z

    last⁺ : call_at h⁺ (length h) ≡ new
    last⁺ = get_or-append_seam h new [] call₀

    -- an index of the longer history is an old one, or the last
    split⁺ : (i : ℕ) → i < length h⁺ → (i < length h) ⊎ (i ≡ length h)
    split⁺ i z = ⊎_elim (λ u. inl u.0) (λ u. inr (omega (arith, len⁺, u.0))) (lt_cases i (length h))

    old⁺ : (v : ℕ) → v ≢ w → (i : ℕ) → i < length h⁺ → (call_at h⁺ i).worker ≡ v → (call_at h⁺ i).ending ≡ Unfinished
        → (i < length h) × ((call_at h i).worker ≡ v) × ((call_at h i).ending ≡ Unfinished)
    old⁺ v n i z a b =
        ⊎_elim
        (λ u. (u, ap (λ (d : Call). d.worker) (sym (keep⁺ i u)) ∙ a, ap (λ (d : Call). d.ending) (sym (keep⁺ i u)) ∙ b))
        (λ u. absurd (n (sym a ∙ ap (λ (j : ℕ). (call_at h⁺ j).worker) u ∙ ap (λ (d : Call). d.worker) last⁺)))
        (split⁺ i z)

    pub hist-begin : Hist rows start (now + 1) w h o p h⁺ o p
    hist-begin =
        record {
          shut = λ v n f i z a b. let q = old⁺ v n i z a b in f i q.0 q.1 q.2;
          running = λ v n k f. (
            record {
              within = omega (arith, len⁺, f.within);
              own = ap (λ (d : Call). d.worker) (keep⁺ k f.within) ∙ f.own;
              unfinished = ap (λ (d : Call). d.ending) (keep⁺ k f.within) ∙ f.unfinished;
              only = λ i z a b. let q = old⁺ v n i z a b in f.only i q.0 q.1 q.2;
            },
            ap (λ (d : Call). d.operation) (keep⁺ k f.within),
            refl,
          );
          linear = lin_begin L new refl refl;
          registers = λ r. refl;
          copy = λ v n. refl;
        }

    pub begin-running : NoneRunning h w → Running h⁺ w (length h)
    begin-running f =
        record {
          within = omega (arith, len⁺);
          own = ap (λ (d : Call). d.worker) last⁺;
          unfinished = ap (λ (d : Call). d.ending) last⁺;
          only = λ i z a b.
              ⊎_elim
              (λ u. absurd (f i u (ap (λ (d : Call). d.worker) (sym (keep⁺ i u)) ∙ a) (ap (λ (d : Call). d.ending) (sym (keep⁺ i u)) ∙ b)))
              (λ u. u)
              (split⁺ i z);
        }

    pub begin-call : (call_at h⁺ (length h)).operation ≡ c
    begin-call = ap (λ (d : Call). d.operation) last⁺

    pub begin-not : occurrences (length h) o ≡ 0
    begin-not = L.is_order.within (length h) (omega arith)

  abbrev Over : Ending → Type 0
  Over Unfinished = ⊥
  Over (RefusedAt i) = Unit {0}
  Over (FinishedAt i a) = Unit {0}

  over : (i : ℕ) (a : Answer) → Over (end_as i a)
  over i a = go (said a).refusal
    where
      go : (y : Option ℕ) → Over (end_by i a y)
      go none = tt
      go (some k) = tt

  module _ (a : Answer) (k : ℕ) (K : Running h w k) where
    abbrev h⁻ : List Call
    h⁻ = map (end_for now w a) h

    len⁻ : length h⁻ ≡ length h
    len⁻ = ended_length now w a h k K.within K.own K.unfinished K.only

    same⁻ : (i : ℕ) → i < length h → ((call_at h⁻ i).operation ≡ (call_at h i).operation) × ((call_at h⁻ i).worker ≡ (call_at h i).worker)
    same⁻ = ended_same now w a h k K.within K.own K.unfinished K.only

    other⁻ : (i : ℕ) → i < length h → k ≢ i → (call_at h⁻ i).ending ≡ (call_at h i).ending
    other⁻ = ended_other now w a h k K.within K.own K.unfinished K.only

    own⁻ : (call_at h⁻ k).ending ≡ end_as now a
    own⁻ = ended_own now w a h k K.within K.own K.unfinished K.only

    -- of another worker: as before
    old⁻ : (v : ℕ) → v ≢ w → (i : ℕ) → i < length h⁻ → (call_at h⁻ i).worker ≡ v → (call_at h⁻ i).ending ≡ Unfinished
        → (i < length h) × ((call_at h i).worker ≡ v) × ((call_at h i).ending ≡ Unfinished)
    old⁻ v n i z x y =
        let b : i < length h = omega (arith, len⁻) in
        let q : (call_at h i).worker ≡ v = sym (same⁻ i b).1 ∙ x in
        (b, q, sym (other⁻ i b (λ e. n (sym q ∙ ap (λ (j : ℕ). (call_at h j).worker) (sym e) ∙ K.own))) ∙ y)

    pub end-shut : NoneRunning h⁻ w
    end-shut i z x y =
        let b : i < length h = omega (arith, len⁻) in
        ⊎_elim
        (λ u. subst Over (sym own⁻ ∙ ap (λ (j : ℕ). (call_at h⁻ j).ending) u.0 ∙ y) (over now a))
        (λ u. u.0 (sym (K.only i b (sym (same⁻ i b).1 ∙ x) (sym (other⁻ i b u.0) ∙ y))))
        (eq_cases k i)

    open⁻ : (v : ℕ) → v ≢ w → (j : ℕ) → Running h v j → Running h⁻ v j
    open⁻ v n j f =
        record {
          within = omega (arith, len⁻, f.within);
          own = (same⁻ j f.within).1 ∙ f.own;
          unfinished = other⁻ j f.within (λ e. n (sym f.own ∙ ap (λ (q : ℕ). (call_at h q).worker) (sym e) ∙ K.own)) ∙ f.unfinished;
          only = λ i z x y. let q = old⁻ v n i z x y in f.only i q.0 q.1 q.2;
        }

    pub hist-end : Stands (end_as now a) (occurrences k o) → ((s : Option Answer) → Agrees (call_at h k).operation (end_as now a) s)
        → Hist rows start (now + 1) w h o p h⁻ o p
    hist-end st ag =
        record {
          shut = λ v n f i z x y. let q = old⁻ v n i z x y in f i q.0 q.1 q.2;
          running = λ v n j f. (open⁻ v n j f, (same⁻ j f.within).0, refl);
          linear = lin-end now w a h k K.within K.own K.unfinished K.only o p L st ag;
          registers = λ r. refl;
          copy = λ v n. refl;
        }

    pub hist-show : occurrences k o ≡ 0 → Stands (end_as now a) 1 → Agrees (call_at h k).operation (end_as now a) (shows rows p w (call_at h k).operation)
        → ((r : ℕ) → (feed p w (call_at h k).operation).registers r ≡ p.registers r)
        → ((v : ℕ) → v ≢ w → (feed p w (call_at h k).operation).copy v ≡ p.copy v)
        → Hist rows start (now + 1) w h o p h⁻ (o ++ (k ∷ [])) (feed p w (call_at h k).operation)
    hist-show nt st ag rg cp =
        record {
          shut = λ v n f i z x y. let q = old⁻ v n i z x y in f i q.0 q.1 q.2;
          running = λ v n j f. (
            open⁻ v n j f,
            (same⁻ j f.within).0,
            omega (arith, occurrences-snoc j o k, hit_other k j (λ e. n (sym f.own ∙ ap (λ (q : ℕ). (call_at h q).worker) (sym e) ∙ K.own))),
          );
          linear = lin-end-agree now w a h k K.within K.own K.unfinished K.only o p L nt st ag;
          registers = rg;
          copy = cp;
        }
