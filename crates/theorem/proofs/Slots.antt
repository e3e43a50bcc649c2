-- A row of slots: one slot changed, and what stamping, linking and unlinking leave as it was.
use mathlib.Core.Path.{◌≡◌, refl, sym, ap, ◌∙◌, subst}
use mathlib.Core.Bool.{true}
use mathlib.Core.Logic.{◌≢◌, ⊎_elim}
use mathlib.Core.Option.{some}
use mathlib.Core.List.{List}
use Prim.Native.Nat.{ℕ, ◌<◌}
use lib.Dec.{eqb}
use lib.ListN.{length, get_or, length-set}
use lib.Seq.{get_or-set_same, get_or-set_other, set_out}
use borrow.Author.Tests.{eq-eqb, ne_eqb}
use Rattle.model.specs.Store.{absent, Reading, Slot, slot₀}
use Rattle.model.specs.Versions.{set_low, set_high, set_older, set_newer, alone, change, stamp_slots, link_slots, unlink_slots}
use Rattle.model.proofs.Basic.{eq_cases, lt_cases}

abbrev pub nth : List Slot → ℕ → Slot
nth l c = get_or l c slot₀

pub change-same : (l : List Slot) (c : ℕ) (f : Slot → Slot) → c < length l → nth (change l c f) c ≡ f (nth l c)
change-same l c f h = get_or-set_same l c (f (nth l c)) slot₀ h

pub change-other : (l : List Slot) (c : ℕ) (f : Slot → Slot) (d : ℕ) → d ≢ c → nth (change l c f) d ≡ nth l d
change-other l c f d n = get_or-set_other l c d (f (nth l c)) slot₀ n

pub change-length : (l : List Slot) (c : ℕ) (f : Slot → Slot) → length (change l c f) ≡ length l
change-length l c f = length-set l c (f (nth l c))

-- a part that the change leaves
pub change-part : {A : Type 0} (π : Slot → A) (l : List Slot) (c : ℕ) (f : Slot → Slot) → ((v : Slot) → π (f v) ≡ π v) → (d : ℕ)
    → π (nth (change l c f) d) ≡ π (nth l d)
change-part π l c f k d = ⊎_elim same (λ e. ap π (change-other l c f d e.0)) (eq_cases d c)
  where
    same : (d ≡ c) × (eqb d c ≡ true) → π (nth (change l c f) d) ≡ π (nth l d)
    same e =
        subst (λ (i : ℕ). π (nth (change l c f) i) ≡ π (nth l i)) (sym e.0)
        (⊎_elim (λ u. ap π (change-same l c f u.0) ∙ k (nth l c)) (λ u. ap (λ (q : List Slot). π (nth q c)) (set_out l c (f (nth l c)) u.0))
        (lt_cases c (length l)))

------------------------------------------------------------------------
-- Stamping

module _ (l : List Slot) (n t : ℕ) where
  o : ℕ
  o = (nth l n).older

  abbrev f_l : Slot → Slot
  f_l v = set_low v t

  abbrev f_h : Slot → Slot
  f_h v = set_high v t

  abbrev l_l : List Slot
  l_l = change l n f_l

  l' : List Slot
  unfolding o
  l' = change l_l o f_h

  pub stamp-not : (nth l n).low ≢ absent → stamp_slots l n t ≡ l
  unfolding stamp_slots
  stamp-not e = rw (ne_eqb (nth l n).low absent e)

  is : (nth l n).low ≡ absent → stamp_slots l n t ≡ l'
  unfolding stamp_slots l' o
  is e = rw (eq-eqb (nth l n).low absent e)

  both : (P : List Slot → Type 0) → P l → P l' → P (stamp_slots l n t)
  both P x y = ⊎_elim (λ e. subst P (sym (is e.0)) y) (λ e. subst P (sym (stamp-not e.0)) x) (eq_cases (nth l n).low absent)

  pub stamp-length : length (stamp_slots l n t) ≡ length l
  unfolding l'
  stamp-length = both (λ q. length q ≡ length l) refl (change-length l_l o f_h ∙ change-length l n f_l)

  pub stamp-part : {A : Type 0} (π : Slot → A) → ((v : Slot) (x : ℕ) → π (set_low v x) ≡ π v) → ((v : Slot) (x : ℕ) → π (set_high v x) ≡ π v)
      → (d : ℕ) → π (nth (stamp_slots l n t) d) ≡ π (nth l d)
  unfolding l'
  stamp-part π a b d =
      both (λ q. π (nth q d) ≡ π (nth l d)) refl
      (change-part π l_l o f_h (λ v. b v t) d ∙ change-part π l n f_l (λ v. a v t) d)

  pub stamp-value : (d : ℕ) → (nth (stamp_slots l n t) d).value ≡ (nth l d).value
  stamp-value = stamp-part (λ v. v.value) (λ v x. refl) (λ v x. refl)

  pub stamp-older : (d : ℕ) → (nth (stamp_slots l n t) d).older ≡ (nth l d).older
  stamp-older = stamp-part (λ v. v.older) (λ v x. refl) (λ v x. refl)

  pub stamp-newer : (d : ℕ) → (nth (stamp_slots l n t) d).newer ≡ (nth l d).newer
  stamp-newer = stamp-part (λ v. v.newer) (λ v x. refl) (λ v x. refl)

  -- a low changes only at the newest version, a high only at the next older one, and only where the low was unset
  pub stamp-low_other : (d : ℕ) → d ≢ n → (nth (stamp_slots l n t) d).low ≡ (nth l d).low
  unfolding l'
  stamp-low_other d e =
      both (λ q. (nth q d).low ≡ (nth l d).low) refl
      (change-part (λ v. v.low) l_l o f_h (λ v. refl) d ∙ ap (λ (v : Slot). v.low) (change-other l n f_l d e))

  pub stamp-low_own : (nth l n).low ≡ absent → n < length l → (nth (stamp_slots l n t) n).low ≡ t
  unfolding l'
  stamp-low_own e x =
      ap (λ (q : List Slot). (nth q n).low) (is e)
      ∙ change-part (λ v. v.low) l_l o f_h (λ v. refl) n
      ∙ ap (λ (v : Slot). v.low) (change-same l n f_l x)

  pub stamp-high_other : (d : ℕ) → d ≢ (nth l n).older → (nth (stamp_slots l n t) d).high ≡ (nth l d).high
  unfolding l' o
  stamp-high_other d e =
      both (λ q. (nth q d).high ≡ (nth l d).high) refl
      (ap (λ (v : Slot). v.high) (change-other l_l o f_h d e) ∙ change-part (λ v. v.high) l n f_l (λ v. refl) d)

  pub stamp-high_own : (nth l n).low ≡ absent → (nth l n).older < length l → (nth (stamp_slots l n t) (nth l n).older).high ≡ t
  unfolding l' o
  stamp-high_own e x =
      ap (λ (q : List Slot). (nth q o).high) (is e)
      ∙ ap (λ (v : Slot). v.high) (change-same l_l o f_h (subst (λ (k : ℕ). o < k) (sym (change-length l n f_l)) x))

------------------------------------------------------------------------
-- Linking slot f in front of slot c

module _ (l : List Slot) (c f : ℕ) (x : Reading) where
  abbrev f_f : Slot → Slot
  f_f v = set_newer v f

  abbrev new : Slot
  new = record { value = some x; low = absent; high = absent; older = c; newer = absent }

  pub link_length : length (link_slots l c f x) ≡ length l
  unfolding link_slots
  link_length = length-set (change l c f_f) f new ∙ change-length l c f_f

  pub link_new : f < length l → nth (link_slots l c f x) f ≡ record { value = some x; low = absent; high = absent; older = c; newer = absent }
  unfolding link_slots
  link_new h = get_or-set_same (change l c f_f) f new slot₀ (subst (λ (k : ℕ). f < k) (sym (change-length l c f_f)) h)

  pub link_part : {A : Type 0} (π : Slot → A) → ((v : Slot) (y : ℕ) → π (set_newer v y) ≡ π v) → (d : ℕ) → d ≢ f
      → π (nth (link_slots l c f x) d) ≡ π (nth l d)
  unfolding link_slots
  link_part π k d n = ap π (get_or-set_other (change l c f_f) f d new slot₀ n) ∙ change-part π l c f_f (λ v. k v f) d

  pub link_newer_own : c ≢ f → c < length l → (nth (link_slots l c f x) c).newer ≡ f
  unfolding link_slots
  link_newer_own n h =
      ap (λ (v : Slot). v.newer) (get_or-set_other (change l c f_f) f c new slot₀ n) ∙ ap (λ (v : Slot). v.newer) (change-same l c f_f h)

  pub link_newer_other : (d : ℕ) → d ≢ f → d ≢ c → (nth (link_slots l c f x) d).newer ≡ (nth l d).newer
  unfolding link_slots
  link_newer_other d n m =
      ap (λ (v : Slot). v.newer) (get_or-set_other (change l c f_f) f d new slot₀ n) ∙ ap (λ (v : Slot). v.newer) (change-other l c f_f d m)

------------------------------------------------------------------------
-- Unlinking slot c

module _ (l : List Slot) (c : ℕ) where
  abbrev oc : ℕ
  oc = (nth l c).older

  abbrev nc : ℕ
  nc = (nth l c).newer

  abbrev f_n : Slot → Slot
  f_n v = set_newer v nc

  abbrev f_o : Slot → Slot
  f_o v = set_older v oc

  abbrev l_n : List Slot
  l_n = change l oc f_n

  abbrev l_o : List Slot
  l_o = change l_n nc f_o

  l_o_length : length l_o ≡ length l
  l_o_length = change-length l_n nc f_o ∙ change-length l oc f_n

  pub unlink_length : length (unlink_slots l c) ≡ length l
  unfolding unlink_slots
  unlink_length = change-length l_o c alone ∙ l_o_length

  -- every slot but c
  off_c : (d : ℕ) → d ≢ c → nth (unlink_slots l c) d ≡ nth l_o d
  unfolding unlink_slots
  off_c d n = change-other l_o c alone d n

  pub unlink_own : c < length l → ((nth (unlink_slots l c) c).older ≡ absent) × ((nth (unlink_slots l c) c).newer ≡ absent)
  unfolding unlink_slots
  unlink_own h =
      let e = change-same l_o c alone (subst (λ (k : ℕ). c < k) (sym l_o_length) h) in (ap (λ (v : Slot). v.older) e, ap (λ (v : Slot). v.newer) e)

  pub unlink_part : {A : Type 0} (π : Slot → A) → ((v : Slot) (x : ℕ) → π (set_newer v x) ≡ π v) → ((v : Slot) (x : ℕ) → π (set_older v x) ≡ π v)
      → (d : ℕ) → π (nth (unlink_slots l c) d) ≡ π (nth l d)
  unfolding unlink_slots
  unlink_part π a b d =
      change-part π l_o c alone (λ v. b (set_newer v absent) absent ∙ a v absent) d
      ∙ change-part π l_n nc f_o (λ v. b v oc) d
      ∙ change-part π l oc f_n (λ v. a v nc) d

  pub unlink_older_own : (nth l c).newer ≢ c → (nth l c).newer < length l → (nth (unlink_slots l c) (nth l c).newer).older ≡ (nth l c).older
  unlink_older_own m h =
      ap (λ (v : Slot). v.older) (off_c nc m ∙ change-same l_n nc f_o (subst (λ (k : ℕ). (nth l c).newer < k) (sym (change-length l oc f_n)) h))

  pub unlink_older_other : (d : ℕ) → d ≢ c → d ≢ (nth l c).newer → (nth (unlink_slots l c) d).older ≡ (nth l d).older
  unlink_older_other d m n = ap (λ (v : Slot). v.older) (off_c d m ∙ change-other l_n nc f_o d n) ∙ change-part (λ v. v.older) l oc f_n (λ v. refl) d

  pub unlink_newer_own : (nth l c).older ≢ c → (nth l c).older < length l → (nth (unlink_slots l c) (nth l c).older).newer ≡ (nth l c).newer
  unlink_newer_own m h =
      ap (λ (v : Slot). v.newer) (off_c oc m)
      ∙ change-part (λ v. v.newer) l_n nc f_o (λ v. refl) (nth l c).older
      ∙ ap (λ (v : Slot). v.newer) (change-same l oc f_n h)

  pub unlink_newer_other : (d : ℕ) → d ≢ c → d ≢ (nth l c).older → (nth (unlink_slots l c) d).newer ≡ (nth l d).newer
  unlink_newer_other d m n =
      ap (λ (v : Slot). v.newer) (off_c d m)
      ∙ change-part (λ v. v.newer) l_n nc f_o (λ v. refl) d
      ∙ ap (λ (v : Slot). v.newer) (change-other l oc f_n d n)
