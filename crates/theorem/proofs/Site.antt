-- The site never changes.
use mathlib.Core.Path.{◌≡◌, refl}
use mathlib.Core.List.{List, [], ◌∷◌}
use Prim.Native.Nat.{ℕ}
use lib.Dec.{leb, eqb}
use lib.ListN.{length}
use Rattle.model.specs.Store.{absent, last_clock, Reading, Range, OpenAnnounce, OpenPass, CloseWithdraw, MarkKeep, MarkRelease, Doing}
use Rattle.model.specs.Store.{Idle, PutPublish, PutStamp, PutHandIn, FlushTake, FlushRead, FlushFree, OnTime, ReadEnter, ReadStand}
use Rattle.model.specs.Store.{GetShow, Store, worker_at, slot_at}
use Rattle.model.specs.Marks.{time_for}
use Rattle.model.specs.Answer.{Stepped}
use Rattle.model.specs.Versions.{stamp}
use Rattle.model.specs.Steps.{put_publish, put_stamp, put_hand_in, flush_take, flush_split, flush_read, flush_free, open_announce, open_pass}
use Rattle.model.specs.Steps.{read_enter, read_stand, get_show, close_withdraw, mark_keep, mark_release, time_step, step_at}
use Rattle.model.proofs.Basic.{cond_both}
use Rattle.theorem.proofs.Found.{found-by, stopped_by_lem}

abbrev pub SameSite : Store → Store → Type 0
SameSite s t = t.site ≡ s.site

put-site : (s : Store) (w r : ℕ) (x : Reading) (l : List ℕ) → SameSite s (put_publish s w r x l).store
unfolding put_publish stamp
put-site s w r x [] = refl
put-site s w r x (f ∷ l) = refl

free_site : (s : Store) (w : ℕ) (m : List Range) → SameSite s (flush_free s w m).store
unfolding flush_free
free_site s w [] = refl
free_site s w (ρ ∷ m) = refl

pub step-site : (s : Store) (w : ℕ) (d : Doing) → SameSite s (step_at s w d).store
unfolding step_at time_step put_stamp put_hand_in flush_take flush_read flush_split open_announce open_pass read_enter read_stand get_show close_withdraw mark_keep mark_release stamp
step-site s w Idle = refl
step-site s w (PutPublish r x) = put-site s w r x s.free
step-site s w (PutStamp r c) = cond_both (SameSite s) (eqb (slot_at s c).high absent) (stamp s r) s (λ u. refl) (λ u. refl)
step-site s w (PutHandIn r c) = refl
step-site s w FlushTake = refl
step-site s w (FlushRead m ts) = cond_both (λ (q : Stepped). SameSite s q.store) (leb (length ts) s.site.P) _ _ (λ u. refl) (λ u. refl)
step-site s w (FlushFree m) = free_site s w m
step-site s w (OnTime OpenAnnounce) = cond_both (λ (q : Stepped). SameSite s q.store) (eqb s.clock last_clock) _ _ (λ u. refl) (λ u. refl)
step-site s w (OnTime OpenPass) = refl
step-site s w (ReadEnter g) = stopped_by_lem (λ (q : Stepped). SameSite s q.store) _ s w _ (λ k e. refl) (λ e. refl)
step-site s w (ReadStand g c) =
    cond_both (λ (q : Stepped). SameSite s q.store) (leb (slot_at s c).low (time_for s.marks (worker_at s w).announced g.purpose)) _ _
    (λ u. found-by (λ (q : Stepped). SameSite s q.store) s w g.purpose (slot_at s c).value (λ a T. refl) refl (λ g'. refl)) (λ u. refl)
step-site s w (OnTime CloseWithdraw) = refl
step-site s w (OnTime (MarkKeep m)) = stopped_by_lem (λ (q : Stepped). SameSite s q.store) _ s w _ (λ k e. refl) (λ e. refl)
step-site s w (OnTime (MarkRelease m)) = stopped_by_lem (λ (q : Stepped). SameSite s q.store) _ s w _ (λ k e. refl) (λ e. refl)
step-site s w (GetShow r) = refl
