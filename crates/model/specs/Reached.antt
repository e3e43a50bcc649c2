-- What holds of every hub that records leave, besides demand 3: the bounds that memory is sized by (H6.24), and refusal 14 as H7 words it.
-- Proved in theorem/proofs/Reached.antt from the invariant of Invariant.antt beside it.
use Rattle.std.specs.Prelude.{◌≡◌, true, cond, ◌⊎◌, ◌↔◌, List, [], ◌∷◌, ℕ, zero, suc, ◌+◌, ◌*◌, ◌-◌, ◌≤◌, ◌<◌, ltb, length}
use Rattle.model.specs.Totals.{group_of, row_at, of_group, follow}
use Rattle.model.specs.Store.{absent, mark_count, last_clock, Reading, Purpose, Single, Marked, Totaling, PutPublish, Worker, Lent}
use Rattle.model.specs.Store.{Store, Hub, blank, up, worker_at, slot_at, newest_of, mark_at}
use Rattle.model.specs.About.{Hand, Empty, Covered, Merged, Needless, about}
use Rattle.model.specs.Rules.{Rules, twelve_digits, Allowed, Ruled}
use Rattle.model.specs.Answer.{Ok, No}
use Rattle.model.specs.Steps.{step_at}
use Rattle.model.specs.Apply.{apply_ruled}
use Rattle.model.specs.Demand.{Event, events, occurrences, All}

-- the sum of f over a list
unfoldable pub sum_by {ℓ} : {A : Type ℓ} → (A → ℕ) → List A → ℕ
sum_by f [] = 0
sum_by f (x ∷ l) = f x + sum_by f l

------------------------------------------------------------------------
-- Bounds

-- how many versions a place has in hand
abbrev pub in_hand : Hand → ℕ
in_hand Empty = 0
in_hand (Covered c) = 1
in_hand (Merged m ts) = length m
in_hand (Needless m) = length m

-- how many versions a worker holds
abbrev pub versions_held : Worker → ℕ
versions_held x = in_hand (about x.doing).hand + length x.pool

-- H12.11: a total is at a row of its group, and its sums are of at most 31 values, none with more than twelve digits
abbrev pub TotalFits : List ℕ → Purpose → Type 0
TotalFits rows Single = Unit {0}
TotalFits rows (Marked m) = Unit {0}
TotalFits rows (Totaling g i y) =
    (i < length rows) × (group_of (row_at rows i) ≡ g) × (y.plus + y.minus ≤ 31 * twelve_digits)

-- H13.2: a flush has read the times of at most P workers, or of all of them and of all marks
abbrev pub TimesFit : Store → Hand → Type 0
TimesFit s Empty = Unit {0}
TimesFit s (Covered c) = Unit {0}
TimesFit s (Merged m ts) = (length ts ≤ s.site.P) ⊎ (length ts ≡ s.site.P + mark_count)
TimesFit s (Needless m) = Unit {0}

pub record Bounds (s : Store) : Type 0 where
  -- H1.1 to H1.4: the sizes and the clock
  pub workers : (1 ≤ s.site.P) × (s.site.P ≤ 16) × (length s.workers ≡ s.site.P)
  pub registers : (1 ≤ s.site.V') × (s.site.V' ≤ 256) × (length s.newest ≡ s.site.V')
  pub slots : (s.site.V' ≤ s.site.N) × (s.site.N ≤ 2048) × (length s.slots ≡ s.site.N)
  pub clock : s.clock ≤ last_clock
  -- H1.19: B is from 1 to 64,
  pub batch : (1 ≤ s.site.B) × (s.site.B ≤ 64)
  -- and a local pool holds at most B
  pub local : All (λ x. length x.pool ≤ s.site.B) s.workers
  -- a merged list, and what is left of it to free, has at most 4B
  pub merged : All (λ x. in_hand (about x.doing).hand ≤ 4 * s.site.B) s.workers
  -- a queued pool has 1 to 2B
  pub queued : All (λ l. (1 ≤ length l) × (length l ≤ 2 * s.site.B)) s.queue
  -- the times that it has read
  pub times : All (λ x. TimesFit s (about x.doing).hand) s.workers
  -- H13.1: there are twelve marks, and each is empty or holds a time that the clock has passed
  pub marks : (length s.marks ≡ mark_count) × ((m : ℕ) → m < mark_count → (mark_at s m ≡ absent) ⊎ (mark_at s m < s.clock))
  -- the versions in pools, merged lists and puts, the free slots and the newest versions together are N
  pub total : sum_by versions_held s.workers + sum_by length s.queue + (length s.free + s.site.V') ≡ s.site.N
  -- so many pools at the most
  pub pools : length s.queue ≤ s.site.N - s.site.V'
  -- H12.2, H12.11: the rows of totals are those of a list that a setup accepts, at most 32 of a group and 1,024 in all
  pub rows : (follow s.site.V' 0 0 s.site.rows ≡ true) × (length s.site.rows ≤ 1024)
  pub group : (g : ℕ) → length (of_group g s.site.rows) ≤ 32
  -- H12.11: so no sum goes beyond 64 bits
  pub totals : All (λ x. TotalFits s.site.rows (about x.doing).purpose) s.workers

------------------------------------------------------------------------
-- Refusal 14

-- the slots from c on, each the older neighbour of the one before, n at the most
unfoldable pub list_from : Store → ℕ → ℕ → List ℕ
list_from s zero c = []
list_from s (suc n) c = cond (ltb c s.site.N) (c ∷ list_from s n (slot_at s c).older) []

-- H1.11: register r's list, newest version first
unfoldable pub register_list : Store → ℕ → List ℕ
register_list s r = list_from s s.site.N (newest_of s r)

-- every slot below N is in the list of some register
abbrev pub EverySlotListed : Store → Type 0
EverySlotListed s = (c : ℕ) → c < s.site.N → (r : ℕ) × (r < s.site.V') × (0 < occurrences c (register_list s r))

-- H7: a put's first step gets 14 just where every slot is in some register's list
abbrev pub Refuses14 : Store → Type 0
Refuses14 s =
    (w r : ℕ) (x : Reading) → (worker_at s w).doing ≡ PutPublish r x
    → (step_at s w (PutPublish r x)).answer ≡ No 14 ↔ EverySlotListed s

------------------------------------------------------------------------
-- The statement

-- a store whose setup was handed in under the rules given
pub record SoundStore (rules : Rules) (s : Store) : Type 0 where
  -- B is what these rules give for its workers
  pub batch : s.site.B ≡ rules.batch s.site.P
  pub bounds : Bounds s
  pub refuses14 : Refuses14 s

abbrev pub SoundHub : Rules → Hub → Type 0
SoundHub rules (blank row) = ⊥
SoundHub rules (up s) = SoundStore rules s

-- every record meets and leaves such a hub
abbrev pub Throughout : (Hub → Type 0) → List Event → Type 0
Throughout Q es = All (λ e. Q e.before × Q e.after) es

-- After every accepted setup whose rules are allowed, every record of every list meets and leaves a sound hub, whatever the rules of the records:
-- only a setup looks at the batch size.
abbrev pub Sound : Type 0
Sound =
    (row : Lent) (setup : Ruled) → Allowed setup.rules → (apply_ruled (blank row) setup).answer ≡ Ok
    → (records : List Ruled) → Throughout (SoundHub setup.rules) (events (apply_ruled (blank row) setup).hub records)
