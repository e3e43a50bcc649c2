-- The stretches of the records between setups: what holds before each, and that it still holds behind one, with the setup at its end or without.
use Rattle.std.specs.Prelude.{◌≡◌, ℕ, ◌+◌, ◌-◌, ◌*◌, ◌/◌, ◌<◌, ◌≤◌, min, Bool, true, Option, Some, None, List, length, set}
use mathlib.Core.Path.{refl, sym, ap, ◌∙◌, subst}
use native.Mathlib.Numerals.{add-one}
use borrow.Author.Tests.{lt-ltb}
use native.Mathlib.Omega.{arith}
use lib.ListN.{length-map, length-set}
use Rattle.model.specs.Rules.{Given}
use Rattle.values.specs.declared.Answer.{Answer}
use Rattle.values.specs.declared.Answer.TheVariants.{Ok, No}
use Rattle.answers.specs.declared.Said.{Said}
use Rattle.answers.specs.Said.{said_of}
use Rattle.model.specs.Record.{decode}
use Rattle.decision.specs.Decision.{gate_of}
use Rattle.slots.specs.declared.Slot.{Slot}
use Rattle.slots.specs.Slots.{linked_to, made_to}
use Rattle.arrays.specs.Arrays.{short, fill_to}
use Rattle.versions.specs.Versions.{slot_in, row_of}
use Rattle.state.specs.declared.Site.{Site}
use Rattle.state.specs.declared.Hub.{Hub}
use Rattle.state.specs.declared.Lent.{Lent}
use Rattle.state.specs.State.{fresh_hub, site_made}
use Rattle.ready.specs.Ready.{ready_of}
use Rattle.turns.specs.declared.Sizes.{Sizes}
use Rattle.simulation.specs.Memory.{Memory, memory}
use Rattle.simulation.specs.Lent.{lent_memory}
use Rattle.simulation.specs.Left.{ready}
use Rattle.simulation.specs.Shell.{set_up_in, obey_in, done_as}
use Rattle.simulation.specs.Records.{record_at}
use Rattle.simulation.specs.Loop.{State, next, after, before, Ran}
use Rattle.hub_core.specs.Stretch.{state_with, made_after, few_made, Went, RestRefused}
use Rattle.hub_core.proofs.Cutting.{rest-short}
use Rattle.hub_core.proofs.Loop.{or_false}

------------------------------------------------------------------------
-- A stretch on a hub by value

-- where the number of slots is known, the states are
pub at_site : {given : Given} {bytes : List ℕ} {from count at : ℕ} {made : Option Sizes} {s t : ℕ → State} {s' t' : State} (n : ℕ)
    → Went given bytes from count at made s t → s n ≡ s' → t n ≡ t' → Went given bytes from count at made (λ _. s') (λ _. t')
at_site {given = given} {made = made} n W es et =
    record {
      inside = W.inside;
      onward = W.onward;
      few = W.few;
      state = λ S i e. ap (made_after made given) (sym et) ∙ W.state S n (es ∙ e);
    }

------------------------------------------------------------------------
-- All stretches

-- the records before k are applied, from the state S on, and T is the state now
pub record Reached (S : State) (given : Given) (bytes : List ℕ) (count k : ℕ) (T : State) : Type 0 where
  pub inside : k ≤ count
  pub state : T ≡ after S given bytes k
  -- memory that counts as set up has at most sixteen workers
  pub few : T.up ≡ true → T.memory.hub.site.p ≤ 16

module _ {S : State} {given : Given} {bytes : List ℕ} {count k at : ℕ} {s t : State} (R : Reached S given bytes count k s) where
  -- a stretch that ended with the last record
  pub went_on : (made : Option Sizes) → Went given bytes k count at made (λ _. s) (λ _. t) → made ≡ None → s.up ≡ t.up
      → t.memory.hub.site ≡ s.memory.hub.site → Reached S given bytes count at t
  went_on made W e eu ep =
      record {
        inside = W.inside;
        state = ap (λ (o : Option Sizes). made_after o given t) (sym e) ∙ W.state S 0 R.state;
        few = λ u. subst (λ (x : Site). x.p ≤ 16) (sym ep) (R.few (eu ∙ u));
      }

  -- and one that ended with a setup, once that is carried out
  pub went_up : (made : Option Sizes) → Went given bytes k count at made (λ _. s) (λ _. t) → (z : Sizes) → made ≡ Some z → (h : Hub) (slots : List Slot)
      (m : Lent) → h ≡ fresh_hub (site_made t.memory.hub given.totals z.p z.v z.n) z.clock → slots ≡ made_to t.memory.slots z.v z.n
      → m.newest ≡ fill_to t.memory.newest short z.v → m.free ≡ fill_to t.memory.free (λ j. short (z.n - 1 - j)) h.free
      → (m.queue ≡ t.memory.queue) × (m.lens ≡ t.memory.lens) × (m.merged ≡ t.memory.merged)
      → Reached S given bytes count at (state_with true (lent_memory h slots m) t.kinds t.numbers t.last)
  unfolding set_up_in
  went_up made W z e h slots m eh es en ef (eq, el, em) =
      let all : m.free ≡ fill_to t.memory.free (λ j. short (z.n - 1 - j)) (z.n - z.v) =
      ef ∙ ap (λ (y : Hub). fill_to t.memory.free (λ j. short (z.n - 1 - j)) y.free) eh in
      record {
        inside = W.inside;
        state =
            (λ i. state_with true (memory (eh i) (es i) (en i) (all i) (eq i) (el i) (em i)) t.kinds t.numbers
            t.last)
            ∙ ap (λ (o : Option Sizes). made_after o given t) (sym e)
            ∙ W.state S 0 R.state;
        few = λ u. subst (λ (y : Hub). y.site.p ≤ 16) (sym eh) (subst few_made e W.few);
      }

------------------------------------------------------------------------
-- Behind the whole records

-- as many whole records as the bytes have, of at most so many
pub whole_fits : (n most whole : ℕ) → whole ≡ min (n / 16) most → 16 * whole ≤ n
whole_fits n most whole e = omega (arith, e)

pub whole_short : (bytes : List ℕ) (most whole : ℕ) → whole ≡ min (length bytes / 16) most → whole < most → length bytes < 16 * whole + 16
whole_short bytes most whole e h = omega (arith, e, h)

-- a record of fewer than sixteen bytes gets 6 and changes nothing
short-refused : (up : Bool) (m : Memory) (kinds numbers : List ℕ) (last : Answer) (given : Given) (k : ℕ) (b : List ℕ) → length b < 16
    → next (state_with up m kinds numbers last) given k b ≡ state_with up m (set kinds k 6) (set numbers k 6) (No 6)
unfolding next done_as gate_of obey_in decode
short-refused up m kinds numbers last given k b h = rw (lt-ltb (length b) 16 h, or_false up)

-- the records from `from` on met these rows of answers, and `first` before them; those before k left these
pub record Refusing (from k count : ℕ) (kinds numbers : List ℕ) (first : Answer) (kinds' numbers' : List ℕ) (last : Answer) : Type 0 where
  pub onward : from ≤ k
  pub inside : k ≤ count
  pub rest : RestRefused from k kinds numbers first kinds' numbers' last
  pub kinds_long : length kinds' ≡ length kinds
  pub numbers_long : length numbers' ≡ length numbers

pub refuse-none : {from count : ℕ} {kinds numbers : List ℕ} {first : Answer} → from ≤ count → Refusing from from count kinds numbers first kinds numbers first
refuse-none h =
    record { onward = omega arith; inside = h; rest = record { state = λ S given bytes up m s e. e }; kinds_long = refl; numbers_long = refl }

pub refuse-one : {from k count : ℕ} {kinds numbers kinds' numbers' : List ℕ} {first last : Answer} {kinds'' numbers'' : List ℕ} {y : Said} {z : Answer}
    → Refusing from k count kinds numbers first kinds' numbers' last → k < count → y ≡ said_of (No 6)
    → (z ≡ y.answer) × ((kinds'' ≡ set kinds' k y.kind) × (numbers'' ≡ set numbers' k y.number))
    → Refusing from (k + 1) count kinds numbers first kinds'' numbers'' z
unfolding after
refuse-one {k = k} {kinds' = kinds'} {numbers' = numbers'} {last = last} {y = y} R more ey (ea, (ek, en)) =
    record {
      onward = let h = R.onward in omega arith;
      inside = omega arith;
      rest =
          record {
            state = λ S given bytes up m s e.
                let h = R.onward in
                rw (add-one k)
                ((λ i. state_with up m (ek i) (en i) (ea i))
                ∙ ap (λ (q : Said). state_with up m (set kinds' k q.kind) (set numbers' k q.number) q.answer) ey
                ∙ sym (short-refused up m kinds' numbers' last given k (record_at bytes k) (rest-short bytes k (let q = s (omega arith) in omega arith)))
                ∙ ap (λ (q : State). next q given k (record_at bytes k)) (R.rest.state S given bytes up m (λ f. s (omega arith)) e));
          };
      kinds_long = ap length ek ∙ length-set kinds' k y.kind ∙ R.kinds_long;
      numbers_long = ap length en ∙ length-set numbers' k y.number ∙ R.numbers_long;
    }

pub refuse-all : {from k count : ℕ} {kinds numbers kinds' numbers' : List ℕ} {first last : Answer}
    → Refusing from k count kinds numbers first kinds' numbers' last → count ≤ k → RestRefused from count kinds numbers first kinds' numbers' last
refuse-all {from = from} {kinds = kinds} {numbers = numbers} {kinds' = kinds'} {numbers' = numbers'} {first = first} {last = last} R h =
    let i = R.inside in
    subst (λ (k : ℕ). RestRefused from k kinds numbers first kinds' numbers' last) (omega arith) R.rest

------------------------------------------------------------------------
-- The test before the first record, and the end

pub ready-is : (h : Hub) (row : List (List ℕ)) (l : Lent) (up linked : Bool)
    → linked ≡ linked_to (row_of row) h.site.n h.site.n → up ≡ ready_of h l.newest l.free l.queue l.lens l.merged linked (length row)
    → up ≡ ready (lent_memory h (row_of row) l)
unfolding ready
ready-is h row l up linked ek eu =
    eu ∙ (λ i. ready_of h l.newest l.free l.queue l.lens l.merged (ek i) (sym (length-map row slot_in) i))

-- all records are applied: the whole ones, and those behind them are refused
pub finished : (m : Memory) (given : Given) (bytes kinds numbers : List ℕ) (count most whole k : ℕ) (up : Bool) (T : State) (kinds' numbers' : List ℕ)
    (last : Answer) → Reached (state_with up m kinds numbers Ok) given bytes whole k T → whole ≤ k
    → RestRefused whole most T.kinds T.numbers T.last kinds' numbers' last → (whole < most → length bytes < 16 * whole + 16)
    → most ≡ count → up ≡ ready m → Ran m given bytes kinds numbers count T.memory kinds' numbers' last
finished m given bytes kinds numbers count most whole k up T kinds' numbers' last R all Q short cut tested =
    let i = R.inside in
    let S = state_with up m kinds numbers Ok in
    let at : k ≡ whole = omega arith in
    let t : T ≡ after S given bytes whole = R.state ∙ ap (after S given bytes) at in
    let e : state_with T.up T.memory kinds' numbers' last ≡ after (before m kinds numbers) given bytes count =
    Q.state S given bytes T.up T.memory short t ∙ (λ j. after (state_with (tested j) m kinds numbers Ok) given bytes (cut j)) in
    record {
      memory = ap (λ (s : State). s.memory) e;
      answer_kinds = ap (λ (s : State). s.kinds) e;
      answer_numbers = ap (λ (s : State). s.numbers) e;
      last = ap (λ (s : State). s.last) e;
    }
