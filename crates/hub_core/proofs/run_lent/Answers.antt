-- `run_lent` meets its contract. The invariant is `SoFar` (Loop.antt): the records so far have done what the definition says. Each arm of the loop is
-- a law there.
use Rattle.std.specs.Prelude.{ℕ, ◌%◌, length}
use mathlib.Core.Path.{refl, ap, ◌∙◌}
use native.Mathlib.Omega.{arith}
use borrow.Author.Rules.{rules}
use lib.ListN.{length-map}
use Rattle.lists.proofs.Mapped.{length-mapped}
use Rattle.versions.specs.Versions.{row_of}
use Rattle.turns.specs.declared.Arm.TheVariants.{Says, Sets, Times}
use Rattle.turns.specs.Parts.{parts}
use Rattle.hub_core.proofs.Loop.{begun, ended, on_arm, on_makes, on_reads, on_hands_in, on_splits, on_moves, replaced}
use Rattle.hub_core.proofs.run_lent.Goals as goal

pub loop-k-init : goal.loop-k-init
loop-k-init c = (begun c.requires.3, search (rules, length-mapped))

pub record_at-rec-requires : goal.record_at-rec-requires
record_at-rec-requires c = omega (arith, c.loop-k-test.true, c.requires.4)

pub bounds-rec-1 : goal.bounds-rec-1
bounds-rec-1 c = omega (arith, c.record_at-rec.ensures.1)

pub put_answer-last-requires : goal.put_answer-last-requires
put_answer-last-requires c =
    let i = c.loop-k.invariant in
    let p = c.requires in
    (omega (arith, c.loop-k-test.true, p.1), omega (arith, c.loop-k-test.true, p.2))

pub overflow_add-k : goal.overflow_add-k
overflow_add-k c = omega (arith, c.loop-k-test.true, c.ranges)

pub loop-k-preserved-in-Says : goal.loop-k-preserved-in-Says
loop-k-preserved-in-Says c =
    let l = c.loop-k in
    let e = c.put_answer-last.ensures in (
      on_arm c.args.fixed c.requires.0 c.args.list.now c.args.rows.now c.args.rights.now refl l.workers
          (parts (row_of l.row) l.lent l.running) l.kinds
          l.numbers l.last l.invariant.0 c.loop-k-test.true _ c.record_at-rec.ensures.0 _
          (ap (λ (j : ℕ). j % 16) c.from-w.ensures) _ _ c.take_turn-t.ensures _ _ _
          (e.value, (e.kinds_after, e.numbers_after)) Says refl c.in-Says.is,
      l.invariant.1,
    )

pub loop-k-preserved-in-Sets : goal.loop-k-preserved-in-Sets
loop-k-preserved-in-Sets c =
    let l = c.loop-k in
    let e = c.put_answer-last.ensures in (
      on_arm c.args.fixed c.requires.0 c.args.list.now c.args.rows.now c.args.rights.now refl l.workers
          (parts (row_of l.row) l.lent l.running) l.kinds
          l.numbers l.last l.invariant.0 c.loop-k-test.true _ c.record_at-rec.ensures.0 _
          (ap (λ (j : ℕ). j % 16) c.from-w.ensures) _ _ c.take_turn-t.ensures _ _ _
          (e.value, (e.kinds_after, e.numbers_after)) Sets refl c.in-Sets.is,
      replaced l.workers _ _ l.invariant.1,
    )

pub loop-k-preserved-in-Times : goal.loop-k-preserved-in-Times
loop-k-preserved-in-Times c =
    let l = c.loop-k in
    let e = c.put_answer-last.ensures in (
      on_arm c.args.fixed c.requires.0 c.args.list.now c.args.rows.now c.args.rights.now refl l.workers
          (parts (row_of l.row) l.lent l.running) l.kinds
          l.numbers l.last l.invariant.0 c.loop-k-test.true _ c.record_at-rec.ensures.0 _
          (ap (λ (j : ℕ). j % 16) c.from-w.ensures) _ _ c.take_turn-t.ensures _ _ _
          (e.value, (e.kinds_after, e.numbers_after)) Times refl c.in-Times.is,
      replaced l.workers _ _ l.invariant.1,
    )

pub keep_time-requires : goal.keep_time-requires
keep_time-requires c = (omega arith, omega arith)

pub loop-k-preserved-in-Reads : goal.loop-k-preserved-in-Reads
loop-k-preserved-in-Reads c =
    let l = c.loop-k in
    let e = c.put_answer-last.ensures in (
      on_reads c.args.fixed c.requires.0 c.args.list.now c.args.rows.now c.args.rights.now refl l.workers
          (parts (row_of l.row) l.lent l.running) l.kinds
          l.numbers l.last l.invariant.0 c.loop-k-test.true _ c.record_at-rec.ensures.0 _
          (ap (λ (j : ℕ). j % 16) c.from-w.ensures) _ _ c.take_turn-t.ensures _ _ _
          (e.value, (e.kinds_after, e.numbers_after)) _ _ _
          c.in-Reads.is c.from-j.ensures refl c.keep_time.ensures,
      replaced l.workers _ _ l.invariant.1,
    )

pub returns-in-Makes : goal.returns-in-Makes
returns-in-Makes c =
    let l = c.loop-k in
    let e = c.put_answer-last.ensures in
    on_makes c.args.fixed c.requires.0 c.args.list.now c.args.rows.now c.args.rights.now refl l.workers
    (parts (row_of l.row) l.lent l.running) l.kinds
    l.numbers l.last l.invariant.0 c.loop-k-test.true _ c.record_at-rec.ensures.0 _
    (ap (λ (j : ℕ). j % 16) c.from-w.ensures) _ _ c.take_turn-t.ensures _ _ _
    (e.value, (e.kinds_after, e.numbers_after)) c.in-Makes.is

pub loop-k-preserved-in-HandsIn : goal.loop-k-preserved-in-HandsIn
loop-k-preserved-in-HandsIn c =
    let l = c.loop-k in
    let e = c.put_answer-last.ensures in (
      on_hands_in c.args.fixed c.requires.0 c.args.list.now c.args.rows.now c.args.rights.now refl l.workers
          (parts (row_of l.row) l.lent l.running) l.kinds
          l.numbers l.last l.invariant.0 c.loop-k-test.true _ c.record_at-rec.ensures.0 _
          (ap (λ (j : ℕ). j % 16) c.from-w.ensures) _ _ c.take_turn-t.ensures _ _ _
          (e.value, (e.kinds_after, e.numbers_after)) _ c.in-HandsIn.is c.handed.ensures,
      replaced l.workers _ _ l.invariant.1,
    )

pub loop-k-preserved-in-Splits : goal.loop-k-preserved-in-Splits
loop-k-preserved-in-Splits c =
    let l = c.loop-k in
    let e = c.put_answer-last.ensures in
    let f = c.flush_split-f in (
      on_splits c.args.fixed c.requires.0 c.args.list.now c.args.rows.now c.args.rights.now refl l.workers
          (parts (row_of l.row) l.lent l.running) l.kinds
          l.numbers l.last l.invariant.0 c.loop-k-test.true _ c.record_at-rec.ensures.0 _
          (ap (λ (j : ℕ). j % 16) c.from-w.ensures) _ _ c.take_turn-t.ensures _ _ _
          (e.value, (e.kinds_after, e.numbers_after)) _ _ _ _ _ _
          c.in-Splits.is c.from.ensures f.ensures.left_value f.ensures.window_after f.ensures.merged_after,
      replaced l.workers _ _ l.invariant.1,
    )

pub loop-k-preserved : goal.loop-k-preserved
loop-k-preserved c =
    let l = c.loop-k in
    let e = c.put_answer-last.ensures in (
      on_moves c.args.fixed c.requires.0 c.args.list.now c.args.rows.now c.args.rights.now refl l.workers
          (parts (row_of l.row) l.lent l.running) l.kinds
          l.numbers l.last l.invariant.0 c.loop-k-test.true _ c.record_at-rec.ensures.0 _
          (ap (λ (j : ℕ). j % 16) c.from-w.ensures) _ _ c.take_turn-t.ensures _ _ _
          (e.value, (e.kinds_after, e.numbers_after)) _ c.in-Moves.is c.move_off.ensures,
      ap length c.move_off.ensures ∙ length-map _ _ ∙ replaced l.workers _ _ l.invariant.1,
    )

pub returns : goal.returns
returns c = ended c.loop-k.invariant.0 c.loop-k-test.false
