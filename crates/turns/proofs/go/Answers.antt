-- `go` meets its contract: by what is known of the step, each by its law (Going.antt).
use borrow.Author.Rules.{rules}
use Rattle.versions.specs.Versions.{row_of}
use Rattle.turns.specs.Parts.{parts}
use Rattle.turns.proofs.Going.{some_left, on_taken, on_hand_in, on_take, on_read, on_read_marks, on_split, on_free, on_mark_lem}
use Rattle.turns.proofs.go.Goals as goal

pub free_one-requires : goal.free_one-requires
free_one-requires c =
    (search rules, some_left _ _ _ _ _ _ _ _ _ _ _ c.step-s.ensures c.in-Free.is)

pub returns-in-Taken : goal.returns-in-Taken
returns-in-Taken c =
    let a = c.args in
    on_taken a.fixed a.w a.x.now.doing a.x.now.announced a.x.now.pool.len a.rows.now (parts (row_of a.row.now) a.lent.now a.running.now) _ _ _
    (rw (c.counting.ensures.same, c.counting-2.ensures.same) at c.step-s.ensures) _ c.in-Taken.is (c.taken.ensures.value, c.taken.ensures.running_after)

pub returns-in-HandIn : goal.returns-in-HandIn
returns-in-HandIn c =
    let a = c.args in
    on_hand_in a.fixed a.w a.x.now.doing a.x.now.announced a.x.now.pool.len a.rows.now (parts (row_of a.row.now) a.lent.now a.running.now) _ _ _
    (rw (c.counting.ensures.same, c.counting-2.ensures.same) at c.step-s.ensures) _ c.in-HandIn.is c.hand_in.ensures

pub returns-in-Take : goal.returns-in-Take
returns-in-Take c =
    let a = c.args in
    on_take a.fixed a.w a.x.now.doing a.x.now.announced a.x.now.pool.len a.rows.now (parts (row_of a.row.now) a.lent.now a.running.now) _ _ _
    (rw (c.counting.ensures.same, c.counting-2.ensures.same) at c.step-s.ensures) c.in-Take.is c.take.ensures.value c.take.ensures.pools_after c.take.ensures.running_after c.take.ensures.merged_after
    c.take.ensures.lent_kept

pub returns-in-Read : goal.returns-in-Read
returns-in-Read c =
    let a = c.args in
    on_read a.fixed a.w a.x.now.doing a.x.now.announced a.x.now.pool.len a.rows.now (parts (row_of a.row.now) a.lent.now a.running.now) _ _ _
    (rw (c.counting.ensures.same, c.counting-2.ensures.same) at c.step-s.ensures) _ _ c.in-Read.is c.read_time.ensures

pub returns-in-ReadMarks : goal.returns-in-ReadMarks
returns-in-ReadMarks c =
    let a = c.args in
    on_read_marks a.fixed a.w a.x.now.doing a.x.now.announced a.x.now.pool.len a.rows.now (parts (row_of a.row.now) a.lent.now a.running.now) _ _ _
    (rw (c.counting.ensures.same, c.counting-2.ensures.same) at c.step-s.ensures) _ c.in-ReadMarks.is (c.read_marks.ensures.value, c.read_marks.ensures.running_after)

pub returns-in-Split : goal.returns-in-Split
returns-in-Split c =
    let a = c.args in
    on_split a.fixed a.w a.x.now.doing a.x.now.announced a.x.now.pool.len a.rows.now (parts (row_of a.row.now) a.lent.now a.running.now) _ _ _
    (rw (c.counting.ensures.same, c.counting-2.ensures.same) at c.step-s.ensures) _ _ c.in-Split.is c.split.ensures

pub returns-in-Free : goal.returns-in-Free
returns-in-Free c =
    let a = c.args in
    on_free a.fixed a.w a.x.now.doing a.x.now.announced a.x.now.pool.len a.rows.now (parts (row_of a.row.now) a.lent.now a.running.now) _ _ _
    (rw (c.counting.ensures.same, c.counting-2.ensures.same) at c.step-s.ensures) _ c.in-Free.is c.free_one.ensures.value c.free_one.ensures.row_after c.free_one.ensures.lent_after c.free_one.ensures.running_after

pub returns-in-Mark : goal.returns-in-Mark
returns-in-Mark c =
    let a = c.args in
    on_mark_lem a.fixed a.w a.x.now.doing a.x.now.announced a.x.now.pool.len a.rows.now (parts (row_of a.row.now) a.lent.now a.running.now) _ _ _
    (rw (c.counting.ensures.same, c.counting-2.ensures.same) at c.step-s.ensures) _ _ c.in-Mark.is (c.set_mark.ensures.value, c.set_mark.ensures.running_after)
