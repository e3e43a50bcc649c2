-- `found` meets its contract: by cases.
use Rattle.step.proofs.found.Goals as goal

pub returns-in-Single : goal.returns-in-Single
returns-in-Single c = rw (c.in-Single.is, ← c.answer_for.ensures) c.outcome_of.ensures

pub returns-in-Marked : goal.returns-in-Marked
returns-in-Marked c = rw (c.in-Marked.is, ← c.answer_for-in-Marked.ensures) c.outcome_of-in-Marked.ensures

pub returns-in-Totaling : goal.returns-in-Totaling
returns-in-Totaling c = rw c.in-Totaling.is c.total_found.ensures
