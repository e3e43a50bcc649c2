-- `step` meets its contract: in each arm the place that the match found is put into `step_of`, and the function called there ensures what
-- `step_of` is at that place.
use Rattle.step.specs.Step.{step_of}
use Rattle.step.proofs.step.Goals as goal

pub returns-in-Idle : goal.returns-in-Idle
unfolding step_of
returns-in-Idle c = rw (c.stopped.ensures, c.in-Idle.is)

pub returns-in-PutPublish : goal.returns-in-PutPublish
unfolding step_of
returns-in-PutPublish c = rw c.in-PutPublish.is c.put_publish.ensures

pub returns-in-PutStamp : goal.returns-in-PutStamp
unfolding step_of
returns-in-PutStamp c = rw c.in-PutStamp.is c.put_stamp.ensures

pub returns-in-PutHandIn : goal.returns-in-PutHandIn
unfolding step_of
returns-in-PutHandIn c = rw c.in-PutHandIn.is

pub returns-in-FlushTake : goal.returns-in-FlushTake
unfolding step_of
returns-in-FlushTake c = rw c.in-FlushTake.is

pub returns-in-FlushRead : goal.returns-in-FlushRead
unfolding step_of
returns-in-FlushRead c = rw (c.in-FlushRead.is, c.read_or_split.ensures)

pub returns-in-FlushFree : goal.returns-in-FlushFree
unfolding step_of
returns-in-FlushFree c = rw (c.in-FlushFree.is, c.free_or_done.ensures)

pub returns-in-OnTime : goal.returns-in-OnTime
unfolding step_of
returns-in-OnTime c = rw (c.in-OnTime.is, c.time_step.ensures)

pub returns-in-ReadEnter : goal.returns-in-ReadEnter
unfolding step_of
returns-in-ReadEnter c = rw c.in-ReadEnter.is c.read_enter.ensures

pub returns-in-ReadStand : goal.returns-in-ReadStand
unfolding step_of
returns-in-ReadStand c = rw (c.in-ReadStand.is, c.read_stand.ensures)

pub returns-in-GetShow : goal.returns-in-GetShow
unfolding step_of
returns-in-GetShow c = rw c.in-GetShow.is c.get_show.ensures
