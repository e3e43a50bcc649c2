-- `log_input`: what is kept fits its buffer.
use Rattle.std.proofs.Common.{◌≤◌, length}
use Rattle.hublog.proofs.log_input.Given as goal

abbrev pub invariant-loop : goal.invariant-loop
invariant-loop l = l.kept ≤ length l.block
