-- `bcd_number`: the bytes from place i on are read, and their number is below twice a power of a hundred.
use Rattle.std.proofs.Common.{◌≡◌, ◌+◌, ◌-◌, ◌*◌, ◌^◌, ◌≤◌}
use Rattle.model.specs.Digits.{bcd_number}
use Rattle.row_form.proofs.bcd_number.Given as goal

abbrev pub invariant-loop-i : goal.invariant-loop-i
invariant-loop-i l = record {
  within : 10 ≤ l.i;
  read : l.x ≡ bcd_number l.row l.i (16 - l.i);
  bound : l.x + 2 ≤ 2 * 100 ^ (16 - l.i);
}
