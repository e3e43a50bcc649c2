-- `bcd_of`: the bytes that are written, and those of the rest, are those of the number.
use Rattle.std.proofs.Common.{◌≡◌, ◌++◌, ◌-◌, length, take}
use Rattle.model.specs.Digits.{bcd_of}
use Rattle.row_form.proofs.bcd_of.Given as goal

abbrev pub invariant-loop-byte : goal.invariant-loop-byte
invariant-loop-byte l = record {
  long : length l.byte-items ≡ 6;
  written : take l.byte-index l.byte-items ++ bcd_of (6 - l.byte-index) l.rest ≡ bcd_of 6 l.x;
}
