-- `bcd_of`: a byte more is written.
use Rattle.std.proofs.Common.{◌∙◌}
use Rattle.std.proofs.Math.ListN.{length-set}
use Rattle.row_form.proofs.Row.{write_on}
use Rattle.row_form.proofs.bcd_of.Goals as goal

pub loop-byte-preserved : goal.loop-byte-preserved
loop-byte-preserved c = record {
  long = length-set c.loop-byte.byte-items c.loop-byte.byte-index _ ∙ c.loop-byte.invariant.long;
  written = write_on c.loop-byte.byte-items c.args.x c.loop-byte.rest c.loop-byte.byte-index c.loop-byte.invariant.long c.loop-byte-test.true c.loop-byte.invariant.written;
}
