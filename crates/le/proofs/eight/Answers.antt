-- What is made of the bytes that are there is their number.
use Rattle.std.proofs.Common.{refl, w64}
use Rattle.le.proofs.Numbers.{read}
use Rattle.le.proofs.eight.Goals as goal

pub returns : goal.returns
returns c = read c.args.b.now c.args.i w64 8 c.at.result c.map_or.result refl c.at.ensures c.map_or.ensures
