-- The definition takes the next range as the turn does.
use Rattle.std.proofs.Common.{◌+◌, ◌-◌, ◌<◌, ◌/◌, arith, add-one, drop, length, []}
use Rattle.std.proofs.lemmas.List.{get_or-drop, get_or-take}
use Rattle.scans.specs.Scans.{slots_below}
use Rattle.scans.proofs.Chunks.{word_of}
use Rattle.scans.proofs.slots_below.Goals as goal

pub loop-range-preserved : goal.loop-range-preserved
unfolding slots_below
loop-range-preserved c =
    let a = c.args in
    let j = c.loop-range.range-index in
    let all = c.as_chunks.result.0.now in
    let h : j < a.i + a.k - a.i = omega arith in
    let g : a.i + j < length a.words.now / 3 = omega arith in
    rw (add-one, ← c.loop-range.invariant, get_or-take (a.i + a.k - a.i) (drop a.i all) j [] h, get_or-drop a.i all j [], c.as_chunks.ensures.front, word_of a.words.now (length a.words.now / 3) (a.i + j) g)
