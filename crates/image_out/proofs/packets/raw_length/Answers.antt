-- One pixel more at each step, up to the last pixel or the next run.
use Rattle.std.proofs.Common.{◌+◌, ◌<◌, length, sym, arith}
use Rattle.image_out.specs.Pixels.{pixels_of}
use Rattle.image_out.proofs.PacketLemmas.{unlike_last, unlike_more, unlike_none}
use Rattle.image_out.proofs.packets.raw_length.Goals as goal

pub returns-then-count-last : goal.returns-then-count-last
returns-then-count-last c =
    let i = c.loop-count.invariant in
    let last = unlike_last c.args.row.now c.loop-count.count c.requires.whole (omega (arith, i.last, c.if-count-last.true)) in
    record { length = omega (arith, i.unlike, last, c.loop-count-test.true) }

pub returns-then-is_same : goal.returns-then-is_same
returns-then-is_same c =
    let i = c.loop-count.invariant in
    let here : c.loop-count.count + 1 < length (pixels_of c.args.row.now) = omega (arith, i.last, i.within, c.if-count-last.false) in
    let none = unlike_none c.args.row.now c.loop-count.count (omega (arith, c.requires.whole, here)) (sym c.if-is_same.ensures) in
    record { length = omega (arith, i.unlike, none, c.loop-count-test.true) }

pub loop-count-preserved : goal.loop-count-preserved
loop-count-preserved c =
    let i = c.loop-count.invariant in
    let here : c.loop-count.count + 1 < length (pixels_of c.args.row.now) = omega (arith, i.last, i.within, c.if-count-last.false) in
    record {
      most = omega (arith, c.loop-count-test.true);
      within = here;
      last = i.last;
      unlike = omega (arith, i.unlike, unlike_more c.args.row.now c.loop-count.count (omega (arith, c.requires.whole, here)) (sym c.if-is_same.ensures));
    }
