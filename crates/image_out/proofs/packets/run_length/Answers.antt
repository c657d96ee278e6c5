-- One pixel more at each step, and none at the end.
use Rattle.std.proofs.Common.{◌+◌, ◌≤◌, length, sym, arith}
use Rattle.image_out.specs.Pixels.{pixels_of, pixel_at}
use Rattle.image_out.proofs.PacketLemmas.{alike_first, alike_more, alike_none}
use Rattle.image_out.proofs.packets.run_length.Goals as goal

pub loop-count-init : goal.loop-count-init
loop-count-init c =
    let whole = c.requires.whole in
    record {
      some = omega arith;
      most = omega arith;
      within = omega (arith, whole, c.requires.some);
      pixels = omega (arith, whole);
      alike = alike_first c.args.row.now c.requires.some;
    }

pub loop-count-preserved : goal.loop-count-preserved
loop-count-preserved c =
    let i = c.loop-count.invariant in
    let here : c.loop-count.count + 1 ≤ length (pixels_of c.args.row.now) = omega (arith, i.pixels, c.if-count-pixels.true) in
    record {
      some = omega arith;
      most = omega (arith, c.loop-count-test.true);
      within = here;
      pixels = i.pixels;
      alike = omega (arith, i.alike, alike_more c.args.row.now (pixel_at c.args.row.now 0) c.loop-count.count (omega (arith, c.requires.whole, here)) (sym c.if-is_same.ensures));
    }

pub returns-else-is_same : goal.returns-else-is_same
returns-else-is_same c =
    let i = c.loop-count.invariant in
    let here : c.loop-count.count + 1 ≤ length (pixels_of c.args.row.now) = omega (arith, i.pixels, c.if-count-pixels.true) in
    omega (arith, i.most, i.alike, alike_none c.args.row.now (pixel_at c.args.row.now 0) c.loop-count.count (omega (arith, c.requires.whole, here)) (sym c.if-is_same.ensures))
