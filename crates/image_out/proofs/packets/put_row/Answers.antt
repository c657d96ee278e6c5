-- One packet more at each step.
use Rattle.std.proofs.Common.{◌≤◌, ◌++◌, ◌∙◌, length, ap, sym, subst, arith, length-drop}
use Rattle.image_out.specs.Pixels.{pixels_of, IsWhole}
use Rattle.image_out.specs.Packets.{packets_of, row_bytes}
use Rattle.image_out.proofs.PixelLemmas.{drop_pixels, whole_drop}
use Rattle.image_out.proofs.PacketLemmas.{packet_there, row_done, row_more}
use Rattle.image_out.proofs.packets.put_row.Goals as goal

pub split_at-requires : goal.split_at-requires
split_at-requires c =
    let fits = packet_there c.loop-rest.rest.now c.loop-rest-test.true in
    omega (arith, c.loop-rest.invariant.whole, c.put_packet-count.ensures.count, fits.within)

pub loop-rest-preserved : goal.loop-rest-preserved
loop-rest-preserved c =
    let i = c.loop-rest.invariant in
    let s = c.loop-rest.rest.now in
    let n = c.put_packet-count.result in
    let back = c.split_at.ensures.back in
    let some : 3 ≤ length s = c.loop-rest-test.true in
    let fits = packet_there s some in
    record {
      items = ap (λ t. c.put_packet-count.new.out.items ++ row_bytes (packets_of (pixels_of t))) back ∙ row_more s _ _ _ n some c.put_packet-count.ensures.count c.put_packet-count.ensures.items i.items;
      whole = subst IsWhole (sym back) (whole_drop n s i.whole);
      room = omega (arith, i.room, c.put_packet-count.ensures.length, c.put_packet-count.ensures.count, fits.within, ap (λ t. length (pixels_of t)) back, ap length (drop_pixels n s), length-drop n (pixels_of s));
      capacity = c.put_packet-count.ensures.capacity ∙ i.capacity;
    }

pub loop-rest-smaller : goal.loop-rest-smaller
loop-rest-smaller c =
    let fits = packet_there c.loop-rest.rest.now c.loop-rest-test.true in
    omega (arith, fits.some, c.put_packet-count.ensures.count, c.split_at.ensures.back_len)

pub returns-clause-items : goal.returns-clause-items
returns-clause-items c =
    row_done c.loop-rest.rest.now _ _ (omega (arith, c.loop-rest-test.false)) c.loop-rest.invariant.items
