-- The packet that the row begins with.
use Rattle.std.proofs.Common.{◌++◌, ◌∙◌, ap, sym, subst, arith, length-take}
use Rattle.image_out.specs.Pixels.{pixels_of, pixel_at, IsWhole}
use Rattle.image_out.specs.Packets.{Run, Raw, packet_bytes, pixel_count}
use Rattle.image_out.proofs.PixelLemmas.{take_pixels, whole_take, pixel_front}
use Rattle.image_out.proofs.PacketLemmas.{raw_some, raw_within, put_raw_here, put_run_here}
use Rattle.image_out.proofs.packets.put_packet.Goals as goal

pub returns-then-run-gt1-clause-count : goal.returns-then-run-gt1-clause-count
returns-then-run-gt1-clause-count c =
    sym (ap pixel_count (put_run_here c.args.row.now c.run_length-run.result c.requires.some c.run_length-run.ensures.length c.if-run-gt1.true))

pub returns-then-run-gt1-clause-items : goal.returns-then-run-gt1-clause-items
returns-then-run-gt1-clause-items c =
    c.put_run.ensures.items ∙ ap (λ t. c.args.out.now.items ++ packet_bytes t)
    (ap (λ t. Run c.run_length-run.result (pixel_at t 0)) c.split_at.ensures.front ∙ ap (Run c.run_length-run.result) (pixel_front c.args.row.now c.requires.some) ∙ sym (put_run_here c.args.row.now c.run_length-run.result c.requires.some c.run_length-run.ensures.length c.if-run-gt1.true))

pub split_at-requires-2 : goal.split_at-requires-2
split_at-requires-2 c =
    omega (arith, c.requires.whole, raw_within c.args.row.now c.raw_length-raw.result c.raw_length-raw.ensures.length)

pub put_raw-requires-clause-whole : goal.put_raw-requires-clause-whole
put_raw-requires-clause-whole c =
    subst IsWhole (sym c.split_at-2.ensures.front) (whole_take c.raw_length-raw.result c.args.row.now c.requires.whole (raw_within c.args.row.now c.raw_length-raw.result c.raw_length-raw.ensures.length))

pub put_raw-requires-clause-some : goal.put_raw-requires-clause-some
put_raw-requires-clause-some c =
    omega (arith, c.split_at-2.ensures.front_len, raw_some c.args.row.now c.run_length-run.result c.raw_length-raw.result c.requires.some c.run_length-run.ensures.length (omega (arith, c.if-run-gt1.false)) c.raw_length-raw.ensures.length)

pub returns-clause-items : goal.returns-clause-items
returns-clause-items c =
    c.put_raw.ensures.items ∙ ap (λ t. c.args.out.now.items ++ packet_bytes t)
    (ap (λ t. Raw (pixels_of t)) c.split_at-2.ensures.front ∙ ap Raw (take_pixels c.raw_length-raw.result c.args.row.now) ∙ sym (put_raw_here c.args.row.now c.run_length-run.result c.raw_length-raw.result c.requires.some c.run_length-run.ensures.length (omega (arith, c.if-run-gt1.false)) c.raw_length-raw.ensures.length))

pub returns-clause-length : goal.returns-clause-length
returns-clause-length c =
    omega (arith, c.put_raw.ensures.length, c.split_at-2.ensures.front_len, raw_some c.args.row.now c.run_length-run.result c.raw_length-raw.result c.requires.some c.run_length-run.ensures.length (omega (arith, c.if-run-gt1.false)) c.raw_length-raw.ensures.length)

pub returns-clause-count : goal.returns-clause-count
returns-clause-count c =
    let s = c.args.row.now in
    let n = c.raw_length-raw.result in
    let within = raw_within s n c.raw_length-raw.ensures.length in
    omega (arith, within, length-take n (pixels_of s), ap pixel_count (put_raw_here s c.run_length-run.result n c.requires.some c.run_length-run.ensures.length (omega (arith, c.if-run-gt1.false)) c.raw_length-raw.ensures.length))
