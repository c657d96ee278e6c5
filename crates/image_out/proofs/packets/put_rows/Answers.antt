-- One row more at each step.
use Rattle.std.proofs.Common.{◌≡◌, ◌+◌, ◌-◌, ◌∙◌, suc, arith}
use Rattle.image_out.proofs.PixelLemmas.{whole_of}
use Rattle.image_out.proofs.PacketLemmas.{products, rows_done, rows_more}
use Rattle.image_out.proofs.packets.put_rows.Goals as goal

pub put_row-requires-clause-whole : goal.put_row-requires-clause-whole
put_row-requires-clause-whole c = (whole_of c.args.width c.split_at.result.0.now c.split_at.ensures.front_len).1

pub put_row-requires-clause-room : goal.put_row-requires-clause-room
put_row-requires-clause-room c =
    let i = c.loop-row.invariant in
    omega (
      arith,
      c.requires.room,
      i.capacity,
      i.room,
      (whole_of c.args.width c.split_at.result.0.now c.split_at.ensures.front_len).0,
      products c.args.width (c.args.height - c.loop-row._row) (c.args.height - (c.loop-row._row + 1)) (omega (arith, c.loop-row-test.true)),
    )

pub loop-row-preserved : goal.loop-row-preserved
loop-row-preserved c =
    let i = c.loop-row.invariant in
    let left : c.args.height - c.loop-row._row ≡ suc (c.args.height - (c.loop-row._row + 1)) = omega (arith, c.loop-row-test.true) in
    let all = products c.args.width (c.args.height - c.loop-row._row) (c.args.height - (c.loop-row._row + 1)) left in
    let row = (whole_of c.args.width c.split_at.result.0.now c.split_at.ensures.front_len).0 in
    record {
      items = rows_more c.loop-row.rest.now _ _ _ c.split_at.result.0.now c.split_at.result.1.now c.args.width (c.args.height - c.loop-row._row) (c.args.height - (c.loop-row._row + 1)) left c.split_at.ensures.front c.split_at.ensures.back c.put_row.ensures.items i.items;
      rest = omega (arith, i.rest, c.split_at.ensures.back_len, all);
      room = omega (arith, i.room, c.put_row.ensures.length, row, all);
      capacity = c.put_row.ensures.capacity ∙ i.capacity;
    }

pub returns-clause-items : goal.returns-clause-items
returns-clause-items c =
    rows_done c.args.width (c.args.height - c.loop-row._row) _ _ _ (omega (arith, c.loop-row-test.false)) c.loop-row.invariant.items
