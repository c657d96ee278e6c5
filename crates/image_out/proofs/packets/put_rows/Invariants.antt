-- The rows so far, and those that are left.
use Rattle.std.proofs.Common.{◌≡◌, ◌+◌, ◌-◌, ◌*◌, ◌≤◌, ◌++◌, length, vec_len, vec_capacity}
use Rattle.image_out.specs.Pixels.{pixels_of, rows_of}
use Rattle.image_out.specs.Packets.{packed}
use Rattle.image_out.proofs.packets.put_rows.Given as goal

abbrev pub invariant-loop-row : goal.invariant-loop-row
invariant-loop-row l = record {
  items : l.out.items ++ packed (rows_of l.width (l.height - l._row) (pixels_of l.rest)) ≡ l.initial.out.items ++ packed (rows_of l.width l.height (pixels_of l.samples));
  rest : length l.rest ≡ 3 * l.width * (l.height - l._row);
  room : vec_len l.out + 4 * l.width * (l.height - l._row) ≤ vec_len l.initial.out + 4 * l.width * l.height;
  capacity : vec_capacity l.out ≡ vec_capacity l.initial.out;
}
