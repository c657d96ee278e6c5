-- The packets so far, and those of the pixels that are left.
use Rattle.std.proofs.Common.{◌≡◌, ◌+◌, ◌*◌, ◌≤◌, ◌++◌, length, vec_len, vec_capacity}
use Rattle.image_out.specs.Pixels.{pixels_of, IsWhole}
use Rattle.image_out.specs.Packets.{packets_of, row_bytes}
use Rattle.image_out.proofs.packets.put_row.Given as goal

abbrev pub invariant-loop-rest : goal.invariant-loop-rest
invariant-loop-rest l = record {
  items : l.out.items ++ row_bytes (packets_of (pixels_of l.rest)) ≡ l.initial.out.items ++ row_bytes (packets_of (pixels_of l.row));
  whole : IsWhole l.rest;
  room : vec_len l.out + 4 * length (pixels_of l.rest) ≤ vec_len l.initial.out + 4 * length (pixels_of l.row);
  capacity : vec_capacity l.out ≡ vec_capacity l.initial.out;
}

abbrev pub decreases-loop-rest : goal.decreases-loop-rest
decreases-loop-rest l = length l.rest
