-- The pixels so far are like the first one.
use Rattle.std.proofs.Common.{◌≡◌, ◌+◌, ◌-◌, ◌≤◌, length, drop}
use Rattle.std.specs.List.{prefix_len}
use Rattle.image_out.specs.Pixels.{pixels_of, pixel_at, is_same}
use Rattle.image_out.specs.Packets.{alike_here}
use Rattle.image_out.proofs.packets.run_length.Given as goal

abbrev pub invariant-loop-count : goal.invariant-loop-count
invariant-loop-count l = record {
  some : 1 ≤ l.count;
  most : l.count ≤ 128;
  within : l.count ≤ length (pixels_of l.row);
  pixels : l.pixels ≡ length (pixels_of l.row);
  alike : l.count + prefix_len (is_same (pixel_at l.row 0)) (drop l.count (pixels_of l.row)) ≡ alike_here (pixels_of l.row);
}

abbrev pub decreases-loop-count : goal.decreases-loop-count
decreases-loop-count l = 128 - l.count
