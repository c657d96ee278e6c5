-- None of the pixels so far is like its right neighbour.
use Rattle.std.proofs.Common.{◌≡◌, ◌+◌, ◌-◌, ◌≤◌, ◌<◌, length, drop}
use Rattle.image_out.specs.Pixels.{pixels_of}
use Rattle.image_out.specs.Packets.{unlike}
use Rattle.image_out.proofs.packets.raw_length.Given as goal

abbrev pub invariant-loop-count : goal.invariant-loop-count
invariant-loop-count l = record {
  most : l.count ≤ 128;
  within : l.count < length (pixels_of l.row);
  last : l.last + 1 ≡ length (pixels_of l.row);
  unlike : l.count + unlike (drop l.count (pixels_of l.row)) ≡ unlike (pixels_of l.row);
}

abbrev pub decreases-loop-count : goal.decreases-loop-count
decreases-loop-count l = 128 - l.count
