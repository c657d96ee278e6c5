-- The pixels so far stand behind what was there, in the same room.
use Rattle.std.proofs.Common.{◌≡◌, ◌++◌, ◌≤◌, ◌-◌, ◌+◌, drop, length, vec_len, vec_capacity}
use Rattle.std.specs.List.{flat_map}
use Rattle.image_out.specs.Pixels.{pixels_of, turned}
use Rattle.image_out.proofs.append.append_turned.Given as goal

abbrev pub invariant-loop-at : goal.invariant-loop-at
invariant-loop-at l = record {
  items : l.list.items ++ flat_map turned (pixels_of (drop l.at l.samples)) ≡ l.initial.list.items ++ flat_map turned (pixels_of l.samples);
  len : vec_len l.list ≡ vec_len l.initial.list + l.at;
  capacity : vec_capacity l.list ≡ vec_capacity l.initial.list;
  within : l.at ≤ length l.samples;
}

abbrev pub decreases-loop-at : goal.decreases-loop-at
decreases-loop-at l = length l.samples - l.at
