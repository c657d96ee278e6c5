-- The things before are moved, and what comes of the others comes of all.
use Rattle.std.proofs.Common.{◌≡◌, take, drop, length}
use Rattle.item_blocks.specs.Steps.{all_moved}
use Rattle.item_blocks.proofs.MovedAll.{joined}
use Rattle.item_blocks.proofs.steps.move_all.Given as goal

abbrev pub invariant-things : goal.invariant-things
invariant-things l = record {
  same : all_moved l.step l.initial.xforms ≡ joined (take l.i l.xforms) (all_moved l.step (drop l.i l.xforms));
  many : length l.xforms ≡ length l.initial.xforms;
}
