use Rattle.std.proofs.Common.{ℕ, ◌≤◌, List}
use Rattle.shelf.specs.Disk.{SameSlots, name_at}
use Rattle.state_file.specs.Blocks.{AreOpened}
use Rattle.state_file.specs.Frames.{layout}
use Rattle.state_file.specs.Order.{KeepsOrder}
use Rattle.state_file.proofs.write.write_gates.Given as goal

abbrev pub invariant-loop-block : goal.invariant-loop-block
invariant-loop-block g l = record {
  order : KeepsOrder g.S.Shelf.moment g.S.Shelf.images (name_at (g.S.Shelf.slots l.initial.shelf l.slot)) (layout l.frame)
      (λ _. Unit {0}) l.marks l.marks l.initial.shelf l.shelf;
  opened : (c : List ℕ) → g.S.Shelf.holds l.shelf (name_at (g.S.Shelf.slots l.initial.shelf l.slot)) c
      → AreOpened (layout l.frame) l.blocks l.block-index c;
  slots : SameSlots (g.S.Shelf.slots l.initial.shelf) (g.S.Shelf.slots l.shelf);
  later : g.S.Shelf.faults l.initial.shelf ≤ g.S.Shelf.faults l.shelf;
}
