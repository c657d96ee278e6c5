use Rattle.slab_tree.specs.Outlines.{IsWhole}
use Rattle.slab_tree.proofs.outline.parted.Given as goal

abbrev pub invariant-loop-piece : goal.invariant-loop-piece
invariant-loop-piece l = IsWhole l.piece l.apart.items l.order.items
