use Rattle.storage_times.specs.Squares.{AreNumbered}
use Rattle.storage_times.proofs.blocks.blocks.Given as goal

abbrev pub invariant-loop-index : goal.invariant-loop-index
invariant-loop-index l = AreNumbered l.index l.list.items
