use Rattle.csg_hits.proofs.Copies.{AreCopies}
use Rattle.csg_hits.proofs.piece.+copied.Given as goal

abbrev pub invariant-loop-part : goal.invariant-loop-part
invariant-loop-part l = AreCopies l.copies.items l.part-items l.part-index
