use Rattle.csg_hits.proofs.Unions.{AddsParts}
use Rattle.csg_hits.proofs.piece.+add_pieces.Given as goal

abbrev pub invariant-loop-part : goal.invariant-loop-part
invariant-loop-part l = AddsParts l.part-items l.part-index l.object l.no_shadow l.initial.pieces.items l.pieces.items
