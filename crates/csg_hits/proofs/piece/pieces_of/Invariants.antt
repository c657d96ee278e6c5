use Rattle.std.proofs.Common.{take}
use Rattle.csg_hits.specs.Pieces.{ArePieces}
use Rattle.csg_hits.proofs.piece.pieces_of.Given as goal

abbrev pub invariant-loop-number : goal.invariant-loop-number
invariant-loop-number l = ArePieces (take l.number l.objects) l.pieces.items
