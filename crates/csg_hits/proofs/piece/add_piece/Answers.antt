use Rattle.csg_hits.proofs.Unions.{added_one}
use Rattle.csg_hits.proofs.piece.add_piece.Goals as goal

pub returns : goal.returns
returns c = added_one c.args.shape.now c.in_ok-shape.shape c.args.object c.args.no_shadow _ _ c.in_ok-push.ensures.items c.in_ok-shape.ensures
