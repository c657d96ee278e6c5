use Rattle.csg_hits.specs.Ready.{pieces_in}
use Rattle.slab_tree.proofs.Outlining.{held}
use Rattle.slab_tree.proofs.outline.piece_bounds.Goals as goal

pub returns : goal.returns
returns c = held (pieces_in c.args.built.now) c.args.piece c.piece_bounds.result c.around.result c.piece_bounds.ensures.struck c.around.ensures
