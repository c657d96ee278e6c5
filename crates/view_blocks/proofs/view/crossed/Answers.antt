use Rattle.view_blocks.proofs.Sizes.{crossed_within}
use Rattle.view_blocks.proofs.view.crossed.Goals as goal

pub known_vector-requires : goal.known_vector-requires
known_vector-requires c = rw c.rounded_cross.ensures (crossed_within c.args.v.now c.args.w.now c.requires.v_small c.requires.w_small)
