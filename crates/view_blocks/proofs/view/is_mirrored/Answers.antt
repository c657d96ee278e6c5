use Rattle.view_blocks.proofs.Sizes.{wide_cross_within}
use Rattle.view_blocks.proofs.view.is_mirrored.Goals as goal

pub shortened_row-across-requires : goal.shortened_row-across-requires
shortened_row-across-requires c =
    rw c.row_cross.ensures (wide_cross_within c.raws.result c.args.view.now.direction (rw c.raws.ensures.value c.requires.up) c.args.view.now.direction_small)
