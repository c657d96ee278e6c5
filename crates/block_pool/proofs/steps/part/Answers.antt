use Rattle.std.proofs.Common.{arith}
use Rattle.block_pool.proofs.Allowed.{part_allowed}
use Rattle.block_pool.proofs.steps.part.Goals as goal

pub split_seat-requires : goal.split_seat-requires
split_seat-requires g c = (c.requires.table, omega arith, part_allowed g.P.Ordered.in_order g.P.Ordered.knows g.P.Ordered.is_tried g.P.Ordered.was_block g.P.Ordered.knew _ _ _ c.requires.idle c.requires.more)
