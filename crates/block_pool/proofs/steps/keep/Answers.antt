use Rattle.std.proofs.Common.{arith}
use Rattle.block_pool.proofs.Allowed.{keep_allowed}
use Rattle.block_pool.proofs.steps.keep.Goals as goal

pub load-requires : goal.load-requires
load-requires g c = (c.requires.table, omega arith, keep_allowed g.P.Ordered.in_order g.P.Ordered.knows g.P.Ordered.is_tried g.P.Ordered.was_block g.P.Ordered.knew _ _ _ _ _ c.requires.turn)
