use Rattle.std.proofs.Common.{arith}
use Rattle.block_pool.proofs.Allowed.{turn_allowed}
use Rattle.block_pool.proofs.steps.turn.Goals as goal

pub swap-found-requires : goal.swap-found-requires
swap-found-requires g c = (c.requires.table, omega arith, turn_allowed g.P.Ordered.in_order g.P.Ordered.knows g.P.Ordered.is_tried g.P.Ordered.was_block g.P.Ordered.knew _ _ _ _ _ c.requires.told c.requires.part c.requires.idle)
