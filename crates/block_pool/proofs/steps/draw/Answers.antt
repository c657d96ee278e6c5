use Rattle.std.proofs.Common.{arith}
use Rattle.block_pool.proofs.Draws.{draw_allowed}
use Rattle.block_pool.proofs.steps.draw.Goals as goal

pub fetch_add-requires : goal.fetch_add-requires
fetch_add-requires g c = (c.requires.table, omega arith, draw_allowed g.P.Ordered.in_order g.P.Ordered.knows g.P.Ordered.is_tried g.P.Ordered.was_block g.P.Ordered.knew _ _ _ _ _ c.requires.told c.requires.part c.requires.fresh)
