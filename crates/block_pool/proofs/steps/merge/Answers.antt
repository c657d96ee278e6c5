use Rattle.std.proofs.Common.{arith}
use Rattle.block_pool.proofs.Allowed.{merge_allowed}
use Rattle.block_pool.proofs.steps.merge.Goals as goal

pub join_seat-requires : goal.join_seat-requires
join_seat-requires g c = (c.requires.table.0, c.requires.table.1, c.requires.empty, omega arith, merge_allowed g.P.Ordered.in_order g.P.Ordered.knows g.P.Ordered.is_tried g.P.Ordered.was_block g.P.Ordered.knew _ _ _ _ _ c.requires.idle.0 c.requires.idle.1 c.requires.part)
