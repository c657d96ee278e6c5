use Rattle.block_pool.proofs.Allowed.{read_allowed}
use Rattle.block_pool.proofs.steps.read.Goals as goal

pub load-requires : goal.load-requires
load-requires g c = (c.requires.table, c.requires.word.1, read_allowed g.P.Ordered.in_order g.P.Ordered.knows g.P.Ordered.is_tried g.P.Ordered.was_block g.P.Ordered.knew _ _ _ _ _ _ c.requires.turn c.requires.word.0)
