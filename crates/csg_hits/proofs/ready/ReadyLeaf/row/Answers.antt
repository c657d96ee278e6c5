use Rattle.csg_hits.proofs.Rowed.{missed_row}
use Rattle.csg_hits.proofs.ready.ReadyLeaf.row.Goals as goal

pub returns-then-is_missed : goal.returns-then-is_missed
returns-then-is_missed c = missed_row c.args.self.now.leaf.value c.args.path.now.ray c.args.path.now.end c.empty.result c.empty.ensures (c.is_missed.ensures c.if-is_missed.true)
