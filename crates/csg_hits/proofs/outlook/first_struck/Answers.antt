use Rattle.std.proofs.Common.{sym, ◌∙◌}
use Rattle.csg_hits.proofs.Alone.{none_here, struck_here}
use Rattle.csg_hits.proofs.outlook.first_struck.Goals as goal

pub returns-then-is_struck : goal.returns-then-is_struck
returns-then-is_struck c = struck_here c.args.row.now c.args.leaf c.args.t (sym c.is_struck.ensures ∙ c.if-is_struck.true)

pub returns-else-is_struck : goal.returns-else-is_struck
returns-else-is_struck c = none_here c.args.row.now c.args.leaf c.args.t (sym c.is_struck.ensures ∙ c.if-is_struck.false)
