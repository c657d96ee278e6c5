use Rattle.csg_hits.proofs.Alone.{row_outcome, none_outcome}
use Rattle.csg_hits.proofs.outlook.Outcome.of_leaf.Goals as goal

pub returns-in-Some : goal.returns-in-Some
returns-in-Some c = λ end. row_outcome c.args.rows.now c.args.leaf c.args.t end c.in-Some.row.now c.of_row.result c.in-Some.ensures.lookup.3.0 c.in-Some.ensures.lookup.1 (c.of_row.ensures end)

pub returns-in-None : goal.returns-in-None
returns-in-None c = λ end. none_outcome c.args.rows.now c.args.leaf c.args.t end c.never.result c.in-None.ensures.lookup.3 (c.never.ensures c.args.t end)
