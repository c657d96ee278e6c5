use Rattle.csg_hits.proofs.Alone.{nowhere_outcome}
use Rattle.csg_hits.proofs.outlook.Outcome.of_row.Goals as goal

pub returns-then-is_nowhere : goal.returns-then-is_nowhere
returns-then-is_nowhere c = λ end. nowhere_outcome c.args.row.now c.args.leaf c.args.t end c.never.result (c.is_nowhere.ensures c.if-is_nowhere.true) (c.never.ensures c.args.t end)

pub returns : goal.returns
returns c = λ end. record {
  before = c.holds.ensures;
  first = c.first_struck.ensures;
  ahead = c.of_row.ensures end;
}
