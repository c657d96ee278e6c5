use Rattle.fix_math.proofs.ExcessLemmas.{over}
use Rattle.fix_math.proofs.directions.bits_over.Goals as goal

pub returns-clause-above : goal.returns-clause-above
returns-clause-above c = (over c.args.greatest c.saturating_sub.result c.requires c.saturating_sub.ensures).0

pub returns-clause-needed : goal.returns-clause-needed
returns-clause-needed c = (over c.args.greatest c.saturating_sub.result c.requires c.saturating_sub.ensures).1

pub returns-clause-small : goal.returns-clause-small
returns-clause-small c = (over c.args.greatest c.saturating_sub.result c.requires c.saturating_sub.ensures).2
