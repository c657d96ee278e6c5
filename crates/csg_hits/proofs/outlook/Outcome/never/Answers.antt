use Rattle.std.proofs.Common.{refl}
use Rattle.csg_hits.proofs.outlook.Outcome.never.Goals as goal

pub returns : goal.returns
returns c = λ t end. record { before = refl; first = λ n. refl; ahead = c.never.ensures t end }
