use Rattle.std.proofs.Common.{◌*◌, ap, pos}
use Rattle.fix_math.proofs.SeriesLemmas.{next_quotient}
use Rattle.fix_math.proofs.angles.next_term.Goals as goal

pub returns-clause-value : goal.returns-clause-value
returns-clause-value c = ap pos (next_quotient (c.args.term * c.args.y) c.args.halves c.requires.few)
