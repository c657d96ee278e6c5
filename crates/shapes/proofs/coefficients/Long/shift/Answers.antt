use Rattle.std.proofs.Common.{ap, of_z}
use mir.Syntax.{w128}
use Rattle.shapes.proofs.Digits.{few_more}
use Rattle.shapes.proofs.coefficients.Long.shift.Goals as goal

pub power-requires : goal.power-requires
power-requires c = few_more c.args.self.value c.args.up c.args.lost c.if-lost-up.false (λ e. c.if-self-eq0.false (ap (of_z w128) e)) c.requires.small
