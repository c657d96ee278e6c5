use Rattle.std.proofs.Common.{sym, subst}
use Rattle.scene_model.specs.Amounts.{IsAmount}
use Rattle.view_blocks.proofs.AngleLemmas.{cosine_amount}
use Rattle.view_blocks.proofs.light.cosine_at.Goals as goal

pub returns-clause-small : goal.returns-clause-small
returns-clause-small c = subst (IsAmount 65536) (sym c.cosine_of.ensures) (cosine_amount c.args.angle c.requires)
