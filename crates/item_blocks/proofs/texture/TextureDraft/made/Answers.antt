use Rattle.std.proofs.lemmas.Result.{IfOk-weaker}
use Rattle.item_blocks.specs.MadeLaws.{texture_made}
use Rattle.item_blocks.proofs.texture.TextureDraft.made.Goals as goal

pub returns-clause-valid : goal.returns-clause-valid
returns-clause-valid c = IfOk-weaker c.texture_of.result _ _ (λ texture found own default. texture_made texture _ _ found own default) c.texture_of.ensures.found
