use Rattle.std.proofs.lemmas.Result.{IfOk-weaker}
use Rattle.item_blocks.specs.SoundBlocks.{look_kept}
use Rattle.item_blocks.proofs.look.take_look.Goals as goal

pub returns-clause-sound : goal.returns-clause-sound
returns-clause-sound c =
    IfOk-weaker c.look.result _ _ (λ next found sound. look_kept c.args.tokens.now c.args.set.now c.args.depths c.args.part _ _ _ sound found) c.look.ensures.found
