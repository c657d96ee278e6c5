use Rattle.finish_shade.specs.Finishes.{brightness, specular_cosine}
use Rattle.finish_shade.proofs.Smooth.{dark}
use Rattle.finish_shade.proofs.finish.specular_part.Goals as goal

pub returns-then-is_none-clause-value : goal.returns-then-is_none-clause-value
returns-then-is_none-clause-value c =
    let finish = c.args.finish.now in
    dark c.args.light.now finish.specular (brightness (specular_cosine c.args.d.now c.args.n.now c.args.ld.now) finish.gloss) (c.is_none.ensures c.if-is_none.true)
