use Rattle.finish_shade.specs.Finishes.{brightness, phong_cosine}
use Rattle.finish_shade.proofs.Smooth.{dark}
use Rattle.finish_shade.proofs.finish.phong_part.Goals as goal

pub returns-then-is_none-clause-value : goal.returns-then-is_none-clause-value
returns-then-is_none-clause-value c =
    let finish = c.args.finish.now in
    dark c.args.light.now finish.phong (brightness (phong_cosine c.args.d.now c.args.n.now c.args.ld.now) finish.phong_size) (c.is_none.ensures c.if-is_none.true)
