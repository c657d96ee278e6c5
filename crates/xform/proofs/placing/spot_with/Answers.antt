use Rattle.xform.specs.SpotLaws.{spot_at_is_spot}
use Rattle.xform.proofs.placing.spot_with.Goals as goal

pub returns-clause-spot : goal.returns-clause-spot
returns-clause-spot c =
    rw (c.residual_rows-residual.ensures, c.to_object-n.ensures.value, c.to_world-m.ensures.value)
    (spot_at_is_spot c.args.x.now c.args.frame.now c.args.anchor c.args.e c.requires.placed c.requires.frame_small c.requires.anchor_small c.requires.least c.requires.most)
