use Rattle.std.proofs.Common.{refl}
use Rattle.shapes.specs.Faces.{seen_from}
use Rattle.shapes.proofs.making.half_space.Goals as goal

pub returns-clause-faces : goal.returns-clause-faces
returns-clause-faces c = λ p. rw (c.plane_row-row.ensures.value (seen_from c.args.spot.now.anchor p), c.of-limit.ensures) refl
