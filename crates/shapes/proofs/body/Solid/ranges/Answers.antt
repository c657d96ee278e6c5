use Rattle.shapes.specs.Faces.{all_hold}
use Rattle.shapes.specs.Rays.{point_at}
use Rattle.shapes.specs.Solids.{solid_faces}
use Rattle.shapes.proofs.Told.{path_numbers}
use Rattle.shapes.proofs.body.Solid.ranges.Goals as goal

pub returns-clause-numbers : goal.returns-clause-numbers
returns-clause-numbers c = λ t.
    path_numbers c.stretches.result t c.args.path.now.end (all_hold (solid_faces c.args.self.now (point_at c.args.path.now.ray t))) _ (c.stretches.ensures t) (c.of_stretches.ensures.numbers t)
