use Rattle.std.proofs.Common.{ap, Bool}
use Rattle.fix_math.specs.declared.fix.V3.{V3}
use Rattle.shapes.specs.Faces.{seen_from, in_ball}
use Rattle.shapes.specs.Rays.{point_at}
use Rattle.shapes.specs.Lines.{sight_at}
use Rattle.shapes.specs.Bodies.{own_of}
use Rattle.shapes.proofs.Told.{shell_told}
use Rattle.shapes.proofs.globe.Globe.turned_stretches.Goals as goal

pub returns : goal.returns
returns c = λ t.
    let globe = c.args.self.now in
    let u : V3 = seen_from globe.axes.anchor (point_at c.args.path.now.ray t) in
    let seen = c.of_path-sight.ensures t in
    let face : V3 → Bool = λ v. in_ball globe.radius.value (own_of globe.axes v) in
    shell_told c.shell.result t c.args.path.now.end (face (sight_at c.of_path-sight.result t)) (face u) (ap face seen) (c.shell.ensures t)
