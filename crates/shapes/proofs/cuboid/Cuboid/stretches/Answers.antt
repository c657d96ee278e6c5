use Rattle.std.proofs.Common.{subst, Option, IfSome}
use Rattle.fix_math.specs.declared.fix.V3.{V3}
use Rattle.shapes.specs.Faces.{seen_from}
use Rattle.shapes.specs.Rays.{point_at}
use Rattle.shapes.specs.Upright.{IsPlainBox}
use Rattle.shapes.specs.declared.upright.Upright.{Upright}
use Rattle.shapes.proofs.UprightLemmas.{plain_box_told}
use Rattle.shapes.proofs.cuboid.Cuboid.stretches.Goals as goal

pub returns-in-Some : goal.returns-in-Some
returns-in-Some c = λ t.
    let cuboid = c.args.self.now in
    let u : V3 = seen_from cuboid.axes.anchor (point_at c.args.path.now.ray t) in
    let h : IsPlainBox cuboid.axes cuboid.x.value cuboid.y.value cuboid.z.value c.in-Some.upright =
    subst (λ (o : Option Upright). IfSome o (λ found. IsPlainBox cuboid.axes cuboid.x.value cuboid.y.value cuboid.z.value found)) c.in-Some.is cuboid.same in
    plain_box_told c.alone.result t c.args.path.now.end _ cuboid.axes cuboid.x.value cuboid.y.value cuboid.z.value c.in-Some.upright u h
    cuboid.x.low cuboid.y.low cuboid.z.low (c.alone.ensures t) (c.span.ensures t)
