use Rattle.std.proofs.Common.{subst, Option, IfSome}
use Rattle.shapes.specs.Rays.{point_at}
use Rattle.shapes.specs.Upright.{IsPlainBall}
use Rattle.shapes.specs.declared.sphere.Sphere.{Sphere}
use Rattle.shapes.proofs.UprightLemmas.{plain_ball_told}
use Rattle.shapes.proofs.globe.Globe.stretches.Goals as goal

pub returns-in-Some : goal.returns-in-Some
returns-in-Some c = λ t.
    let globe = c.args.self.now in
    let h : IsPlainBall globe.axes globe.radius.value c.in-Some.sphere =
    subst (λ (o : Option Sphere). IfSome o (λ sphere. IsPlainBall globe.axes globe.radius.value sphere)) c.in-Some.is globe.same in
    plain_ball_told c.alone.result t c.args.path.now.end _ globe.axes globe.radius.value c.in-Some.sphere (point_at c.args.path.now.ray t) h
    (c.alone.ensures t) (c.row.ensures t)
