use Rattle.std.proofs.Common.{subst, Option, IfSome}
use Rattle.shapes.specs.Rays.{position_of}
use Rattle.shapes.specs.Upright.{IsPlainBall}
use Rattle.shapes.specs.declared.sphere.Sphere.{Sphere}
use Rattle.shapes.proofs.UprightLemmas.{plain_ball_has}
use Rattle.shapes.proofs.globe.Globe.has.Goals as goal

pub returns-in-Some : goal.returns-in-Some
returns-in-Some c =
    let globe = c.args.self.now in
    let h : IsPlainBall globe.axes globe.radius.value c.in-Some.sphere =
    subst (λ (o : Option Sphere). IfSome o (λ sphere. IsPlainBall globe.axes globe.radius.value sphere)) c.in-Some.is globe.same in
    plain_ball_has c.has.result globe.axes globe.radius.value c.in-Some.sphere (position_of c.args.p.now) h c.has.ensures
