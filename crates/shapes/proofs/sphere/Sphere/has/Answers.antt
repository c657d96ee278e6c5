use Rattle.std.proofs.Common.{◌≡◌, rules, w64, FitsSigned}
use Rattle.std.proofs.lemmas.Int.{to_z-of_z}
use Rattle.std.specs.Int.{w128}
use Rattle.shapes.specs.Rays.{position_of}
use Rattle.shapes.specs.Spheres.{square}
use Rattle.shapes.proofs.UprightLemmas.{in_sphere_test}
use Rattle.shapes.proofs.sphere.Sphere.has.Goals as goal

pub returns : goal.returns
returns c =
    let radius : FitsSigned w64 c.long_radius.result = record { sfits = c.long_radius.type_inv } in
    let distance : FitsSigned w128 c.at.result = record { sfits = c.at.type_inv } in
    let limit : c.of.result.value ≡ square c.long_radius.result = simp to_z-of_z at c.of.ensures.value in
    let most : FitsSigned w128 c.of.result.value = search rules in
    simp to_z-of_z (in_sphere_test c.of_point-distance.result c.args.self.now.centre c.args.self.now.radius c.at.result c.of.result.value c.long_radius.result (position_of c.args.p.now)
    c.at.ensures.value c.of_point-distance.ensures limit c.long_radius.ensures.value)
