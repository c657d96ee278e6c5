use Rattle.std.proofs.Common.{◌≡◌, FitsSigned, ap, ◌∙◌, arith, to_z-of_z, w64}
use Rattle.std.proofs.lemmas.Int.{ints}
use Rattle.std.specs.Prelude.{unsigned_abs}
use Rattle.xform.specs.declared.transform.Spot.{Spot}
use Rattle.xform.specs.Placing.{exponent_of}
use Rattle.xform.specs.SpotLaws.{extent_room}
use Rattle.xform.proofs.SpotLemmas.{spot-is}
use Rattle.xform.proofs.placing.spot.Goals as goal

pub returns-in-Ok-clause-value : goal.returns-in-Ok-clause-value
returns-in-Ok-clause-value c =
    let extent : FitsSigned w64 c.args.extent = c.ranges.extent in
    let size = simp to_z-of_z at c.unsigned_abs.ensures.value in
    spot-is c.args.x.now c.args.frame.now c.args.c c.in-Ok.anchor c.point.result c.exponent.result c.unsigned_abs.result (unsigned_abs c.args.extent) c.spot_with.result
    c.point.ensures.value c.in-Ok.ensures.value c.exponent.ensures.value size c.spot_with.ensures.value

pub returns-in-Ok-clause-room : goal.returns-in-Ok-clause-room
returns-in-Ok-clause-room c =
    let extent : FitsSigned w64 c.args.extent = c.ranges.extent in
    let size = simp to_z-of_z at c.unsigned_abs.ensures.value in
    let e_is : c.spot_with.result.e ≡ exponent_of (unsigned_abs c.args.extent) = ap (λ (s : Spot). s.e) c.spot_with.ensures.value ∙ c.exponent.ensures.value ∙ ap exponent_of size in
    rw e_is (extent_room (unsigned_abs c.args.extent) (omega (arith, ints)))
