use Rattle.std.proofs.Common.{arith, ◌*ℤ◌, FitsSigned, refl}
use Rattle.std.proofs.lemmas.Int.{to_z-of_z, fits_signed_from_abs}
use mir.Syntax.{w64}
use Rattle.leaf_boxes.proofs.Rooms.{length_small}
use Rattle.leaf_boxes.proofs.reach.length.Goals as goal

pub overflow_mul-result : goal.overflow_mul-result
overflow_mul-result c =
    let f : FitsSigned w64 c.raw.result = record { sfits = c.raw.type_inv } in
    let g : FitsSigned w64 c.scale.result = record { sfits = c.scale.type_inv } in
    let m = length_small c.args.a c.args.spot.now.e c.requires.room in
    let p : FitsSigned w64 (c.raw.result *ℤ c.scale.result) = rw (c.raw.ensures.value, c.scale.ensures) (fits_signed_from_abs w64 _ (omega (arith, m))) in
    simp to_z-of_z p

pub returns-clause-value : goal.returns-clause-value
returns-clause-value c =
    let f : FitsSigned w64 c.raw.result = record { sfits = c.raw.type_inv } in
    let g : FitsSigned w64 c.scale.result = record { sfits = c.scale.type_inv } in
    let m = length_small c.args.a c.args.spot.now.e c.requires.room in
    let p : FitsSigned w64 (c.raw.result *ℤ c.scale.result) = rw (c.raw.ensures.value, c.scale.ensures) (fits_signed_from_abs w64 _ (omega (arith, m))) in
    simp to_z-of_z (rw (c.raw.ensures.value, c.scale.ensures) refl)

pub returns-clause-small : goal.returns-clause-small
returns-clause-small c =
    let f : FitsSigned w64 c.raw.result = record { sfits = c.raw.type_inv } in
    let g : FitsSigned w64 c.scale.result = record { sfits = c.scale.type_inv } in
    let m = length_small c.args.a c.args.spot.now.e c.requires.room in
    let p : FitsSigned w64 (c.raw.result *ℤ c.scale.result) = rw (c.raw.ensures.value, c.scale.ensures) (fits_signed_from_abs w64 _ (omega (arith, m))) in
    simp to_z-of_z (rw (c.raw.ensures.value, c.scale.ensures) m)
