use Rattle.std.proofs.Common.{arith, ◌*ℤ◌, FitsSigned, refl}
use Rattle.std.proofs.lemmas.Int.{to_z-of_z, fits_signed_from_abs}
use mir.Syntax.{w128}
use Rattle.shapes.proofs.MakingLemmas.{limit_small}
use Rattle.shapes.proofs.wide.Limit.of.Goals as goal

pub overflow_mul-result : goal.overflow_mul-result
overflow_mul-result c =
    let f : FitsSigned w128 c.wide.result = record { sfits = c.wide.type_inv } in
    let g : FitsSigned w128 c.wide_scale-one.result = record { sfits = c.wide_scale-one.type_inv } in
    simp to_z-of_z (rw (c.wide.ensures.value, c.wide_scale-one.ensures) (fits_signed_from_abs w128 _ (omega (arith, limit_small c.args.d c.args.spot.now.e c.requires.room))))

pub invariant_of-result : goal.invariant_of-result
invariant_of-result c =
    let f : FitsSigned w128 c.wide.result = record { sfits = c.wide.type_inv } in
    let g : FitsSigned w128 c.wide_scale-one.result = record { sfits = c.wide_scale-one.type_inv } in
    let m = limit_small c.args.d c.args.spot.now.e c.requires.room in
    let p : FitsSigned w128 (c.wide.result *ℤ c.wide_scale-one.result) = rw (c.wide.ensures.value, c.wide_scale-one.ensures) (fits_signed_from_abs w128 _ (omega (arith, m))) in
    simp to_z-of_z (rw (c.wide.ensures.value, c.wide_scale-one.ensures) (record { small = omega (arith, m) }))

pub returns : goal.returns
returns c =
    let f : FitsSigned w128 c.wide.result = record { sfits = c.wide.type_inv } in
    let g : FitsSigned w128 c.wide_scale-one.result = record { sfits = c.wide_scale-one.type_inv } in
    let m = limit_small c.args.d c.args.spot.now.e c.requires.room in
    let p : FitsSigned w128 (c.wide.result *ℤ c.wide_scale-one.result) = rw (c.wide.ensures.value, c.wide_scale-one.ensures) (fits_signed_from_abs w128 _ (omega (arith, m))) in
    simp to_z-of_z (rw (c.wide.ensures.value, c.wide_scale-one.ensures) refl)
