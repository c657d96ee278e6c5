use Rattle.std.proofs.Common.{arith, ◌-◌, ◌*ℤ◌, FitsSigned, refl}
use Rattle.std.proofs.lemmas.Int.{to_z-of_z, fits_signed_from_abs}
use mir.Syntax.{w128}
use Rattle.shapes.proofs.MakingLemmas.{bottom_small}
use Rattle.shapes.proofs.making.lengthened.Goals as goal

pub overflow_mul-result : goal.overflow_mul-result
overflow_mul-result c =
    let f : FitsSigned w128 c.wide.result = record { sfits = c.wide.type_inv } in
    let g : FitsSigned w128 c.power-one.result = record { sfits = c.power-one.type_inv } in
    let m = bottom_small c.args.h (48 - c.args.e) c.requires.h_small (omega arith) in
    let p : FitsSigned w128 (c.wide.result *ℤ c.power-one.result) = rw (c.wide.ensures.value, c.power-one.ensures) (fits_signed_from_abs w128 _ (omega (arith, m))) in
    simp to_z-of_z p

pub invariant_of-result : goal.invariant_of-result
invariant_of-result c =
    let f : FitsSigned w128 c.wide.result = record { sfits = c.wide.type_inv } in
    let g : FitsSigned w128 c.power-one.result = record { sfits = c.power-one.type_inv } in
    let m = bottom_small c.args.h (48 - c.args.e) c.requires.h_small (omega arith) in
    let p : FitsSigned w128 (c.wide.result *ℤ c.power-one.result) = rw (c.wide.ensures.value, c.power-one.ensures) (fits_signed_from_abs w128 _ (omega (arith, m))) in
    simp to_z-of_z (rw (c.wide.ensures.value, c.power-one.ensures) (record { small = omega (arith, m) }))

pub returns : goal.returns
returns c =
    let f : FitsSigned w128 c.wide.result = record { sfits = c.wide.type_inv } in
    let g : FitsSigned w128 c.power-one.result = record { sfits = c.power-one.type_inv } in
    let m = bottom_small c.args.h (48 - c.args.e) c.requires.h_small (omega arith) in
    let p : FitsSigned w128 (c.wide.result *ℤ c.power-one.result) = rw (c.wide.ensures.value, c.power-one.ensures) (fits_signed_from_abs w128 _ (omega (arith, m))) in
    simp to_z-of_z (rw (c.wide.ensures.value, c.power-one.ensures) refl)
