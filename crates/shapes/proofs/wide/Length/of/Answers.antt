use Rattle.std.proofs.Common.{arith, ◌*ℤ◌, FitsSigned, refl, w64}
use Rattle.std.proofs.lemmas.Int.{to_z-of_z, fits_signed_from_abs}
use Rattle.shapes.proofs.MakingLemmas.{length_small, length_low}
use Rattle.shapes.proofs.wide.Length.of.Goals as goal

pub overflow_mul-result : goal.overflow_mul-result
overflow_mul-result c =
    let f : FitsSigned w64 c.raw.result = record { sfits = c.raw.type_inv } in
    let g : FitsSigned w64 c.scale-one.result = record { sfits = c.scale-one.type_inv } in
    simp to_z-of_z (rw (c.raw.ensures.value, c.scale-one.ensures) (fits_signed_from_abs w64 _ (omega (arith, length_small c.args.a c.args.spot.now.e c.requires.room))))

pub invariant_of-result : goal.invariant_of-result
invariant_of-result c =
    let f : FitsSigned w64 c.raw.result = record { sfits = c.raw.type_inv } in
    let g : FitsSigned w64 c.scale-one.result = record { sfits = c.scale-one.type_inv } in
    let m = length_small c.args.a c.args.spot.now.e c.requires.room in
    let p : FitsSigned w64 (c.raw.result *ℤ c.scale-one.result) = rw (c.raw.ensures.value, c.scale-one.ensures) (fits_signed_from_abs w64 _ (omega (arith, m))) in
    simp to_z-of_z (rw (c.raw.ensures.value, c.scale-one.ensures) (record { low = length_low c.args.a _ c.requires.low; high = omega (arith, m) }))

pub returns : goal.returns
returns c =
    let f : FitsSigned w64 c.raw.result = record { sfits = c.raw.type_inv } in
    let g : FitsSigned w64 c.scale-one.result = record { sfits = c.scale-one.type_inv } in
    let m = length_small c.args.a c.args.spot.now.e c.requires.room in
    let p : FitsSigned w64 (c.raw.result *ℤ c.scale-one.result) = rw (c.raw.ensures.value, c.scale-one.ensures) (fits_signed_from_abs w64 _ (omega (arith, m))) in
    simp to_z-of_z (rw (c.raw.ensures.value, c.scale-one.ensures) refl)
