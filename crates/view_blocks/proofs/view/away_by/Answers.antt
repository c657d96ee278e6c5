use Rattle.std.proofs.Common.{◌^◌, FitsSigned, to_z-of_z, arith}
use Rattle.std.proofs.lemmas.Int.{fits_signed_from_abs}
use Rattle.std.specs.Int.{w64}
use Rattle.view_blocks.proofs.Sizes.{length_within, half_sine}
use Rattle.view_blocks.proofs.view.away_by.Goals as goal

pub by_tangent-requires-clause-length : goal.by_tangent-requires-clause-length
by_tangent-requires-clause-length c = rw c.length.ensures.value (omega (arith, length_within c.args.right.now (2 ^ 28) c.requires.right))

pub by_tangent-requires-clause-sine_low : goal.by_tangent-requires-clause-sine_low
by_tangent-requires-clause-sine_low c =
    let fits : FitsSigned w64 c.sincos-sine.result.0 = fits_signed_from_abs w64 c.sincos-sine.result.0 (omega (arith, c.sincos-sine.ensures.sine_small)) in
    rw (to_z-of_z fits, c.sincos-sine.ensures.sine, c.half_of.ensures) (half_sine c.args.angle c.requires.angle)
