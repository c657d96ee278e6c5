use Rattle.std.proofs.Common.{◌≡◌, ℤ, ◌^◌, ◌*ℤ◌, FitsSigned, ap, ◌∙◌, arith, to_z-of_z}
use Rattle.std.specs.Int.{w128}
use Rattle.std.proofs.lemmas.Int.{ints, fits_signed_from_abs}
use Rattle.fix_math.specs.Numbers.{rnd}
use Rattle.pigment.proofs.Ways.{climb_small}
use Rattle.pigment.proofs.maps.climb.Goals as goal

pub returns-clause-small : goal.returns-clause-small
returns-clause-small c =
    let way = c.args.way in
    let product : FitsSigned w128 c.product.result = record { sfits = c.product.type_inv } in
    let whole : FitsSigned w128 way.whole = fits_signed_from_abs w128 way.whole (omega (arith, way.short)) in
    let rise : FitsSigned w128 c.args.rise = c.ranges.rise in
    let done : FitsSigned w128 way.done = fits_signed_from_abs w128 way.done (omega (arith, ints, way.some, way.within, way.short)) in
    let made : c.product.result ≡ c.args.rise *ℤ way.done = simp to_z-of_z at c.product.ensures.value in
    let result : FitsSigned w128 c.rounded.result = record { sfits = c.rounded.type_inv } in
    let is : c.rounded.result ≡ rnd c.product.result way.whole = simp to_z-of_z at c.rounded.ensures.value in
    rw (to_z-of_z result, is ∙ ap (λ (z : ℤ). rnd z way.whole) made)
    (climb_small c.args.rise way.done way.whole (2 ^ 48) way.some way.within c.requires)
