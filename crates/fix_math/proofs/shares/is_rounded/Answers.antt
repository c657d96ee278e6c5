use Rattle.std.proofs.Common.{◌*ℤ◌, pos, FitsSigned, arith, sym, to_z-of_z}
use Rattle.std.specs.Int.{w128}
use Rattle.std.proofs.lemmas.Int.{ints, fits_signed_from_abs}
use Rattle.fix_math.specs.Floor.{rnd_is}
use Rattle.fix_math.specs.Ring.{mul-add_left}
use Rattle.fix_math.proofs.shares.is_rounded.Goals as goal

pub returns : goal.returns
returns c is_rest =
    let length : FitsSigned w128 (pos c.args.length) = fits_signed_from_abs w128 _ (omega (arith, ints, c.ranges.length.fits)) in
    let fits_raised : FitsSigned w128 c.raised.result = record { sfits = c.raised.type_inv } in
    let fits_multiple : FitsSigned w128 c.multiple.result = record { sfits = c.multiple.type_inv } in
    let fits_left : FitsSigned w128 c.difference-left.result = record { sfits = c.difference-left.type_inv } in
    let left = simp to_z-of_z at c.difference-left.ensures.value in
    let least = simp to_z-of_z at c.is_rest.ensures.least is_rest in
    let most = simp to_z-of_z at c.is_rest.ensures.most is_rest in
    let twice = mul-add_left c.args.share (pos c.args.length) (pos c.args.length) in
    sym (rnd_is (c.args.component *ℤ pos 4294967296) (pos c.args.length) c.args.share (omega (arith, ints, c.requires.whole))
    (omega (arith, ints, least, left, c.raised.ensures.value, c.multiple.ensures.value, twice))
    (omega (arith, ints, most, left, c.raised.ensures.value, c.multiple.ensures.value, twice)))
