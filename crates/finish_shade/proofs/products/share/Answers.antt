use Rattle.std.proofs.Common.{◌^◌, ◌*ℤ◌, FitsSigned, arith, to_z-of_z}
use Rattle.std.specs.Int.{w128}
use Rattle.std.proofs.lemmas.Int.{fits_signed_mul}
use Rattle.finish_shade.proofs.Shares.{share_amount}
use Rattle.finish_shade.proofs.products.share.Goals as goal

pub returns-clause-small : goal.returns-clause-small
returns-clause-small c =
    let part : FitsSigned w128 c.wide.result = record { sfits = c.wide.type_inv } in
    let whole : FitsSigned w128 c.wide-2.result = record { sfits = c.wide-2.type_inv } in
    let product : FitsSigned w128 (c.wide.result *ℤ c.wide-2.result) =
    fits_signed_mul w128 c.wide.result c.wide-2.result (2 ^ 47) (2 ^ 47) (omega (arith, c.wide.ensures.small)) (omega (arith, c.wide-2.ensures.small)) (omega arith) in
    let result : FitsSigned w128 c.rounded_shift.result = record { sfits = c.rounded_shift.type_inv } in
    let is = simp to_z-of_z at c.rounded_shift.ensures.value in
    rw (c.from_known.ensures, to_z-of_z result, is, c.wide.ensures.value, c.wide-2.ensures.value)
    ((share_amount c.args.part c.args.whole c.requires.part c.requires.whole).high)
