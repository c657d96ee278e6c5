use Rattle.std.proofs.Common.{◌^◌, FitsSigned, arith, to_z-of_z}
use Rattle.std.specs.Int.{w64, w128}
use Rattle.fix_math.specs.Numbers.{product_of}
use Rattle.finish_shade.proofs.Shares.{product_within}
use Rattle.finish_shade.proofs.Casts.{narrow_fits, narrowed}
use Rattle.finish_shade.proofs.products.short_product.Goals as goal

pub overflow_cast-result : goal.overflow_cast-result
overflow_cast-result c =
    let wide : FitsSigned w128 c.rounded_product.result = record { sfits = c.rounded_product.type_inv } in
    let a : FitsSigned w64 c.args.a = c.ranges.a in
    let b : FitsSigned w64 c.args.b = c.ranges.b in
    let is = simp to_z-of_z at c.rounded_product.ensures in
    narrow_fits c.rounded_product.result (product_of c.args.a c.args.b) wide is (omega (arith, product_within c.args.a c.args.b (2 ^ 30) (2 ^ 30) (2 ^ 44) c.requires.a_small c.requires.b_small (omega arith)))

pub returns-clause-value : goal.returns-clause-value
returns-clause-value c =
    let wide : FitsSigned w128 c.rounded_product.result = record { sfits = c.rounded_product.type_inv } in
    let a : FitsSigned w64 c.args.a = c.ranges.a in
    let b : FitsSigned w64 c.args.b = c.ranges.b in
    let is = simp to_z-of_z at c.rounded_product.ensures in
    narrowed c.rounded_product.result (product_of c.args.a c.args.b) wide is (omega (arith, product_within c.args.a c.args.b (2 ^ 30) (2 ^ 30) (2 ^ 44) c.requires.a_small c.requires.b_small (omega arith)))

pub returns-clause-small : goal.returns-clause-small
returns-clause-small c =
    let wide : FitsSigned w128 c.rounded_product.result = record { sfits = c.rounded_product.type_inv } in
    let a : FitsSigned w64 c.args.a = c.ranges.a in
    let b : FitsSigned w64 c.args.b = c.ranges.b in
    let is = simp to_z-of_z at c.rounded_product.ensures in
    rw (narrowed c.rounded_product.result (product_of c.args.a c.args.b) wide is (omega (arith, product_within c.args.a c.args.b (2 ^ 30) (2 ^ 30) (2 ^ 44) c.requires.a_small c.requires.b_small (omega arith)))) (product_within c.args.a c.args.b (2 ^ 30) (2 ^ 30) (2 ^ 44) c.requires.a_small c.requires.b_small (omega arith))
