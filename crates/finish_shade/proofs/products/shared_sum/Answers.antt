use Rattle.std.proofs.Common.{◌≡◌, ◌^◌, ◌∙◌, FitsSigned, arith, to_z-of_z}
use Rattle.std.specs.Int.{w64, w128}
use Rattle.fix_math.specs.Numbers.{product_of}
use Rattle.finish_shade.proofs.Casts.{narrow_fits, narrowed}
use Rattle.finish_shade.proofs.Shares.{product_amount, product-turned}
use Rattle.finish_shade.proofs.products.shared_sum.Goals as goal

pub overflow_cast-result : goal.overflow_cast-result
overflow_cast-result c =
    let wide : FitsSigned w128 c.rounded_product.result = record { sfits = c.rounded_product.type_inv } in
    let whole : FitsSigned w64 c.args.whole = c.ranges.whole in
    let part : FitsSigned w64 c.raw.result = record { sfits = c.raw.type_inv } in
    let made = simp to_z-of_z at c.rounded_product.ensures in
    let is : c.rounded_product.result ≡ product_of c.args.part c.args.whole = (rw c.raw.ensures.value at made) ∙ product-turned c.args.whole c.args.part in
    narrow_fits c.rounded_product.result (product_of c.args.part c.args.whole) wide is
    (omega (arith, (product_amount c.args.part c.args.whole 65536 (2 ^ 52) (2 ^ 52) c.requires.part c.requires.whole (omega arith)).high))

pub returns-clause-value : goal.returns-clause-value
returns-clause-value c =
    let wide : FitsSigned w128 c.rounded_product.result = record { sfits = c.rounded_product.type_inv } in
    let whole : FitsSigned w64 c.args.whole = c.ranges.whole in
    let part : FitsSigned w64 c.raw.result = record { sfits = c.raw.type_inv } in
    let made = simp to_z-of_z at c.rounded_product.ensures in
    let is : c.rounded_product.result ≡ product_of c.args.part c.args.whole = (rw c.raw.ensures.value at made) ∙ product-turned c.args.whole c.args.part in
    narrowed c.rounded_product.result (product_of c.args.part c.args.whole) wide is
    (omega (arith, (product_amount c.args.part c.args.whole 65536 (2 ^ 52) (2 ^ 52) c.requires.part c.requires.whole (omega arith)).high))

pub returns-clause-amount : goal.returns-clause-amount
returns-clause-amount c =
    let wide : FitsSigned w128 c.rounded_product.result = record { sfits = c.rounded_product.type_inv } in
    let whole : FitsSigned w64 c.args.whole = c.ranges.whole in
    let part : FitsSigned w64 c.raw.result = record { sfits = c.raw.type_inv } in
    let made = simp to_z-of_z at c.rounded_product.ensures in
    let is : c.rounded_product.result ≡ product_of c.args.part c.args.whole = (rw c.raw.ensures.value at made) ∙ product-turned c.args.whole c.args.part in
    let amount = product_amount c.args.part c.args.whole 65536 (2 ^ 52) (2 ^ 52) c.requires.part c.requires.whole (omega arith) in
    rw (narrowed c.rounded_product.result (product_of c.args.part c.args.whole) wide is (omega (arith, amount.high))) amount
