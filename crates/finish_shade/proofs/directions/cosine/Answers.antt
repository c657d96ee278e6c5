use Rattle.std.proofs.Common.{FitsSigned, arith}
use Rattle.std.specs.Int.{w128}
use Rattle.fix_math.specs.Vectors.{rounded_dot_of}
use Rattle.finish_shade.proofs.Cosines.{cosine_small}
use Rattle.finish_shade.proofs.Casts.{narrow_fits, narrowed}
use Rattle.finish_shade.proofs.directions.cosine.Goals as goal

pub overflow_cast-result : goal.overflow_cast-result
overflow_cast-result c =
    let wide : FitsSigned w128 c.rounded_dot.result = record { sfits = c.rounded_dot.type_inv } in
    let is = c.rounded_dot.ensures in
    narrow_fits c.rounded_dot.result (rounded_dot_of c.args.v.now c.args.w.now) wide is (omega (arith, cosine_small c.args.v.now c.args.w.now c.requires.v c.requires.w))

pub returns-clause-value : goal.returns-clause-value
returns-clause-value c =
    let wide : FitsSigned w128 c.rounded_dot.result = record { sfits = c.rounded_dot.type_inv } in
    let is = c.rounded_dot.ensures in
    narrowed c.rounded_dot.result (rounded_dot_of c.args.v.now c.args.w.now) wide is (omega (arith, cosine_small c.args.v.now c.args.w.now c.requires.v c.requires.w))

pub returns-clause-small : goal.returns-clause-small
returns-clause-small c =
    let wide : FitsSigned w128 c.rounded_dot.result = record { sfits = c.rounded_dot.type_inv } in
    let is = c.rounded_dot.ensures in
    rw (narrowed c.rounded_dot.result (rounded_dot_of c.args.v.now c.args.w.now) wide is (omega (arith, cosine_small c.args.v.now c.args.w.now c.requires.v c.requires.w))) (cosine_small c.args.v.now c.args.w.now c.requires.v c.requires.w)
