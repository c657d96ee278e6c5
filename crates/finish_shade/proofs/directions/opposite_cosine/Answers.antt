use Rattle.std.proofs.Common.{FitsSigned, arith}
use Rattle.std.specs.Int.{w128}
use Rattle.std.specs.Prelude.{neg_ℤ, pos}
use Rattle.fix_math.specs.Numbers.{rnd}
use Rattle.fix_math.specs.Vectors.{dot_of}
use Rattle.finish_shade.proofs.Cosines.{opposite_small}
use Rattle.finish_shade.proofs.Casts.{narrow_fits, narrowed}
use Rattle.finish_shade.proofs.directions.opposite_cosine.Goals as goal

pub overflow_cast-result : goal.overflow_cast-result
overflow_cast-result c =
    let wide : FitsSigned w128 c.rounded_opposite_dot.result = record { sfits = c.rounded_opposite_dot.type_inv } in
    let is = c.rounded_opposite_dot.ensures in
    narrow_fits c.rounded_opposite_dot.result (rnd (neg_ℤ (dot_of c.args.v.now c.args.w.now)) (pos 65536)) wide is (omega (arith, opposite_small c.args.v.now c.args.w.now c.requires.v c.requires.w))

pub returns-clause-value : goal.returns-clause-value
returns-clause-value c =
    let wide : FitsSigned w128 c.rounded_opposite_dot.result = record { sfits = c.rounded_opposite_dot.type_inv } in
    let is = c.rounded_opposite_dot.ensures in
    narrowed c.rounded_opposite_dot.result (rnd (neg_ℤ (dot_of c.args.v.now c.args.w.now)) (pos 65536)) wide is (omega (arith, opposite_small c.args.v.now c.args.w.now c.requires.v c.requires.w))

pub returns-clause-small : goal.returns-clause-small
returns-clause-small c =
    let wide : FitsSigned w128 c.rounded_opposite_dot.result = record { sfits = c.rounded_opposite_dot.type_inv } in
    let is = c.rounded_opposite_dot.ensures in
    rw (narrowed c.rounded_opposite_dot.result (rnd (neg_ℤ (dot_of c.args.v.now c.args.w.now)) (pos 65536)) wide is (omega (arith, opposite_small c.args.v.now c.args.w.now c.requires.v c.requires.w))) (opposite_small c.args.v.now c.args.w.now c.requires.v c.requires.w)
