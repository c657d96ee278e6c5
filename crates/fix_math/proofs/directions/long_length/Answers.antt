use Rattle.std.proofs.Common.{◌+◌, ◌*◌, unsigned_abs, arith}
use Rattle.fix_math.specs.DirectionLaws.{within_length}
use Rattle.fix_math.proofs.LengthLemmas.{length_within}
use Rattle.fix_math.proofs.directions.long_length.Goals as goal

pub returns-clause-x_within : goal.returns-clause-x_within
returns-clause-x_within c =
    let v = c.args.v.now in
    within_length (unsigned_abs v.x) (unsigned_abs v.y * unsigned_abs v.y + unsigned_abs v.z * unsigned_abs v.z) c.root_with_reciprocal.result.root (omega arith)

pub returns-clause-y_within : goal.returns-clause-y_within
returns-clause-y_within c =
    let v = c.args.v.now in
    within_length (unsigned_abs v.y) (unsigned_abs v.x * unsigned_abs v.x + unsigned_abs v.z * unsigned_abs v.z) c.root_with_reciprocal.result.root (omega arith)

pub returns-clause-z_within : goal.returns-clause-z_within
returns-clause-z_within c =
    let v = c.args.v.now in
    within_length (unsigned_abs v.z) (unsigned_abs v.x * unsigned_abs v.x + unsigned_abs v.y * unsigned_abs v.y) c.root_with_reciprocal.result.root (omega arith)

pub returns-clause-short : goal.returns-clause-short
returns-clause-short c =
    let v = c.args.v.now in
    length_within (unsigned_abs v.x) (unsigned_abs v.y) (unsigned_abs v.z) c.root_with_reciprocal.result.root (omega arith)
