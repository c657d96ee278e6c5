use Rattle.std.proofs.Common.{◌≤◌, ◌^◌, arith}
use Rattle.fix_math.specs.MatrixLaws.{IsRowWithin-weaker}
use Rattle.view_blocks.proofs.Sizes.{length_within}
use Rattle.view_blocks.proofs.view.side.Goals as goal

pub narrow_vector-requires : goal.narrow_vector-requires
narrow_vector-requires c =
    let short : c.length.result ≤ 2 ^ 46 = rw c.length.ensures.value (omega (arith, length_within c.args.before.now (2 ^ 28) c.requires.short)) in
    IsRowWithin-weaker c.scaled.result c.length.result (2 ^ 46) short c.scaled.ensures.within
