use Rattle.std.proofs.Common.{sym, subst}
use Rattle.storage_times.proofs.Squares.{are_blocks}
use Rattle.storage_times.specs.Squares.{IsSquare}
use Rattle.storage_times.proofs.commits.commit.Goals as goal

pub timed_commit-requires-clause-blocks : goal.timed_commit-requires-clause-blocks
timed_commit-requires-clause-blocks c =
    let pen = c.in_ok-pen.pen in
    are_blocks 8 pen.frame.geometry pen.frame.key.items c.args.blocks.now
    (subst (λ g. IsSquare 8 g) (sym c.in_ok-pen.ensures.geometry) c.small.ensures.square) c.requires
