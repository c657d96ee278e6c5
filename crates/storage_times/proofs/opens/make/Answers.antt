use Rattle.std.proofs.Common.{sym, subst, List}
use Rattle.state_file.specs.declared.block.DoneBlock.{DoneBlock}
use Rattle.storage_times.proofs.Squares.{are_blocks}
use Rattle.storage_times.specs.Squares.{AreNumbered, IsSquare}
use Rattle.storage_times.proofs.opens.make.Goals as goal

pub timed_commit-requires-clause-blocks : goal.timed_commit-requires-clause-blocks
timed_commit-requires-clause-blocks c =
    let pen = c.in_ok-pen.pen in
    are_blocks 128 pen.frame.geometry pen.frame.key.items c.deref.result.now
    (subst (λ g. IsSquare 128 g) (sym c.in_ok-pen.ensures.geometry) c.large.ensures.square)
    (subst (λ (list : List DoneBlock). AreNumbered 16384 list) (sym c.deref.ensures.value) c.in_ok-blocks.ensures)
