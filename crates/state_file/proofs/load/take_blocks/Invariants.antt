use Rattle.state_file.specs.Frames.{layout}
use Rattle.state_file.specs.Taking.{IsTaken}
use Rattle.state_file.proofs.load.take_blocks.Given as goal

abbrev pub invariant-loop-index : goal.invariant-loop-index
invariant-loop-index l = IsTaken (layout l.frame) l.image l.index l.marks l.picture
