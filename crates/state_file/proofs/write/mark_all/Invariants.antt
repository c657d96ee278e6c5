use Rattle.state_file.proofs.Given.{MarksUpTo}
use Rattle.state_file.proofs.write.mark_all.Given as goal

abbrev pub invariant-loop-block : goal.invariant-loop-block
invariant-loop-block l = MarksUpTo l.mark l.blocks l.block-index l.initial.marks l.marks
