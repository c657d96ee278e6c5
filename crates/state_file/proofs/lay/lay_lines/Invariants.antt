use Rattle.state_file.specs.Lines.{LaysLines}
use Rattle.state_file.proofs.lay.lay_lines.Given as goal

abbrev pub invariant-loop-row : goal.invariant-loop-row
invariant-loop-row l = LaysLines l.start l.stride l.line l.row l.bytes l.initial.out l.out
