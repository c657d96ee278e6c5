use Rattle.std.proofs.Common.{rules}
use Rattle.state_file.specs.Shape.{layout_of}
use Rattle.state_file.proofs.frame.Frame.size_of.Goals as goal

pub size-requires-clause-some : goal.size-requires-clause-some
unfolding layout_of
size-requires-clause-some c = c.requires

pub returns : goal.returns
unfolding layout_of
returns c = search rules
