use Rattle.std.proofs.Common.{rules}
use Rattle.state_file.specs.Shape.{layout_of}
use Rattle.state_file.proofs.frame.Frame.pixels_at.Goals as goal

pub before-before-requires-clause-some : goal.before-before-requires-clause-some
unfolding layout_of
before-before-requires-clause-some c = c.requires

pub returns : goal.returns
unfolding layout_of
returns c = search rules
