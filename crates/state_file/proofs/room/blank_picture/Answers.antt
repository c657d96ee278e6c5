use Rattle.std.proofs.Common.{rules}
use Rattle.state_file.specs.Shape.{layout_of}
use Rattle.state_file.proofs.room.blank_picture.Goals as goal

pub returns-clause-long : goal.returns-clause-long
unfolding layout_of
returns-clause-long c = search rules
