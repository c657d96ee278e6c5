use Rattle.std.proofs.Common.{rules}
use Rattle.state_file.specs.Shape.{layout_of}
use Rattle.state_file.proofs.room.front_room.Goals as goal

pub returns : goal.returns
unfolding layout_of
returns c = search rules
