use Rattle.block_pool_rows.proofs.Noted.{none_set}
use Rattle.block_pool_rows.proofs.ink.Ink.new.Goals as goal

pub returns : goal.returns
returns c x = none_set 256 x
