use Rattle.frame_trace.proofs.Kept.{read_at}
use Rattle.frame_trace.proofs.smooth.stored.Goals as goal

pub returns : goal.returns
returns c = read_at c.args.colours.now.items c.args.k c.index.result.now c.requires c.index.ensures
