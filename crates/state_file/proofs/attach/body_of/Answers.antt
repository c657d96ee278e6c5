use Rattle.state_file.proofs.Drawing.{tail_long, tail_at}
use Rattle.state_file.proofs.attach.body_of.Goals as goal

pub returns-clause-long : goal.returns-clause-long
returns-clause-long c = tail_long 1 c.args.image.now c.requires

pub returns-clause-bytes : goal.returns-clause-bytes
returns-clause-bytes c = tail_at 1 c.args.image.now
