use Rattle.state_rows.proofs.Layouts.{few}
use Rattle.state_rows.proofs.pens.is_known.Goals as goal

pub knows-requires : goal.knows-requires
knows-requires c =
    few c.args.pen.now.frame.geometry c.args.geometry c.args.pen.now.frame.key.items c.args.index c.requires.frame c.requires.index
