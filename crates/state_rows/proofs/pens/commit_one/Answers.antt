use Rattle.state_rows.proofs.Layouts.{few, one_block}
use Rattle.state_rows.proofs.pens.commit_one.Goals as goal

pub knows-requires : goal.knows-requires
knows-requires c =
    few c.args.pen.frame.geometry c.args.geometry c.args.pen.frame.key.items c.args.index c.requires.frame c.requires.index

pub commit-pen-requires-clause-given : goal.commit-pen-requires-clause-given
commit-pen-requires-clause-given c =
    one_block c.args.pen.frame.geometry c.args.geometry c.args.pen.frame.key.items _ c.requires.frame c.requires.index c.requires.size
