use Rattle.csg_hits.specs.Ready.{pieces_in}
use Rattle.csg_hits.proofs.Further.{asked_with, further_with}
use Rattle.csg_hits.proofs.asking.Search.ask.Goals as goal

pub returns-in-Some-clause-further : goal.returns-in-Some-clause-further
returns-in-Some-clause-further c =
    further_with (pieces_in c.args.built.now) c.args.self.now c.with.result c.args.piece c.in-Some.found (record { object = c.in-Some.ensures.object; first = c.in-Some.ensures.found }) c.with.ensures

pub returns-in-Some-clause-asked : goal.returns-in-Some-clause-asked
returns-in-Some-clause-asked c =
    asked_with (pieces_in c.args.built.now) c.args.self.now c.with.result c.args.piece c.in-Some.found (record { object = c.in-Some.ensures.object; first = c.in-Some.ensures.found }) c.with.ensures
