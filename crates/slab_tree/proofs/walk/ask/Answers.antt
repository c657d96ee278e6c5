use Rattle.std.proofs.Common.{◌≡◌, Some, length, slice_get, refl}
use Rattle.std.proofs.lemmas.Option.{slice_get_read}
use Rattle.csg_hits.specs.Ready.{pieces_in}
use Rattle.slab_tree.proofs.Walking.{unmet}
use Rattle.slab_tree.proofs.walk.ask.Goals as goal

pub returns-else-may_meet-clause-asked : goal.returns-else-may_meet-clause-asked
returns-else-may_meet-clause-asked g c =
    let boxes = c.args.boxes.now in
    let bounds = c.in-Some.bounds.now in
    let at : slice_get boxes c.args.piece ≡ Some bounds = slice_get_read boxes (length boxes) c.args.piece bounds refl c.in-Some.ensures.lookup.3.0 c.in-Some.ensures.lookup.1 in
    unmet (pieces_in c.args.built.now) c.args.piece bounds c.args.search.now (c.requires.boxes.held c.args.piece bounds at) (c.may_meet.ensures c.if-may_meet.false)
