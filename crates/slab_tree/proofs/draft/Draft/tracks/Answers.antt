use Rattle.std.proofs.Common.{List, sym, subst, arith}
use Rattle.std.specs.List.{All}
use Rattle.std.proofs.lemmas.List.Elements.{All-push}
use Rattle.csg_hits.specs.Ready.{pieces_in}
use Rattle.slab_tree.specs.declared.node.Track.{Track}
use Rattle.slab_tree.specs.Trees.{IsTrack}
use Rattle.slab_tree.proofs.draft.Draft.tracks.Goals as goal

pub loop-octant-preserved : goal.loop-octant-preserved
loop-octant-preserved c =
    let s = pieces_in c.args.self.now.built in
    let order = c.args.self.now.order.items in
    let P : Track → Type 0 = λ track. IsTrack s order track.nodes.items in
    let Q : List Track → Type 0 = λ l. All P l in
    record {
      octants = omega (arith, c.in_ok-push.ensures.len, c.loop-octant.invariant.octants);
      each = subst Q (sym c.in_ok-push.ensures.items) (All-push P c.loop-octant.tracks.items c.in_ok-track.field-0 c.loop-octant.invariant.each c.in_ok-track.ensures);
    }
