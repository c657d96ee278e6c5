use Rattle.std.proofs.Common.{◌≡◌, vec_len}
use Rattle.std.specs.List.{All}
use Rattle.csg_hits.specs.Ready.{pieces_in}
use Rattle.slab_tree.specs.Trees.{IsTrack}
use Rattle.slab_tree.proofs.draft.Draft.tracks.Given as goal

abbrev pub invariant-loop-octant : goal.invariant-loop-octant
invariant-loop-octant l = record {
  octants : vec_len l.tracks ≡ l.octant;
  each : All (λ track. IsTrack (pieces_in l.self.built) l.self.order.items track.nodes.items) l.tracks.items;
}
