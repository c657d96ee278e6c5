use Rattle.std.proofs.Common.{◌≡◌, length, drop, ap, ◌∙◌, sym}
use Rattle.csg_hits.specs.Ready.{pieces_in}
use Rattle.slab_tree.proofs.Outlining.{whole_of}
use Rattle.slab_tree.proofs.world.SlabWorld.build.Goals as goal

pub invariant_of-result : goal.invariant_of-result
invariant_of-result g c =
    let s = pieces_in c.args.b in
    let parts = c.in_ok-apart.field-0 in
    let other = c.arrange.new.order in
    let count : length c.deref.result.now ≡ length s.pieces = ap length c.deref.ensures.value ∙ c.in_ok-boxes.ensures.count in
    record {
      held = c.in_ok-boxes.ensures;
      whole = whole_of (length s.pieces) (length c.deref.result.now) parts.apart.items parts.order.items c.deref_mut.result.now other (drop (length other) parts.order.items) parts.order.len
          count c.deref_mut.ensures.value (sym c.deref_mut.ensures.len) c.arrange.ensures.permutation c.in_ok-apart.ensures;
      octants = c.in_ok-tracks.ensures.octants;
      each = c.in_ok-tracks.ensures.each;
    }
