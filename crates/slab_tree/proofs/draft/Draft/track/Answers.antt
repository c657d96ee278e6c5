use Rattle.std.proofs.Common.{◌≡◌, ◌≤◌, ◌*◌, List, length, sym, subst, arith}
use Rattle.std.proofs.lemmas.List.{take_at}
use Rattle.csg_hits.specs.Ready.{pieces_in}
use Rattle.slab_tree.specs.declared.node.Node.{Node}
use Rattle.slab_tree.specs.Trees.{IsTrack, behind}
use Rattle.slab_tree.proofs.Planting.{track_of}
use Rattle.slab_tree.proofs.draft.Draft.track.Goals as goal

pub returns : goal.returns
returns c =
    let d = c.args.self.now in
    let s = pieces_in d.built in
    let order = d.order.items in
    let xs = c.plant.new.nodes in
    let long : c.in_ok-nodes.nodes.len ≡ length xs = omega (arith, c.plant.ensures.len, c.deref_mut.ensures.len) in
    let count : length xs ≡ behind 0 0 c.len-last.result = omega (arith, c.plant.ensures.len, c.deref_mut.ensures.len, c.in_ok-nodes.ensures.len) in
    let filled : length order ≤ 4 * c.len-last.result = omega (arith, d.filled, c.len-last.ensures, d.order.ok.0) in
    let P : List Node → Type 0 = λ l. IsTrack s order l in
    subst P (sym (take_at xs _ c.in_ok-nodes.nodes.len (sym long))) (track_of s order xs c.len-last.result count filled c.plant.ensures.planted)
