use Rattle.std.proofs.Common.{◌≡◌, ◌<◌, ◌*◌, Some, length, slice_get, refl, arith}
use Rattle.std.proofs.lemmas.Option.{slice_get_read, slice_get_within}
use Rattle.csg_hits.specs.Ready.{pieces_in}
use Rattle.slab_tree.proofs.Outlining.{wider}
use Rattle.slab_tree.proofs.Planting.{around_more, only}
use Rattle.slab_tree.proofs.draft.Draft.leaf_bounds.Goals as goal

pub loop-place-init : goal.loop-place-init
loop-place-init c =
    let d = c.args.self.now in
    let order = d.order.items in
    let lt : 4 * c.args.leaf < length order = omega (arith, c.requires, d.whole, d.order.ok.0) in
    let at : slice_get order (4 * c.args.leaf) ≡ Some c.index.result.now = slice_get_read order (length order) (4 * c.args.leaf) c.index.result.now refl lt c.index.ensures in
    λ p piece low high inside. only (pieces_in d.built) order (4 * c.args.leaf) p piece c.index.result.now c.bounds_of-bounds.result c.bounds_of-bounds.ensures at (omega arith) inside

pub loop-place-preserved : goal.loop-place-preserved
loop-place-preserved c =
    let d = c.args.self.now in
    let s = pieces_in d.built in
    let order = d.order.items in
    let x = c.loop-place.bounds in
    let y = c.bounds_of.result in
    let z = c.hull-bounds.result in
    let n = c.index-in-loop-place.result.now in
    let lt : c.loop-place.place < length order = omega (arith, c.loop-place-test.true, c.min-end.ensures, c.len.ensures, d.order.ok.0) in
    let at : slice_get order c.loop-place.place ≡ Some n = slice_get_read order (length order) c.loop-place.place n refl lt c.index-in-loop-place.ensures in
    around_more s order (4 * c.args.leaf) c.loop-place.place x y z n (λ piece. wider s piece x z c.hull-bounds.ensures.first) (λ piece. wider s piece y z c.hull-bounds.ensures.second)
    c.loop-place.invariant c.bounds_of.ensures at

pub returns : goal.returns
returns c = λ p piece low high inside. c.loop-place.invariant p piece low
    (let within = slice_get_within c.args.self.now.order.items p piece inside in omega (arith, c.loop-place-test.false, c.min-end.ensures, c.len.ensures, c.args.self.now.order.ok.0)) inside
