use Rattle.std.proofs.Common.{refl, ◌≡◌, ◌≤◌, ◌<◌, ◌+◌, ◌-◌, ◌*◌, ◌⊎◌, ℕ, length, slice_get, subst, ◌∙◌, arith}
use Rattle.csg_hits.specs.Ready.{pieces_in}
use Rattle.slab_tree.specs.declared.node.Node.{Node}
use Rattle.slab_tree.specs.Trees.{IsAround, IsPlanted, behind}
use Rattle.slab_tree.proofs.Outlining.{wider}
use Rattle.slab_tree.proofs.Planting.{hulled, leaf_around, leaf_written, tree_kept, tree_written, far_place}
use Rattle.slab_tree.proofs.draft.Draft.+plant.Goals as goal

pub returns-then-run-eq1-clause-planted : goal.returns-then-run-eq1-clause-planted
returns-then-run-eq1-clause-planted t c =
    let root : Node = record { bounds = c.leaf_bounds-bounds.result; skip = c.args.place + 1; start = 4 * c.args.run.first } in
    leaf_written (pieces_in c.args.self.now.built) c.args.self.now.order.items c.args.nodes.now c.args.place c.args.run.first c.args.run.last root c.if-run-eq1.true
    (let k = c.requires.room in let m = c.if-run-eq1.true in omega arith) refl refl c.leaf_bounds-bounds.ensures

pub returns-then-run-eq1-clause-around : goal.returns-then-run-eq1-clause-around
returns-then-run-eq1-clause-around t c = leaf_around (pieces_in c.args.self.now.built) c.args.self.now.order.items c.args.run.first c.args.run.last c.leaf_bounds-bounds.result c.if-run-eq1.true c.leaf_bounds-bounds.ensures

pub returns-clause-kept : goal.returns-clause-kept
returns-clause-kept t c =
    let a = c.halves.result.near.first in
    let b = c.halves.result.near.last in
    let h = c.halves.ensures in
    let far : c.args.place + 2 * (b - a) ≡ behind (c.args.place + 1) a b = far_place c.args.place a b h.one.0 in
    let P : ℕ → Type 0 = λ n. (k : ℕ) → (k < n) ⊎ (behind n c.halves.result.far.first c.halves.result.far.last ≤ k) → slice_get c.plant-far_bounds.new.nodes k ≡ slice_get c.plant-near_bounds.new.nodes k in
    let root : Node = record { bounds = c.hull-bounds.result; skip = c.args.place + 2 * (c.args.run.last - c.args.run.first) - 1; start = c.len.result } in
    tree_kept c.args.nodes.now c.plant-near_bounds.new.nodes c.plant-far_bounds.new.nodes c.args.place c.args.run.first c.args.run.last a b c.halves.result.far.first c.halves.result.far.last root h
    c.plant-near_bounds.ensures.kept (subst P far c.plant-far_bounds.ensures.kept)

pub returns-clause-planted : goal.returns-clause-planted
returns-clause-planted t c =
    let s = pieces_in c.args.self.now.built in
    let order = c.args.self.now.order.items in
    let a = c.halves.result.near.first in
    let b = c.halves.result.near.last in
    let d = c.halves.result.far.first in
    let e = c.halves.result.far.last in
    let h = c.halves.ensures in
    let far : c.args.place + 2 * (b - a) ≡ behind (c.args.place + 1) a b = far_place c.args.place a b h.one.0 in
    let P : ℕ → Type 0 = λ n. (k : ℕ) → (k < n) ⊎ (behind n d e ≤ k) → slice_get c.plant-far_bounds.new.nodes k ≡ slice_get c.plant-near_bounds.new.nodes k in
    let Q : ℕ → Type 0 = λ n. IsPlanted s order c.plant-far_bounds.new.nodes n d e in
    let near = c.plant-near_bounds.result in
    let whole = c.hull-bounds.result in
    let around : IsAround s order c.args.run.first c.args.run.last whole = hulled s order c.args.run.first c.args.run.last a b d e near c.plant-far_bounds.result whole h
    (λ piece. wider s piece near whole c.hull-bounds.ensures.first) (λ piece. wider s piece c.plant-far_bounds.result whole c.hull-bounds.ensures.second) c.plant-near_bounds.ensures.around c.plant-far_bounds.ensures.around in
    let root : Node = record { bounds = c.hull-bounds.result; skip = c.args.place + 2 * (c.args.run.last - c.args.run.first) - 1; start = c.len.result } in
    let skip : root.skip ≡ behind c.args.place c.args.run.first c.args.run.last = omega (arith, c.requires.some) in
    let start : root.start ≡ length order = omega (arith, c.len.ensures, c.args.self.now.order.ok.0) in
    let long : length c.plant-far_bounds.new.nodes ≡ length c.args.nodes.now = c.plant-far_bounds.ensures.len ∙ c.plant-near_bounds.ensures.len in
    tree_written s order c.args.nodes.now c.plant-near_bounds.new.nodes c.plant-far_bounds.new.nodes c.args.place c.args.run.first c.args.run.last a b d e root h
    long c.requires.room skip start around (subst P far c.plant-far_bounds.ensures.kept) c.plant-near_bounds.ensures.planted (subst Q far c.plant-far_bounds.ensures.planted)

pub returns-clause-around : goal.returns-clause-around
returns-clause-around t c =
    let s = pieces_in c.args.self.now.built in
    let order = c.args.self.now.order.items in
    let near = c.plant-near_bounds.result in
    let whole = c.hull-bounds.result in
    hulled s order c.args.run.first c.args.run.last c.halves.result.near.first c.halves.result.near.last c.halves.result.far.first c.halves.result.far.last near c.plant-far_bounds.result whole c.halves.ensures
    (λ piece. wider s piece near whole c.hull-bounds.ensures.first) (λ piece. wider s piece c.plant-far_bounds.result whole c.hull-bounds.ensures.second) c.plant-near_bounds.ensures.around c.plant-far_bounds.ensures.around
