use Rattle.std.proofs.Common.{◌≡◌, ◌∙◌, ap, List}
use Rattle.leaf_boxes.specs.Groups.{shape_box_of}
use Rattle.csg_hits.specs.declared.ready.ReadyLeaf.{ReadyLeaf}
use Rattle.csg_hits.specs.Ready.{leaves_of}
use Rattle.csg_hits.proofs.Extents.{extents, none_bounded, none_value, piece_bounded, piece_value}
use Rattle.csg_hits.proofs.Numbered.{past_in, read_in}
use Rattle.csg_hits.proofs.built.Built.piece_bounds.Goals as goal

pub returns-in-Some-clause-value : goal.returns-in-Some-clause-value
returns-in-Some-clause-value c =
    let x = c.in-Some.piece.now in
    let self = c.args.self.now in
    let r = read_in self.pieces.items c.deref.result.now c.args.piece x c.deref.ensures.value c.in-Some.ensures.lookup.3.0 c.in-Some.ensures.lookup.1 in
    let e : c.shape_box.result ≡ shape_box_of (extents self.leaves.items) x.shape = c.shape_box.ensures.value ∙ ap (λ (ls : List ReadyLeaf). shape_box_of (extents ls) x.shape) c.deref-in-Some.ensures.value in
    piece_value self.leaves.items self.pieces.items c.args.piece x c.shape_box.result r.0 r.1 e

pub returns-in-Some-clause-struck : goal.returns-in-Some-clause-struck
returns-in-Some-clause-struck c =
    let x = c.in-Some.piece.now in
    let self = c.args.self.now in
    let r = read_in self.pieces.items c.deref.result.now c.args.piece x c.deref.ensures.value c.in-Some.ensures.lookup.3.0 c.in-Some.ensures.lookup.1 in
    let e : c.shape_box.result ≡ shape_box_of (extents self.leaves.items) x.shape = c.shape_box.ensures.value ∙ ap (λ (ls : List ReadyLeaf). shape_box_of (extents ls) x.shape) c.deref-in-Some.ensures.value in
    piece_bounded self.leaves.items self.pieces.items c.args.piece x c.shape_box.result r.0 r.1 e

pub returns-in-None-clause-value : goal.returns-in-None-clause-value
returns-in-None-clause-value c =
    let self = c.args.self.now in
    none_value (leaves_of self.leaves.items) self.pieces.items c.args.piece c.whole_world.result (past_in self.pieces.items c.deref.result.now c.args.piece c.deref.ensures.value c.in-None.ensures.lookup.3) c.whole_world.ensures

pub returns-in-None-clause-struck : goal.returns-in-None-clause-struck
returns-in-None-clause-struck c =
    let self = c.args.self.now in
    none_bounded (leaves_of self.leaves.items) self.pieces.items c.args.piece c.whole_world.result (past_in self.pieces.items c.deref.result.now c.args.piece c.deref.ensures.value c.in-None.ensures.lookup.3)
