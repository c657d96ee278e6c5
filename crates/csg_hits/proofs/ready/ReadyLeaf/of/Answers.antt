use Rattle.std.proofs.Common.{◌≡◌, ap, sym, ◌∙◌}
use Rattle.scene_model.specs.declared.shape.Leaf.{Leaf}
use Rattle.shapes.specs.Faces.{faces_of, seen_from}
use Rattle.shapes.specs.Rays.{Position}
use Rattle.shapes.specs.Solids.{solid_faces, is_uncapped}
use Rattle.leaf_boxes.specs.Boxes.{box_of}
use Rattle.leaf_boxes.specs.Holding.{leaf_holds}
use Rattle.csg_hits.proofs.Facing.{open_side}
use Rattle.csg_hits.proofs.ready.ReadyLeaf.of.Goals as goal

pub invariant_of-result : goal.invariant_of-result
invariant_of-result c =
    let leaf = c.of.result.value in
    let faces : (p : Position) → solid_faces c.solid-solid.result p ≡ faces_of leaf p = λ p. c.solid-solid.ensures.faces p ∙ ap (λ (l : Leaf). faces_of l p) (sym c.of.ensures) in
    let uncapped : c.is_open.result ≡ is_uncapped leaf.prim = c.is_open.ensures ∙ c.solid-solid.ensures.ends ∙ ap (λ (l : Leaf). is_uncapped l.prim) (sym c.of.ensures) in
    record {
      faces = faces;
      side = λ is p. open_side leaf (seen_from leaf.spot.anchor p) leaf.prim c.solid-solid.result.body p (sym uncapped ∙ is) (faces p);
      is_uncapped = uncapped;
      is_inverse = ap (λ (l : Leaf). l.inverse) (sym c.of.ensures);
      is_negated = ap (λ (l : Leaf). l.negated) (sym c.of.ensures);
      is_bounds = c.leaf_box-bounds.ensures.value ∙ ap (λ (l : Leaf). box_of l) (sym c.of.ensures);
      inside = λ p within has. c.leaf_box-bounds.ensures.inside p within (ap (λ (l : Leaf). leaf_holds l p) (sym c.of.ensures) ∙ has);
      within = λ p world has. c.around-reach.ensures p world (c.leaf_box-bounds.ensures.inside p world (ap (λ (l : Leaf). leaf_holds l p) (sym c.of.ensures) ∙ has));
    }
