use Rattle.std.proofs.Common.{sym, subst}
use Rattle.leaf_boxes.specs.declared.bounds.Box3.{Box3}
use Rattle.leaf_boxes.specs.Boxes.{IsInBox}
use Rattle.leaf_boxes.proofs.Inside.{in_box}
use Rattle.leaf_boxes.proofs.bounds.leaf_box.Goals as goal

pub returns-clause-inside : goal.returns-clause-inside
returns-clause-inside c = λ p within has.
    let P : Box3 → Type 0 = λ b. IsInBox b p in
    subst P (sym c.made_box.ensures) (in_box c.args.leaf.now c.requires p within has)
