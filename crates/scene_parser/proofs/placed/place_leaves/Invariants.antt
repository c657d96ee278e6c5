-- What is placed from here on comes to the whole.
use Rattle.std.proofs.Common.{◌≡◌, drop}
use Rattle.std.specs.List.{All}
use Rattle.scene_model.specs.Solids.{IsLeaf}
use Rattle.scene_parser.specs.Placed.{leaf_placed, each, appended}
use Rattle.scene_parser.proofs.placed.place_leaves.Given as goal

abbrev pub invariant-loop-draft : goal.invariant-loop-draft
invariant-loop-draft l = record {
  same : appended l.initial.leaves.items (each (leaf_placed l.numbers l.things) l.drafts) ≡ appended l.leaves.items (each (leaf_placed l.numbers l.things) (drop l.draft-index l.drafts));
  valid : All IsLeaf l.leaves.items;
}
