use Rattle.std.proofs.Common.{ℕ, ◌≡◌, ◌<◌, ◌-◌, Some, length, slice_get, true}
use Rattle.csg_hits.specs.Hits.{Fits}
use Rattle.csg_hits.specs.Ready.{pieces_in, surfaces_in}
use Rattle.csg_hits.specs.Searches.{IsAsked, IsFurther}
use Rattle.slab_tree.specs.Trees.{is_own}
use Rattle.slab_tree.specs.declared.node.Node.{Node}
use Rattle.slab_tree.proofs.walk.walk.Given as goal

abbrev pub invariant-loop-i : goal.invariant-loop-i
invariant-loop-i g l = record {
  fits : Fits (surfaces_in l.built) l.s;
  further : IsFurther (pieces_in l.built) l.fn.search l.search;
  asked : (k place piece : ℕ) (node : Node) → k < l.i → slice_get l.nodes k ≡ Some node → is_own node place ≡ true → slice_get l.order place ≡ Some piece → IsAsked (pieces_in l.built) l.search piece;
}

abbrev pub decreases-loop-i : goal.decreases-loop-i
decreases-loop-i g l = length l.nodes - l.i
