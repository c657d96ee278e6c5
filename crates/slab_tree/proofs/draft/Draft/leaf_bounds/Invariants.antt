use Rattle.std.proofs.Common.{ℕ, ◌≡◌, ◌≤◌, ◌<◌, Some, slice_get}
use Rattle.csg_hits.specs.Ready.{pieces_in}
use Rattle.slab_tree.specs.Outlines.{IsHeld}
use Rattle.slab_tree.proofs.draft.Draft.leaf_bounds.Given as goal

abbrev pub invariant-loop-place : goal.invariant-loop-place
invariant-loop-place l = (p piece : ℕ) → l.first ≤ p → p < l.place → slice_get l.self.order.items p ≡ Some piece → IsHeld (pieces_in l.self.built) piece l.bounds
