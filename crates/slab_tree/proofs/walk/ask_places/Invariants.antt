use Rattle.std.proofs.Common.{ℕ, ◌≡◌, ◌≤◌, ◌<◌, Some, slice_get}
use Rattle.csg_hits.specs.Hits.{Fits}
use Rattle.csg_hits.specs.Ready.{pieces_in, surfaces_in}
use Rattle.csg_hits.specs.Searches.{IsAsked, IsFurther}
use Rattle.slab_tree.proofs.walk.ask_places.Given as goal

abbrev pub invariant-loop-place : goal.invariant-loop-place
invariant-loop-place g l = record {
  fits : Fits (surfaces_in l.built) l.s;
  further : IsFurther (pieces_in l.built) l.fn.search l.search;
  asked : (place piece : ℕ) → l.fn.first ≤ place → place < l.place → slice_get l.pieces place ≡ Some piece → IsAsked (pieces_in l.built) l.search piece;
}
