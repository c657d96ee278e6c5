use Rattle.std.proofs.Common.{ℕ, ◌<◌}
use Rattle.csg_hits.specs.Hits.{Fits}
use Rattle.csg_hits.specs.Ready.{pieces_in, surfaces_in}
use Rattle.csg_hits.specs.Searches.{IsAsked, IsFurther}
use Rattle.csg_hits.proofs.world.nearest_of_all.Given as goal

abbrev pub invariant-loop-piece : goal.invariant-loop-piece
invariant-loop-piece l = record {
  fits : Fits (surfaces_in l.built) l.s;
  further : IsFurther (pieces_in l.built) l.initial.search l.search;
  asked : (n : ℕ) → n < l.piece → IsAsked (pieces_in l.built) l.search n;
}
