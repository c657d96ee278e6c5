use Rattle.std.proofs.Common.{arith}
use Rattle.std.proofs.lemmas.Option.{slice_get_within}
use Rattle.std.proofs.lemmas.Bool.{false≢true}
use Rattle.shelf.proofs.ShelfLemmas.{absent_more}
use Rattle.shelf.proofs.mem_shelf.find.Goals as goal

pub loop-place-preserved : goal.loop-place-preserved
loop-place-preserved c = absent_more _ _ _ _ c.index-files-place.is (λ e. absurd (false≢true (c.if-has_name.ensures.1 e))) c.loop-place.invariant

pub returns-clause-absent : goal.returns-clause-absent
returns-clause-absent c = λ k f e. c.loop-place.invariant k f (omega (arith, slice_get_within _ k f e)) e
