use Rattle.std.proofs.Common.{◌<◌, ◌∙◌, ℕ, List, subst, sym, ap}
use Rattle.block_pool.specs.Counting.{times}
use Rattle.block_pool.proofs.Marking.{marked_here}
use Rattle.block_pool_rows.proofs.workers.work.Goals as goal

pub commit-requires-clause-drawn : goal.commit-requires-clause-drawn
commit-requires-clause-drawn c =
    let d = c.in-Some.ensures.drew in
    let Q : List ℕ → Type 0 = λ xs. 0 < times d.0 xs in
    (d.0, (d.1.0, d.1.1 ∙ sym c.spend-block.ensures), subst Q (sym (ap (λ v. v.drawn) d.2)) (marked_here d.0 _))
