use Rattle.std.proofs.Common.{ℕ, pos, ◌<ℤ◌, ◌≤ℤ◌, subst}
use Rattle.fix_math.specs.Matrices.{row_at}
use Rattle.frame_trace.proofs.Kept.{same_difference}
use Rattle.frame_trace.proofs.smooth.differ.Goals as goal

pub returns-clause-more : goal.returns-clause-more
returns-clause-more c = λ h.
    let P : ℕ → Type 0 = λ n. c.args.threshold <ℤ pos n in
    subst P (same_difference c.stored-first.result c.stored-second.result (row_at c.args.a.now.items c.args.i) (row_at c.args.b.now.items c.args.k) c.stored-first.ensures c.stored-second.ensures) (c.differs.ensures.more h)

pub returns-clause-no_more : goal.returns-clause-no_more
returns-clause-no_more c = λ h.
    let P : ℕ → Type 0 = λ n. pos n ≤ℤ c.args.threshold in
    subst P (same_difference c.stored-first.result c.stored-second.result (row_at c.args.a.now.items c.args.i) (row_at c.args.b.now.items c.args.k) c.stored-first.ensures c.stored-second.ensures) (c.differs.ensures.no_more h)
