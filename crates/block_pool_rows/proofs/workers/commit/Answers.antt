use Rattle.std.proofs.Common.{⊎_elim, inl, inr, ℕ, subst, sym}
use Rattle.block_pool.proofs.Marking.{drawn_on}
use Rattle.block_pool.specs.Pools.{terms_of, view_of}
use Rattle.block_pool.specs.Views.{IsDrawnBy}
use Rattle.block_pool_rows.proofs.workers.commit.Goals as goal

pub give_pen-requires-clause-opened : goal.give_pen-requires-clause-opened
give_pen-requires-clause-opened c x known =
    let mine = drawn_on (terms_of c.args.pool.now) (view_of c.args.seat.now) (view_of c.take_pen.new.seat) c.args.block c.in-Some.ensures.keeps.drawn c.requires.drawn in
    let Q : ℕ → Type 0 = λ b. IsDrawnBy (terms_of c.args.pool.now) (view_of c.take_pen.new.seat) b in
    ⊎_elim (λ old. inl ((c.in-Some.ensures.lent.committed x).0 old)) (λ same. inr (subst Q (sym same) mine)) (c.commit-fine.ensures.more x known)
