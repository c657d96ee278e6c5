use Rattle.std.proofs.Common.{⊎_elim, inl, inr, ◌∙◌}
use Rattle.block_pool.proofs.Marking.{drawn_on}
use Rattle.block_pool.proofs.pool.Pool.give_pen.Goals as goal

pub give-requires-clause-tried : goal.give-requires-clause-tried
give-requires-clause-tried g c x tried =
    ⊎_elim (λ k. inl (k.0, c.mark_all.ensures.view.kept ∙ k.1, k.2)) (λ mine. inr (drawn_on c.args.self.now.table.shared.key c.args.seat.now.place.me.0 c.mark_all.new.place.me.0 x c.mark_all.ensures.view.drawn mine)) (c.requires.tried x tried)
