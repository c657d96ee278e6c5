use Rattle.std.proofs.Common.{refl, sym, ◌∙◌}
use Rattle.storage_times.proofs.Squares.{one_more}
use Rattle.storage_times.proofs.blocks.blocks.Goals as goal

pub loop-index-preserved : goal.loop-index-preserved
loop-index-preserved c =
    one_more c.loop-index.index c.loop-index.list.items _ c.loop-index.invariant refl
    (sym c.in_ok-pixels.pixels.ok.0 ∙ c.in_ok-pixels.ensures.len) c.push.new.self.items c.in_ok-push.ensures.items
