use Rattle.std.proofs.Common.{length, ◌∙◌, sym, refl, arith}
use Rattle.std.proofs.lemmas.Option.{slice_get_read}
use Rattle.state_file.specs.Frames.{layout}
use Rattle.state_file.proofs.Given.{at_below, here_more}
use Rattle.state_file.proofs.lay.lay_all.Goals as goal

pub loop-block-preserved : goal.loop-block-preserved
loop-block-preserved c =
    let at = slice_get_read c.args.blocks.now (length c.args.blocks.now) c.loop-block.block-index c.block-item.result refl
    c.loop-block-test.true c.block-item.is in
    record {
      here = here_more (layout c.args.frame.now) c.args.blocks.now c.loop-block.block-index c.block-item.result c.loop-block.picture
          c.lay_block.new.picture c.requires.given at c.lay_block.ensures.here c.lay_block.ensures.others c.loop-block.invariant.here;
      others = λ b k hb out hk. c.lay_block.ensures.others b k hb (λ e. out (c.loop-block.block-index, c.block-item.result, at, sym e)) hk
          ∙ c.loop-block.invariant.others b k hb out hk;
    }

pub returns-clause-here : goal.returns-clause-here
returns-clause-here c = λ j x at.
    c.loop-block.invariant.here j x (omega (arith, at_below c.args.blocks.now j x at, c.loop-block-test.false)) at
